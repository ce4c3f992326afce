-- Streams within the limits of a framer (RFC 6120, section 4.9.3.14): each header's tag, element and declaration is.
use Rattle.std.specs.Prelude.{ℕ, ◌≡◌, ◌≤◌, List, [], None, length}
use Rattle.xml_names.specs.Scopes.{Scope}
use Rattle.xml_names.specs.declared.headers.Header.{Header}
use Rattle.xml_framer.specs.Machine.{part_of, run}
use Rattle.law_xml.specs.Standing.{StandsOutside}
use Rattle.xml_framer.specs.States.{State, from_start, turn}
use Rattle.law_xml.specs.Streams.{InForce, SpellsEmptyHeaderIn, SpellsHeaderIn, StreamTo, declared, ended, headed, headed_and_ended, nothing, position_of, white_space, with_element}
use Rattle.law_xml.specs.Within.{IsElementWithin, IsHeadWithin, IsNextHeadWithin}
use Rattle.xml_framer.specs.declared.items.Item.{Item}
use Rattle.xml_framer.specs.declared.limits.Limits.{Limits}
use Rattle.xml_framer.specs.declared.states.Phase.{Phase}
use Rattle.xml_framer.specs.declared.states.Phase.TheVariants as phase

-- The tag of a header that may stand there is within the limits.
abbrev pub IsHeaderInWithin : (limits : Limits) (p : Phase) (scope : Scope) (bytes name : List ℕ) (inner : Scope) (h : Header) → SpellsHeaderIn p scope bytes name inner h → Type 0
IsHeaderInWithin limits phase.First scope bytes name inner h spelled = IsHeadWithin limits bytes spelled.raw spelled.tag
IsHeaderInWithin limits phase.FirstDeclared scope bytes name inner h spelled = IsHeadWithin limits bytes spelled.raw spelled.tag
IsHeaderInWithin limits phase.Between scope bytes name inner h spelled = IsNextHeadWithin limits bytes spelled.spelled.raw spelled.spelled.tag
IsHeaderInWithin limits phase.Declared scope bytes name inner h spelled = IsNextHeadWithin limits bytes spelled.spelled.raw spelled.spelled.tag
IsHeaderInWithin limits phase.Ended scope bytes name inner h spelled = ⊥

-- the same for the tag of an empty element
abbrev pub IsEmptyHeaderInWithin : (limits : Limits) (p : Phase) (scope : Scope) (bytes name : List ℕ) (inner : Scope) (h : Header) → SpellsEmptyHeaderIn p scope bytes name inner h → Type 0
IsEmptyHeaderInWithin limits phase.First scope bytes name inner h spelled = IsHeadWithin limits bytes spelled.raw spelled.tag
IsEmptyHeaderInWithin limits phase.FirstDeclared scope bytes name inner h spelled = IsHeadWithin limits bytes spelled.raw spelled.tag
IsEmptyHeaderInWithin limits phase.Between scope bytes name inner h spelled = IsNextHeadWithin limits bytes spelled.spelled.raw spelled.spelled.tag
IsEmptyHeaderInWithin limits phase.Declared scope bytes name inner h spelled = IsNextHeadWithin limits bytes spelled.spelled.raw spelled.spelled.tag
IsEmptyHeaderInWithin limits phase.Ended scope bytes name inner h spelled = ⊥

-- A stream so far is within the limits. A declaration has the limit on bytes too, and a footer has none.
abbrev pub IsStreamWithin : (limits : Limits) (now : InForce) (bytes : List ℕ) (items : List Item) → StreamTo now bytes items → Type 0
IsStreamWithin limits now bytes items (nothing _ _ _ is_first no_scope no_name no_bytes no_items) = Unit {0}
IsStreamWithin limits now bytes items (white_space _ _ _ front space so_far white bytes_are) = IsStreamWithin limits now front items so_far
IsStreamWithin limits now bytes items (declared _ _ _ before front tag so_far phases scope_is name_is good bytes_are) =
    IsStreamWithin limits before front items so_far × (length tag ≤ limits.bytes)
IsStreamWithin limits now bytes items (headed _ _ _ before front tag given h so_far spelled phase_is bytes_are items_are) =
    IsStreamWithin limits before front given so_far × IsHeaderInWithin limits before.phase before.scope tag now.name now.scope h spelled
IsStreamWithin limits now bytes items (headed_and_ended _ _ _ before front tag given h so_far spelled phase_is bytes_are items_are) =
    IsStreamWithin limits before front given so_far × IsEmptyHeaderInWithin limits before.phase before.scope tag now.name now.scope h spelled
IsStreamWithin limits now bytes items (with_element _ _ _ front inside given e so_far phase_is spelled bytes_are items_are) =
    IsStreamWithin limits now front given so_far × IsElementWithin limits now.scope inside e spelled.spelled
IsStreamWithin limits now bytes items (ended _ _ _ before front tag given so_far was_between spelled phase_is scope_is name_is bytes_are items_are) =
    IsStreamWithin limits before front given so_far

-- Bytes from the first on are read as these items and no others, without a fault. Behind them this is in force, nothing
-- is unfinished, and the next byte has the place behind them.
pub record IsReadAs (limits : Limits) (now : InForce) (bytes : List ℕ) (items : List Item) : Type 0 where
  pub following : State
  pub run_is : run (turn (from_start limits) []) bytes ≡ turn following items
  pub stands : StandsOutside following now.phase now.scope now.name
  pub no_part : part_of following ≡ None
  pub position : following.positions.at ≡ position_of (length bytes)
