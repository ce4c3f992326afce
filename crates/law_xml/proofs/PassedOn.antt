-- The elements of a stream that was read can be passed on, if their bytes aren't too many.
use Rattle.std.proofs.Common.{◌≡◌, ℕ, ◌+◌, ◌*◌, ◌≤◌, List, [], ◌++◌, sym, subst}
use Rattle.std.proofs.lemmas.List.Elements.{All-from_recursion}
use Rattle.std.specs.List.{All, AllByRecursion}
use Rattle.xml_names.specs.Grammar.{IsShort}
use Rattle.xml_names.specs.Scopes.{Scope}
use Rattle.xml_names.specs.declared.headers.Header.{Header}
use Rattle.xml_framer.specs.declared.items.Item.{Item}
use Rattle.xml_framer.specs.declared.limits.Limits.{Limits}
use Rattle.xml_framer.specs.declared.states.Phase.{Phase}
use Rattle.xml_framer.specs.declared.states.Phase.TheVariants as phase
use Rattle.law_xml.specs.StreamLimits.{IsEmptyHeaderInWithin, IsHeaderInWithin, IsStreamWithin}
use Rattle.law_xml.specs.Streams.{InForce, SpellsEmptyHeaderIn, SpellsHeaderIn, StreamTo, declared, ended, headed, headed_and_ended, nothing, white_space, with_element}
use Rattle.law_xml.specs.WrittenStreams.{CanPass}
use Rattle.law_xml.proofs.FitsAgain.{read_fits}
use Rattle.law_xml.proofs.PlainElements.{append_each, stream_so_far, top_is_plain}
use Rattle.law_xml.proofs.SpelledTrees.{spelled_tree}

abbrev IsShortScope : Limits → Scope → Type 0
IsShortScope limits scope = All (IsShort limits.namespace_bytes) scope

head_short : (limits : Limits) (p : Phase) (outer : Scope) (bytes name : List ℕ) (scope : Scope) (h : Header) (spelled : SpellsHeaderIn p outer bytes name scope h)
    → IsHeaderInWithin limits p outer bytes name scope h spelled → IsShortScope limits scope
head_short limits phase.First outer bytes name scope h n within = subst (IsShortScope limits) n.scope_is within.tag.1
head_short limits phase.FirstDeclared outer bytes name scope h n within = subst (IsShortScope limits) n.scope_is within.tag.1
head_short limits phase.Between outer bytes name scope h n within = subst (IsShortScope limits) n.spelled.scope_is within.head.tag.1
head_short limits phase.Declared outer bytes name scope h n within = subst (IsShortScope limits) n.spelled.scope_is within.head.tag.1
head_short limits phase.Ended outer bytes name scope h n within = absurd n

empty_head_short : (limits : Limits) (p : Phase) (outer : Scope) (bytes name : List ℕ) (scope : Scope) (h : Header) (spelled : SpellsEmptyHeaderIn p outer bytes name scope h)
    → IsEmptyHeaderInWithin limits p outer bytes name scope h spelled → IsShortScope limits scope
empty_head_short limits phase.First outer bytes name scope h n within = subst (IsShortScope limits) n.scope_is within.tag.1
empty_head_short limits phase.FirstDeclared outer bytes name scope h n within = subst (IsShortScope limits) n.scope_is within.tag.1
empty_head_short limits phase.Between outer bytes name scope h n within = subst (IsShortScope limits) n.spelled.scope_is within.head.tag.1
empty_head_short limits phase.Declared outer bytes name scope h n within = subst (IsShortScope limits) n.spelled.scope_is within.head.tag.1
empty_head_short limits phase.Ended outer bytes name scope h n within = absurd n

-- limits of what is read, and of what is written
record Wider (read most : Limits) : Type 0 where
  attributes : 2 * read.attributes + 1 ≤ most.attributes
  names : read.namespace_bytes ≤ most.namespace_bytes
  depth : read.depth ≤ most.depth

record CanPassSoFar (read most : Limits) (now : InForce) (said : List Item) : Type 0 where
  scope : IsShortScope read now.scope
  items : AllByRecursion (CanPass most) said

more_items : (most : Limits) (items given more : List Item) → items ≡ given ++ more → AllByRecursion (CanPass most) given → AllByRecursion (CanPass most) more → AllByRecursion (CanPass most) items
more_items most items given more are h k = subst (AllByRecursion (CanPass most)) (sym are) (append_each (CanPass most) given more h k)

pass_so_far : (read most : Limits) (now : InForce) (bytes : List ℕ) (items : List Item) (s : StreamTo now bytes items) → Wider read most → IsStreamWithin read now bytes items s → CanPassSoFar read most now items
pass_so_far read most now bytes items (nothing _ _ _ is_first no_scope no_name no_bytes no_items) w within =
    record { scope = subst (IsShortScope read) (sym no_scope) (All-from_recursion (IsShort read.namespace_bytes) [] tt); items = subst (AllByRecursion (CanPass most)) (sym no_items) tt }
pass_so_far read most now bytes items (white_space _ _ _ front space so_far white bytes_are) w within = pass_so_far read most now front items so_far w within
pass_so_far read most now bytes items (declared _ _ _ before front tag so_far phases scope_is name_is good bytes_are) w within =
    let r = pass_so_far read most before front items so_far w within.0 in record { scope = subst (IsShortScope read) (sym scope_is) r.scope; items = r.items }
pass_so_far read most now bytes items (headed _ _ _ before front tag given h so_far spelled phase_is bytes_are items_are) w within =
    let r = pass_so_far read most before front given so_far w within.0 in
    record { scope = head_short read before.phase before.scope tag now.name now.scope h spelled within.1; items = more_items most items given _ items_are r.items (tt, tt) }
pass_so_far read most now bytes items (headed_and_ended _ _ _ before front tag given h so_far spelled phase_is bytes_are items_are) w within =
    let r = pass_so_far read most before front given so_far w within.0 in
    record { scope = empty_head_short read before.phase before.scope tag now.name now.scope h spelled within.1; items = more_items most items given _ items_are r.items (tt, (tt, tt)) }
pass_so_far read most now bytes items (with_element _ _ _ front inside given e so_far phase_is spelled bytes_are items_are) w within =
    let r = pass_so_far read most now front given so_far w within.0 in
    let plain = (stream_so_far now front given so_far).scope in
    record {
      scope = r.scope;
      items = more_items most items given _ items_are r.items (
        (λ short. (
          spelled_tree now.scope inside e spelled.spelled,
          top_is_plain now.scope inside e plain spelled,
          read_fits read most now.scope inside e spelled.spelled r.scope within.1 w.attributes w.names w.depth short,
        )),
        tt,
      );
    }
pass_so_far read most now bytes items (ended _ _ _ before front tag given so_far was_between spelled phase_is scope_is name_is bytes_are items_are) w within =
    let r = pass_so_far read most before front given so_far w within in
    record { scope = subst (IsShortScope read) (sym scope_is) r.scope; items = more_items most items given _ items_are r.items (tt, tt) }

pub stream_can_pass : (read most : Limits) (now : InForce) (bytes : List ℕ) (items : List Item) (s : StreamTo now bytes items) → IsStreamWithin read now bytes items s → 2 * read.attributes + 1 ≤ most.attributes
    → read.namespace_bytes ≤ most.namespace_bytes → read.depth ≤ most.depth → All (CanPass most) items
stream_can_pass read most now bytes items s within few names deep =
    All-from_recursion (CanPass most) items (pass_so_far read most now bytes items s (record { attributes = few; names = names; depth = deep }) within).items
