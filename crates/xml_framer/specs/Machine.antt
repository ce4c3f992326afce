-- A framer as a machine: how its state and the items change with each byte. What decides a fault or an item is said of
-- whole tokens, at the byte that ends or breaks them.
use Rattle.std.specs.Prelude.{ℕ, ◌≡◌, ◌<◌, ◌≤◌, ◌++◌, length, take, nat_lt, nat_le, Bool, not, ◌&&◌, ◌||◌, ◌==◌, if◌then◌else◌, List, [], ◌∷◌, Option, Some, None}
use Rattle.std.specs.Option.{is_some}
use Rattle.xml_tokens.specs.Tags.{is_empty}
use Rattle.xml_tokens.specs.Utf8.{continues, held_after}
use Rattle.xml_framer.specs.MarkupSteps.{in_bang, in_declaration, in_question}
use Rattle.xml_framer.specs.States.{State, Turn, counted, fails, is_opening, is_text, may_declare, moved, next_position, token_position}
use Rattle.xml_framer.specs.TagSteps.{in_footer, in_opening, in_tag}
use Rattle.xml_framer.specs.TextSteps.{in_reference, in_section, in_text}
use Rattle.xml_framer.specs.declared.fault.Fault.{Fault}
use Rattle.xml_framer.specs.declared.fault.FeedFault.{FeedFault}
use Rattle.xml_framer.specs.declared.fault.FeedFault.TheVariants as feed
use Rattle.xml_framer.specs.declared.items.Item.{Item}
use Rattle.xml_framer.specs.declared.fault.Why.TheVariants.{Encoding, TooLong}
use Rattle.xml_framer.specs.declared.states.Mode.{Mode}
use Rattle.xml_framer.specs.declared.states.Mode.TheVariants as mode

-- the byte behind `<` outside elements shows that what begins has no limit
abbrev pub shows_unlimited : State → ℕ → Bool
shows_unlimited s b = is_opening s.lexical.mode && (not (is_some s.here) && (b == 47 || (b == 33 || (b == 63 && not (may_declare s)))))

-- the byte is one past the limit
unfoldable pub is_too_long : State → ℕ → Bool
is_too_long s b = nat_lt 0 s.positions.used && (nat_le s.limits.bytes s.positions.used && not (shows_unlimited s b))

abbrev pub taken_in : Mode → Turn → ℕ → Turn
taken_in mode.Text t b = moved t (in_text t.state b)
taken_in mode.Reference t b = moved t (in_reference t.state b)
taken_in mode.Opening t b = in_opening t b
taken_in mode.Bang t b = moved t (in_bang t.state b)
taken_in mode.Question t b = moved t (in_question t.state b)
taken_in mode.Declaration t b = moved t (in_declaration t.state b)
taken_in mode.Tag t b = in_tag t b
taken_in mode.Footer t b = in_footer t b
taken_in mode.Section t b = moved t (in_section t.state b)

unfoldable pub taken : Turn → ℕ → Turn
taken t b = taken_in t.state.lexical.mode t b

-- the byte is behind
abbrev pub passed : State → ℕ → State
passed s b = record s { positions = record s.positions { at = next_position s.positions.at }; pending = held_after s.pending b }

abbrev pub behind_byte : Turn → ℕ → Turn
behind_byte t b = moved t (passed t.state b)

-- Where one byte decides several faults, its place past the limit comes before its not being UTF-8, and both come before
-- what it does to the token.
unfoldable pub goes_on : Turn → ℕ → Turn
goes_on t b =
    if is_too_long t.state b then moved t (fails t.state t.state.positions.item_at TooLong)
    else (if not (continues t.state.pending b) then moved t (fails t.state (token_position t.state) Encoding)
    else behind_byte (taken (moved t (counted t.state)) b) b)

-- behind a fault nothing changes
abbrev pub step : Turn → ℕ → Turn
step t b = if is_some t.state.fault then t else goes_on t b

abbrev pub run : Turn → List ℕ → Turn
run t [] = t
run t (b ∷ bs) = run (step t b) bs

-- The place of what is unfinished: the first byte of the top-level element or, outside one, of the token or character.
unfoldable pub part_of : State → Option ℕ
part_of s =
    if is_some s.fault || s.lexical.spent then None
    else (if is_some s.here || (not (is_text s.lexical.mode) || not (is_empty s.pending)) then Some s.positions.item_at else None)

-- ---- what a call says

abbrev pub IsFrontOf : List Item → List Item → Type 0
IsFrontOf front all = (more : List Item) × (all ≡ front ++ more)

-- a turn that takes the first n bytes
pub record TakesFront (old new : Turn) (bytes : List ℕ) (n : ℕ) : Type 0 where
  pub some : 0 < n
  pub bound : n ≤ length bytes
  pub done : new ≡ run old (take n bytes)

-- an answer is a state's fault, or no fault
abbrev pub IsFault : FeedFault → Option Fault → Type 0
IsFault (feed.Fault f) fault = fault ≡ Some f
IsFault feed.NoMemory fault = ⊥

-- an answer is the fault of the run of all bytes, or want of memory
abbrev pub HasFault : FeedFault → Turn → Turn → List ℕ → Type 0
HasFault (feed.Fault f) old new bytes = (new ≡ run old bytes) × (new.state.fault ≡ Some f)
HasFault feed.NoMemory old new bytes = Unit {0}
