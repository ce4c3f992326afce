-- The state of a framer: what it knows of a stream from the bytes so far (RFC 6120, section 4; XML 1.0, section 2.1).
use Rattle.std.specs.Prelude.{ℕ, ◌+◌, ◌-◌, ◌^◌, min, Bool, true, false, not, ◌&&◌, ◌==◌, if◌then◌else◌, List, [], ◌∷◌, ◌++◌, Option, Some, None, length}
use Rattle.std.specs.Option.{is_some}
use Rattle.xml_names.specs.Scopes.{Scope}
use Rattle.xml_trees.specs.Tidied.{text_node}
pub use Rattle.xml_open.specs.Open.{OpenElement, with_more}
use Rattle.xml_framer.specs.declared.fault.Fault.{Fault}
use Rattle.xml_framer.specs.declared.fault.Why.{Why}
use Rattle.xml_framer.specs.declared.items.Item.{Item}
use Rattle.xml_framer.specs.declared.limits.Limits.{Limits}
use Rattle.xml_framer.specs.declared.states.Lexical.{Lexical}
use Rattle.xml_framer.specs.declared.states.Mode.{Mode}
use Rattle.xml_framer.specs.declared.states.Mode.TheVariants as mode
use Rattle.xml_framer.specs.declared.states.Phase.{Phase}
use Rattle.xml_framer.specs.declared.states.Phase.TheVariants as phase
use Rattle.xml_framer.specs.declared.states.Positions.{Positions}

pub record State : Type 0 where
  pub limits : Limits
  pub positions : Positions
  pub lexical : Lexical
  -- the bytes of the token in hand
  pub token : List ℕ
  -- the bytes of the character in hand
  pub pending : List ℕ
  -- the text behind the last tag of the innermost open element
  pub chars : List ℕ
  -- the innermost open element, and those around it, the innermost first
  pub here : Option OpenElement
  pub below : List OpenElement
  -- the declarations of the open elements, the innermost first, and then of the last header
  pub scopes : List Scope
  -- the name of the last header as it is spelled
  pub name : List ℕ
  pub fault : Option Fault

-- a state, and the items that were given up to it
pub record Turn : Type 0 where
  pub state : State
  pub items : List Item

abbrev pub turn : State → List Item → Turn
turn s items = record { state = s; items = items }

abbrev pub from_start : Limits → State
from_start limits = record {
  limits = limits;
  positions = record { at = 0; item_at = 0; token_at = 0; used = 0 };
  lexical = record { phase = phase.First; mode = mode.Text; quote = None; in_run = false; returned = false; brackets = 0; spoiled = false; spent = false };
  token = [];
  pending = [];
  chars = [];
  here = None;
  below = [];
  scopes = [];
  name = [];
  fault = None;
}

-- ---- changes

-- places stay at 2 ^ 64 - 1 once there
abbrev pub next_position : ℕ → ℕ
next_position n = min (n + 1) (2 ^ 64 - 1)

-- the byte is counted where what it belongs to is
abbrev pub counted : State → State
counted s = record s { positions = record s.positions { used = if s.positions.used == 0 then 0 else next_position s.positions.used } }

abbrev pub fails : State → ℕ → Why → State
fails s at why = record s { fault = Some (record { at = at; why = why }) }

-- the token in hand has a fault
abbrev pub token_fails : State → Why → State
token_fails s why = fails s s.positions.token_at why

abbrev pub in_mode : State → Mode → State
in_mode s m = record s { lexical = record s.lexical { mode = m } }

-- a byte more in the token
abbrev pub gathered : State → ℕ → State
gathered s b = record s { token = s.token ++ b ∷ [] }

abbrev pub gathered_in : State → Mode → ℕ → State
gathered_in s m b = gathered (in_mode s m) b

-- a token ends, and nothing is in hand
abbrev pub token_ended : State → State
token_ended s = record s { token = []; lexical = record s.lexical { mode = mode.Text; quote = None; in_run = false; spoiled = false } }

-- what stands between top-level elements ends
abbrev pub item_ended : State → State
item_ended s = record (token_ended s) { positions = record s.positions { used = 0 } }

-- a run of text begins
abbrev pub run_begun : State → State
run_begun s = record s { positions = record s.positions { token_at = s.positions.at }; lexical = record s.lexical { in_run = true; returned = false; brackets = 0 } }

-- the same, unless one has
abbrev pub in_run : State → State
in_run s = if s.lexical.in_run then s else run_begun s

-- a token begins with the next byte
abbrev pub token_begun : State → Mode → State
token_begun s m = record s { positions = record s.positions { token_at = s.positions.at }; lexical = record s.lexical { mode = m; in_run = false; returned = false; brackets = 0 } }

-- an element, header tag or declaration may begin with the next byte
abbrev pub item_begun : State → State
item_begun s = if is_some s.here then s else record s { positions = record s.positions { item_at = s.positions.at; used = 1 } }

abbrev pub moved : Turn → State → Turn
moved t s = record t { state = s }

abbrev pub gives : State → List Item → Item → Turn
gives s items item = record { state = s; items = items ++ item ∷ [] }

-- the open element with the text behind its last tag
abbrev pub with_text : OpenElement → List ℕ → OpenElement
with_text o chars = with_more o (text_node chars)

-- ---- questions

abbrev pub is_text : Mode → Bool
is_text mode.Text = true
is_text m = false

abbrev pub is_opening : Mode → Bool
is_opening mode.Opening = true
is_opening m = false

-- A declaration may stand before each header, with white space between.
abbrev pub admits_declaration : Phase → Bool
admits_declaration phase.First = true
admits_declaration phase.Between = true
admits_declaration p = false

abbrev pub may_declare : State → Bool
may_declare s = not (is_some s.here) && admits_declaration s.lexical.phase

-- the place of the first byte of the token that the next byte belongs to, where it begins none
abbrev pub token_position : State → ℕ
token_position s = if is_text s.lexical.mode && not s.lexical.in_run then s.positions.at else s.positions.token_at

-- how many elements are open
abbrev pub open_count : State → ℕ
open_count s = if is_some s.here then length s.below + 1 else 0
