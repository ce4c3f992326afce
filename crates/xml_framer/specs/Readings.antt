-- What the bytes of a stream say so far: the items that they give, the fault that they decide, and where what is
-- unfinished begins. That, and which bytes a framer stands for, is all that a user needs to know of it.
use Rattle.std.specs.Prelude.{ℕ, ◌≡◌, List, [], ◌++◌, Option, Some, None, Result, Ok, Err, length, drop}
use Rattle.xml_framer.specs.Machine.{IsFrontOf, part_of, run}
use Rattle.xml_framer.specs.States.{State, Turn, from_start, turn}
use Rattle.xml_framer.specs.declared.fault.Fault.{Fault}
use Rattle.xml_framer.specs.declared.fault.FeedFault.{FeedFault}
use Rattle.xml_framer.specs.declared.fault.FeedFault.TheVariants as feed
use Rattle.xml_framer.specs.declared.items.Item.{Item}
use Rattle.xml_framer.specs.declared.limits.Limits.{Limits}

-- the machine behind the first bytes of a stream
unfoldable pub framed : Limits → List ℕ → Turn
framed limits bytes = run (turn (from_start limits) []) bytes

-- the items that the bytes give, in order
abbrev pub items_of : Limits → List ℕ → List Item
items_of limits bytes = (framed limits bytes).items

-- the fault that the bytes decide: the first that the earliest such byte decides
abbrev pub fault_of : Limits → List ℕ → Option Fault
fault_of limits bytes = (framed limits bytes).state.fault

-- where what the bytes leave unfinished begins
abbrev pub part_at : Limits → List ℕ → Option ℕ
part_at limits bytes = part_of (framed limits bytes).state

-- the items that a piece behind the bytes adds
abbrev pub items_after : Limits → List ℕ → List ℕ → List Item
items_after limits bytes piece = drop (length (items_of limits bytes)) (items_of limits (bytes ++ piece))

-- A framer stands for the bytes so far. After want of memory it stands for none, since no bytes make the machine spent.
pub record Stands (s : State) (limits : Limits) (bytes : List ℕ) : Type 0 where
  pub state_is : s ≡ (framed limits bytes).state

-- A framer that stood for some bytes has taken a piece: it stands for both, and these items were added.
pub record HasTaken (limits : Limits) (bytes piece : List ℕ) (items : List Item) (new : State) (all : List Item) : Type 0 where
  pub stands : Stands new limits (bytes ++ piece)
  pub items_are : all ≡ items ++ items_after limits bytes piece

-- What an answer to a piece says of a framer that stood for some bytes. Want of memory leaves the first items of those due.
abbrev pub IsReadBy : Result (Unit {0}) FeedFault → Limits → List ℕ → List ℕ → List Item → State → List Item → Type 0
IsReadBy (Ok u) limits bytes piece items new all = HasTaken limits bytes piece items new all × (fault_of limits (bytes ++ piece) ≡ None)
IsReadBy (Err (feed.Fault f)) limits bytes piece items new all = HasTaken limits bytes piece items new all × (fault_of limits (bytes ++ piece) ≡ Some f)
IsReadBy (Err feed.NoMemory) limits bytes piece items new all = IsFrontOf all (items ++ items_after limits bytes piece)
