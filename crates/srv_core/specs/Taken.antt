-- What took effect of a piece, for the parts of the code that take it.
use Rattle.std.specs.Prelude.{◌≡◌, ℕ, List, [], ◌∷◌, ◌++◌, Option, Some, None, Result, Ok, Err}
use Rattle.std.specs.Map.{remove_entry, set_value}
use Rattle.xml_framer.specs.Machine.{IsFrontOf}
use Rattle.xml_framer.specs.States as framing
use Rattle.xml_framer.specs.States.{Turn}
use Rattle.xml_framer.specs.declared.fault.FeedFault.{FeedFault}
use Rattle.xml_framer.specs.declared.fault.FeedFault.TheVariants as feed
use Rattle.xml_framer.specs.declared.items.Item.{Item}
use Rattle.srv_core.specs.Events.{Framers, after_turn, at_piece, fed, turn_of}
use Rattle.srv_state.specs.Moments.{gone_at}
use Rattle.srv_state.specs.State.{Step, is_number}
use Rattle.srv_core.specs.Table.{after_items}
use Rattle.xml_writer.specs.Items.{written_item}

-- what is put are bytes
abbrev pub Seen : Type 0
Seen = Step (List ℕ)

-- ---- items

-- some first items took effect
pub record HasTaken (k : ℕ) (all : List Item) (old new : Seen) : Type 0 where
  pub done : List Item
  pub front : IsFrontOf done all
  pub step : new ≡ after_items written_item k done old

-- some first items took effect, and these are left
pub record Went (k : ℕ) (all left : List Item) (old new : Seen) : Type 0 where
  pub done : List Item
  pub whole : all ≡ done ++ left
  pub step : new ≡ after_items written_item k done old

-- ---- a framer

-- what a framer answers of a piece, the items that came, and what it is then
abbrev pub FramerAnswers : Result (Unit {0}) FeedFault → Turn → List Item → framing.State → Type 0
FramerAnswers (Ok x) t items f = (items ≡ t.items) × (f ≡ t.state) × (t.state.fault ≡ None)
FramerAnswers (Err (feed.Fault e)) t items f = (items ≡ t.items) × (f ≡ t.state) × (t.state.fault ≡ Some e)
FramerAnswers (Err feed.NoMemory) t items f = IsFrontOf items t.items

-- the same of the framers, where one has the number
abbrev pub FramersAnswer : Result (Unit {0}) FeedFault → ℕ → Turn → List Item → Framers → Framers → Type 0
FramersAnswer (Ok x) k t items old new = (items ≡ t.items) × (new ≡ set_value (is_number k) old t.state) × (t.state.fault ≡ None)
FramersAnswer (Err (feed.Fault e)) k t items old new = (items ≡ t.items) × (new ≡ set_value (is_number k) old t.state) × (t.state.fault ≡ Some e)
FramersAnswer (Err feed.NoMemory) k t items old new = IsFrontOf items t.items × (remove_entry (is_number k) new ≡ remove_entry (is_number k) old)

-- ---- a piece

-- it was taken over
pub record TurnIsDone (k : ℕ) (t : Turn) (old new : Framers) (s u : Seen) : Type 0 where
  pub step : u ≡ after_turn written_item k t s
  pub framers_are : new ≡ set_value (is_number k) old t.state

-- or some first items of it were
pub record TurnStops (k : ℕ) (t : Turn) (old new : Framers) (s u : Seen) : Type 0 where
  pub taken : HasTaken k t.items s u
  pub framers_are : remove_entry (is_number k) new ≡ remove_entry (is_number k) old

abbrev pub IsPiece : ℕ → List ℕ → Option framing.State → Framers → Framers → Seen → Seen → Type 0
IsPiece k piece None old new s u = ⊥
IsPiece k piece (Some f) old new s u = TurnIsDone k (turn_of piece f) old new s u

abbrev pub PieceStops : ℕ → List ℕ → Option framing.State → Framers → Framers → Seen → Seen → Type 0
PieceStops k piece None old new s u = ⊥
PieceStops k piece (Some f) old new s u = TurnStops k (turn_of piece f) old new s u

-- ---- an event

-- its bytes were taken over
pub record IsEvent (k : ℕ) (piece : List ℕ) (o : Option framing.State) (old new : Framers) (s u : Seen) : Type 0 where
  pub step : u ≡ at_piece written_item k piece o s
  pub framers_are : new ≡ fed k piece o old

-- or some first items of them were, and the connection is gone
pub record GoneIn (k : ℕ) (t : Turn) (old new : Framers) (s u : Seen) : Type 0 where
  pub done : List Item
  pub front : IsFrontOf done t.items
  pub server_state : u.server_state ≡ gone_at k (after_items written_item k done s).server_state
  pub outputs : u.outs ≡ (after_items written_item k done s).outs
  pub framers_are : new ≡ remove_entry (is_number k) old

abbrev pub EventStops : ℕ → List ℕ → Option framing.State → Framers → Framers → Seen → Seen → Type 0
EventStops k piece None old new s u = ⊥
EventStops k piece (Some f) old new s u = GoneIn k (turn_of piece f) old new s u
