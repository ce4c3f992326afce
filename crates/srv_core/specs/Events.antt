-- The events: a connection comes, brings bytes and goes, and time passes.
use Rattle.std.specs.Prelude.{◌≡◌, ℕ, Bool, false, List, [], ◌∷◌, ◌++◌, Option, Some, None, drop, is_some, length}
use Rattle.std.specs.BTreeMap.{insert_entry}
use Rattle.std.specs.Map.{lookup, remove_entry, set_value}
use Rattle.std.specs.Ordering.{nat_cmp}
use Rattle.xml_framer.specs.Limits.{server_limits}
use Rattle.xml_framer.specs.Machine.{IsFrontOf, part_of, run}
use Rattle.xml_framer.specs.States as framing
use Rattle.xml_framer.specs.States.{Turn, from_start, turn}
use Rattle.xml_framer.specs.declared.fault.Fault.{Fault}
use Rattle.xml_framer.specs.declared.fault.Why.{Why}
use Rattle.xml_framer.specs.declared.fault.Why.TheVariants as why
use Rattle.xml_framer.specs.declared.items.Item.{Item}
use Rattle.im_replies.specs.declared.conditions.StreamCondition.{StreamCondition}
use Rattle.im_replies.specs.declared.conditions.StreamCondition.TheVariants as stream
use Rattle.srv_state.specs.Moments.{at_moment, gone_at, with_fresh}
use Rattle.srv_state.specs.State.{Out, ServerState, Shut, Step, is_number}
use Rattle.srv_state.specs.Steps.{Act, acted}
use Rattle.srv_state.specs.Streams.{ending, standing_at}
use Rattle.srv_core.specs.Table.{after_items}
use Rattle.srv_state.specs.declared.connection.Standing.{Standing}
use Rattle.xml_writer.specs.Items.{ItemOut}

abbrev pub begun : {A : Type 0} → ℕ → ServerState A → List (Out A) → Step A
begun now h outs = record { server_state = at_moment now h; outs = outs }

-- ---- what streams know of their bytes, beside what items act on

abbrev pub Framers : Type 0
Framers = List (ℕ × framing.State)

pub record Whole (A : Type 0) : Type 0 where
  pub server_state : ServerState A
  pub framers : Framers

abbrev pub whole : {A : Type 0} → ServerState A → Framers → Whole A
whole h framers = record { server_state = h; framers = framers }

abbrev pub framer_at : ℕ → Framers → Option framing.State
framer_at k framers = lookup (is_number k) framers

-- whether a framer holds an unfinished item
abbrev pub holds_part : Option framing.State → Bool
holds_part None = false
holds_part (Some f) = is_some (part_of f)

-- ---- a connection comes

abbrev pub after_connect : {A : Type 0} → ℕ → List ℕ → ℕ → Whole A → Whole A
after_connect k entropy now w = whole (with_fresh k entropy (at_moment now w.server_state)) (insert_entry nat_cmp w.framers k (from_start server_limits))

-- ---- bytes

-- the condition for a fault of the stream (RFC 6120, section 4.9.3)
abbrev pub fault_condition : Why → StreamCondition
fault_condition why.Restricted = stream.RestrictedXml
fault_condition why.NotWellFormed = stream.NotWellFormed
fault_condition why.Encoding = stream.UnsupportedEncoding
fault_condition w = stream.PolicyViolation

abbrev pub at_fault : {A : Type 0} → (ItemOut → A) → ℕ → Fault → Option Standing → ServerState A → List (Act A)
at_fault say k f None h = []
at_fault say k f (Some st) h = ending say k (fault_condition f.why) st h

abbrev pub after_fault : {A : Type 0} → (ItemOut → A) → ℕ → Option Fault → Step A → Step A
after_fault say k None s = s
after_fault say k (Some f) s = acted say (at_fault say k f (standing_at k s.server_state) s.server_state) s

-- the items that a piece gives behind the bytes before it
abbrev pub turn_of : List ℕ → framing.State → Turn
turn_of piece f = run (turn f []) piece

-- these items in order, and then the fault, where there is one
abbrev pub after_turn : {A : Type 0} → (ItemOut → A) → ℕ → Turn → Step A → Step A
after_turn say k t s = after_fault say k t.state.fault (after_items say k t.items s)

abbrev pub at_piece : {A : Type 0} → (ItemOut → A) → ℕ → List ℕ → Option framing.State → Step A → Step A
at_piece say k piece None s = s
at_piece say k piece (Some f) s = after_turn say k (turn_of piece f) s

abbrev pub fed : ℕ → List ℕ → Option framing.State → Framers → Framers
fed k piece None framers = framers
fed k piece (Some f) framers = set_value (is_number k) framers (turn_of piece f).state

-- a connection that was shut has no framer
abbrev pub dropped_at : {A : Type 0} → Out A → Framers → Framers
dropped_at (Shut k) framers = remove_entry (is_number k) framers
dropped_at o framers = framers

abbrev pub dropped : {A : Type 0} → List (Out A) → Framers → Framers
dropped [] framers = framers
dropped (o ∷ outs) framers = dropped outs (dropped_at o framers)

-- what came out behind what was there
abbrev pub news : {A : Type 0} → List (Out A) → List (Out A) → List (Out A)
news old new = drop (length old) new

-- the step that the bytes of an event are
abbrev pub after_bytes : {A : Type 0} → (ItemOut → A) → ℕ → List ℕ → ℕ → Whole A → List (Out A) → Step A
after_bytes say k piece now w outs = at_piece say k piece (framer_at k w.framers) (begun now w.server_state outs)

pub record IsAfterBytes {A : Type 0} (say : ItemOut → A) (k : ℕ) (piece : List ℕ) (now : ℕ) (old : Whole A) (outs : List (Out A)) (new : Whole A) (new_outs : List (Out A)) : Type 0 where
  pub server_state : new.server_state ≡ (after_bytes say k piece now old outs).server_state
  pub outputs : new_outs ≡ (after_bytes say k piece now old outs).outs
  pub framers_are : new.framers ≡ dropped (news outs new_outs) (fed k piece (framer_at k old.framers) old.framers)

-- ---- a connection goes

abbrev pub after_gone : {A : Type 0} → ℕ → ℕ → Whole A → Whole A
after_gone k now w = whole (gone_at k (at_moment now w.server_state)) (remove_entry (is_number k) w.framers)

-- ---- want of memory

-- Some first items of the piece took effect, what came behind them did not, and the connection is gone.
pub record StopsAt {A : Type 0} (say : ItemOut → A) (k : ℕ) (t : Turn) (now : ℕ) (old : Whole A) (outs : List (Out A)) (new : Whole A) (new_outs : List (Out A)) : Type 0 where
  pub done : List Item
  pub front : IsFrontOf done t.items
  pub server_state : new.server_state ≡ gone_at k (after_items say k done (begun now old.server_state outs)).server_state
  pub outputs : new_outs ≡ (after_items say k done (begun now old.server_state outs)).outs
  pub framers_are : new.framers ≡ dropped (news outs new_outs) (remove_entry (is_number k) old.framers)

-- where the connection isn't open memory doesn't run out
abbrev pub Stops : {A : Type 0} → (ItemOut → A) → ℕ → List ℕ → ℕ → Option framing.State → Whole A → List (Out A) → Whole A → List (Out A) → Type 0
Stops say k piece now None old outs new new_outs = ⊥
Stops say k piece now (Some f) old outs new new_outs = StopsAt say k (turn_of piece f) now old outs new new_outs
