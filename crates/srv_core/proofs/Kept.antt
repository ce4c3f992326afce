-- What an event adds stands behind what was put out before, whatever the answer; and a connection that isn't open wants no memory.
use Rattle.std.proofs.Common.{◌≡◌, ℕ, true, List, Option, Some, None, Result, Ok, Err, IsOk, OnErr, OnOk, refl, subst, sym, ap, ◌∙◌}
use Rattle.xml_framer.specs.States.{State, Turn}
use Rattle.xml_framer.specs.declared.fault.Fault.{Fault}
use Rattle.srv_core.proofs.Tells.{acts_tell, items_tell, tells_both, tells_nothing}
use Rattle.srv_core.specs.Events.{IsAfterBytes, Stops, Whole, after_fault, after_turn, at_fault, at_piece, begun, framer_at, turn_of}
use Rattle.srv_state.specs.State.{Out, Step}
use Rattle.srv_state.specs.Streams.{standing_at}
use Rattle.srv_core.specs.Table.{after_items}
use Rattle.srv_core.specs.Telling.{IsFront, Tells}
use Rattle.xml_writer.specs.Items.{ItemOut}

fault_tells : {A : Type 0} (say : ItemOut → A) (k j : ℕ) (o : Option Fault) (s : Step A) → Tells k s (after_fault say j o s)
fault_tells say k j None s = tells_nothing k s
fault_tells say k j (Some f) s = acts_tell say k (at_fault say j f (standing_at j s.server_state) s.server_state) s

turn_tells : {A : Type 0} (say : ItemOut → A) (k j : ℕ) (t : Turn) (s : Step A) → Tells k s (after_turn say j t s)
turn_tells say k j t s =
    tells_both k s (after_items say j t.items s) (after_turn say j t s) (items_tell say k j t.items s) (fault_tells say k j t.state.fault (after_items say j t.items s))

pub piece_tells : {A : Type 0} (say : ItemOut → A) (k j : ℕ) (piece : List ℕ) (o : Option State) (s : Step A) → Tells k s (at_piece say j piece o s)
piece_tells say k j piece None s = tells_nothing k s
piece_tells say k j piece (Some f) s = turn_tells say k j (turn_of piece f) s

front : {A : Type 0} (k : ℕ) (s u : Step A) (outs : List (Out A)) → Tells k s u → outs ≡ u.outs → IsFront s.outs outs
front k s u outs tells is = (tells.more, is ∙ tells.added)

stops_kept : {A : Type 0} (say : ItemOut → A) (k : ℕ) (piece : List ℕ) (now : ℕ) (o : Option State) (old : Whole A) (outs : List (Out A)) (new : Whole A) (new_outs : List (Out A))
    → Stops say k piece now o old outs new new_outs → IsFront outs new_outs
stops_kept say k piece now None old outs new new_outs stops = absurd stops
stops_kept say k piece now (Some f) old outs new new_outs stops =
    front k (begun now old.server_state outs) (after_items say k stops.done (begun now old.server_state outs)) new_outs (items_tell say k k stops.done (begun now old.server_state outs)) stops.outputs

pub outputs_kept : {A E : Type 0} (r : Result (Unit {0}) E) (say : ItemOut → A) (k : ℕ) (piece : List ℕ) (now : ℕ) (old : Whole A) (outs : List (Out A)) (new : Whole A) (new_outs : List (Out A))
    → OnOk r (IsAfterBytes say k piece now old outs new new_outs) → OnErr r (Stops say k piece now (framer_at k old.framers) old outs new new_outs) → IsFront outs new_outs
outputs_kept (Ok x) say k piece now old outs new new_outs done stops =
    front k (begun now old.server_state outs) (at_piece say k piece (framer_at k old.framers) (begun now old.server_state outs)) new_outs
    (piece_tells say k k piece (framer_at k old.framers) (begun now old.server_state outs)) done.outputs
outputs_kept (Err e) say k piece now old outs new new_outs done stops = stops_kept say k piece now (framer_at k old.framers) old outs new new_outs stops

stops_open : {A : Type 0} (say : ItemOut → A) (k : ℕ) (piece : List ℕ) (now : ℕ) (o : Option State) (old : Whole A) (outs : List (Out A)) (new : Whole A) (new_outs : List (Out A))
    → o ≡ None → Stops say k piece now o old outs new new_outs → ⊥
stops_open say k piece now o old outs new new_outs none stops = subst (λ (p : Option State). Stops say k piece now p old outs new new_outs) none stops

pub unknown_is_ok : {A E : Type 0} (r : Result (Unit {0}) E) (say : ItemOut → A) (k : ℕ) (piece : List ℕ) (now : ℕ) (old : Whole A) (outs : List (Out A)) (new : Whole A) (new_outs : List (Out A))
    → OnErr r (Stops say k piece now (framer_at k old.framers) old outs new new_outs) → framer_at k old.framers ≡ None → IsOk r
unknown_is_ok (Ok x) say k piece now old outs new new_outs stops none = refl
unknown_is_ok (Err e) say k piece now old outs new new_outs stops none = absurd (stops_open say k piece now (framer_at k old.framers) old outs new new_outs none stops)
