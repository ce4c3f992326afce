-- A framer takes a piece, and what it gives takes effect.
use Rattle.std.proofs.Common.{◌≡◌, ◌-◌, ◌≤◌, ℕ, suc, Bool, true, false, arith, List, [], ◌∷◌, ◌++◌, Option, Some, None, Result, Ok, Err, OnOk, OnErr, IfErr, drop, take, length, map, ap, append-nil, append_assoc, subst, sym, refl, inl, inr, ◌∙◌}
use Rattle.std.proofs.Math.Seq.{take-length}
use Rattle.std.proofs.lemmas.Bool.{cases_Bool, false≢true}
use Rattle.std.proofs.lemmas.List.{drop-map, length-drop, length-map}
use Rattle.std.specs.List.{slice_range}
use Rattle.std.specs.Map.{lookup, remove_entry, set_value}
use Rattle.std.specs.Option.{IfSome, is_some}
use Rattle.xml_framer.specs.Machine.{HasFault, IsFrontOf, run}
use Rattle.xml_framer.specs.States.{State, Turn, turn}
use Rattle.xml_framer.specs.declared.fault.Fault.{Fault}
use Rattle.xml_framer.specs.declared.fault.FeedFault.{FeedFault}
use Rattle.xml_framer.specs.declared.fault.FeedFault.TheVariants as feed
use Rattle.xml_framer.specs.declared.items.Item.{Item}
use Rattle.srv_state.specs.Moments.{gone_at}
use Rattle.srv_state.specs.Streams.{standing_at}
use Rattle.srv_core.specs.Events.{Framers, IsAfterBytes, Stops, Whole, after_fault, at_fault, begun, dropped, framer_at, news, turn_of}
use Rattle.srv_state.specs.Seen.{out_of, outs_of}
use Rattle.srv_state.specs.State.{Out, is_number}
use Rattle.srv_state.specs.Steps.{acted}
use Rattle.srv_core.specs.Table.{after_items}
use Rattle.srv_core.specs.Taken.{EventStops, FramerAnswers, FramersAnswer, GoneIn, HasTaken, IsEvent, IsPiece, PieceStops, Seen, TurnIsDone, TurnStops}
use Rattle.srv_state.specs.declared.output.Output.{Output}
use Rattle.xml_writer.specs.Items.{written_item}

-- what a framer's own clauses say
pub framer_answers : (r : Result (Unit {0}) FeedFault) (old new : State) (given items : List Item) (piece : List ℕ) → given ≡ []
    → OnOk r ((turn new items ≡ run (turn old given) piece) × (new.fault ≡ None))
    → IfErr r (λ e. HasFault e (turn old given) (turn new items) piece)
    → IsFrontOf items (run (turn old given) piece).items
    → FramerAnswers r (run (turn old []) piece) items new
framer_answers (Ok x) old new given items piece none ok fault due =
    let run_is = ok.0 ∙ ap (λ g. run (turn old g) piece) none in
    (ap (λ (t : Turn). t.items) run_is, ap (λ (t : Turn). t.state) run_is, sym (ap (λ (t : Turn). t.state.fault) run_is) ∙ ok.1)
framer_answers (Err (feed.Fault e)) old new given items piece none ok fault due =
    let run_is = fault.0 ∙ ap (λ g. run (turn old g) piece) none in
    (ap (λ (t : Turn). t.items) run_is, ap (λ (t : Turn). t.state) run_is, sym (ap (λ (t : Turn). t.state.fault) run_is) ∙ fault.1)
framer_answers (Err feed.NoMemory) old new given items piece none ok fault due = subst (λ g. IsFrontOf items (run (turn old g) piece).items) none due

-- a changed value that is taken out
pub removed_set : {X : Type 0} (test : ℕ → Bool) (es : List (ℕ × X)) (w : X) → remove_entry test (set_value test es w) ≡ remove_entry test es
removed_set test [] w = refl
removed_set test (e ∷ es) w =
    elim (cases_Bool (test e.0)) [
      | inl here ↦ rw (here, here) refl
      | inr other ↦ rw (other, other) (ap (λ t. e ∷ t) (removed_set test es w))
    ]

answers_at : (r : Result (Unit {0}) FeedFault) (k : ℕ) (t : Turn) (items : List Item) (f : State) (old new : Framers) → new ≡ set_value (is_number k) old f → FramerAnswers r t items f → FramersAnswer r k t items old new
answers_at (Ok x) k t items f old new is answers = (answers.0, is ∙ ap (set_value (is_number k) old) answers.1, answers.2)
answers_at (Err (feed.Fault e)) k t items f old new is answers = (answers.0, is ∙ ap (set_value (is_number k) old) answers.1, answers.2)
answers_at (Err feed.NoMemory) k t items f old new is answers = (answers, ap (remove_entry (is_number k)) is ∙ removed_set (is_number k) old f)

pub framers_answer : (r : Result (Unit {0}) FeedFault) (k : ℕ) (piece : List ℕ) (g : State) (items : List Item) (f : State) (old new : Framers) → lookup (is_number k) old ≡ Some g
    → new ≡ set_value (is_number k) old f → FramerAnswers r (run (turn g []) piece) items f → IfSome (lookup (is_number k) old) (λ h. FramersAnswer r k (turn_of piece h) items old new)
framers_answer r k piece g items f old new found is answers = rw found (answers_at r k (turn_of piece g) items f old new is answers)

-- ---- what comes of a framer's answer

pub turn_sound : (x : Unit {0}) (k : ℕ) (items : List Item) (s u : Seen) → u ≡ after_items written_item k items s → (t : Turn) (old new : Framers) → FramersAnswer (Ok x) k t items old new → TurnIsDone k t old new s u
turn_sound x k items s u is t old new answers = record {
  step = is ∙ ap (λ l. after_items written_item k l s) answers.0 ∙ sym (ap (λ f. after_fault written_item k f (after_items written_item k t.items s)) answers.2);
  framers_are = answers.1;
}

pub turn_fault : (e : Fault) (k : ℕ) (items : List Item) (s v u : Seen) → v ≡ after_items written_item k items s → u ≡ acted written_item (at_fault written_item k e (standing_at k v.server_state) v.server_state) v → (t : Turn) (old new : Framers) → FramersAnswer (Err (feed.Fault e)) k t items old new → TurnIsDone k t old new s u
turn_fault e k items s v u is then_is t old new answers =
    let all : v ≡ after_items written_item k t.items s = is ∙ ap (λ l. after_items written_item k l s) answers.0 in record {
      step = then_is ∙ ap (λ (w : Seen). acted written_item (at_fault written_item k e (standing_at k w.server_state) w.server_state) w) all ∙ sym (ap (λ f. after_fault written_item k f (after_items written_item k t.items s)) answers.2);
      framers_are = answers.1;
    }

taken_as : (k : ℕ) (items all : List Item) (s u : Seen) → HasTaken k items s u → IsFrontOf items all → HasTaken k all s u
taken_as k items all s u taken front = record {
  done = taken.done;
  front = (taken.front.0 ++ front.0, front.1 ∙ ap (λ l. l ++ front.0) taken.front.1 ∙ append_assoc taken.done taken.front.0 front.0);
  step = taken.step;
}

whole_front : (items : List Item) → IsFrontOf items items
whole_front items = ([], sym (append-nil items))

same_front : (items all : List Item) → items ≡ all → IsFrontOf items all
same_front items all is = subst (λ l. IsFrontOf items l) is (whole_front items)

-- some items were taken, whatever the answer
pub turn_stops : (answer : Result (Unit {0}) FeedFault) (k : ℕ) (items : List Item) (s u : Seen) → HasTaken k items s u → (t : Turn) (old new : Framers) → FramersAnswer answer k t items old new → TurnStops k t old new s u
turn_stops (Ok x) k items s u taken t old new answers = record {
  taken = taken_as k items t.items s u taken (same_front items t.items answers.0);
  framers_are = ap (remove_entry (is_number k)) answers.1 ∙ removed_set (is_number k) old t.state;
}
turn_stops (Err (feed.Fault e)) k items s u taken t old new answers = record {
  taken = taken_as k items t.items s u taken (same_front items t.items answers.0);
  framers_are = ap (remove_entry (is_number k)) answers.1 ∙ removed_set (is_number k) old t.state;
}
turn_stops (Err feed.NoMemory) k items s u taken t old new answers = record {
  taken = taken_as k items t.items s u taken answers.0;
  framers_are = answers.1;
}

-- all items were taken, and what came behind them did not take effect
pub all_taken : (k : ℕ) (items : List Item) (s v u : Seen) → v ≡ after_items written_item k items s → u ≡ v → HasTaken k items s u
all_taken k items s v u is same = record { done = items; front = whole_front items; step = same ∙ is }

pub piece_done : {E : Type 0} (r : Result (Unit {0}) E) (answer : Result (Unit {0}) FeedFault) (k : ℕ) (piece : List ℕ) (o : Option State) (items : List Item) (old new : Framers) (s u : Seen) → is_some o ≡ true
    → IfSome o (λ f. FramersAnswer answer k (turn_of piece f) items old new)
    → OnOk r ((t : Turn) (a b : Framers) → FramersAnswer answer k t items a b → TurnIsDone k t a b s u) → OnOk r (IsPiece k piece o old new s u)
piece_done (Ok x) answer k piece None items old new s u there answers done = absurd (false≢true there)
piece_done (Ok x) answer k piece (Some f) items old new s u there answers done = done (turn_of piece f) old new answers
piece_done (Err e) answer k piece o items old new s u there answers done = tt

pub piece_stops : {E : Type 0} (r : Result (Unit {0}) E) (answer : Result (Unit {0}) FeedFault) (k : ℕ) (piece : List ℕ) (o : Option State) (items : List Item) (old new : Framers) (s u : Seen) → is_some o ≡ true
    → IfSome o (λ f. FramersAnswer answer k (turn_of piece f) items old new)
    → OnErr r ((t : Turn) (a b : Framers) → FramersAnswer answer k t items a b → TurnStops k t a b s u) → OnErr r (PieceStops k piece o old new s u)
piece_stops (Err e) answer k piece None items old new s u there answers done = absurd (false≢true there)
piece_stops (Err e) answer k piece (Some f) items old new s u there answers done = done (turn_of piece f) old new answers
piece_stops (Ok x) answer k piece o items old new s u there answers done = tt

-- ---- events

pub shut_piece : (k : ℕ) (piece : List ℕ) (o : Option State) (old : Framers) (s : Seen) → is_some o ≡ false → IsEvent k piece o old old s s
shut_piece k piece None old s shut = record { step = refl; framers_are = refl }
shut_piece k piece (Some f) old s shut = absurd (false≢true (sym shut))

pub open_piece : (k : ℕ) (piece : List ℕ) (o : Option State) (old new : Framers) (s u : Seen) → IsPiece k piece o old new s u → IsEvent k piece o old new s u
open_piece k piece None old new s u is = absurd is
open_piece k piece (Some f) old new s u is = record { step = is.step; framers_are = is.framers_are }

pub piece_lost : (k : ℕ) (piece : List ℕ) (o : Option State) (old new last : Framers) (s u v : Seen) → PieceStops k piece o old new s u → v ≡ record u { server_state = gone_at k u.server_state } → last ≡ remove_entry (is_number k) new → EventStops k piece o old last s v
piece_lost k piece None old new last s u v stops is taken_out = absurd stops
piece_lost k piece (Some f) old new last s u v stops is taken_out = record {
  done = stops.taken.done;
  front = stops.taken.front;
  server_state = ap (λ (w : Seen). w.server_state) is ∙ ap (λ (w : Seen). gone_at k w.server_state) stops.taken.step;
  outputs = ap (λ (w : Seen). w.outs) is ∙ ap (λ (w : Seen). w.outs) stops.taken.step;
  framers_are = taken_out ∙ stops.framers_are;
}

pub outs_drop : (n : ℕ) (outputs : List Output) → outs_of (drop n outputs) ≡ drop n (outs_of outputs)
outs_drop n outputs = sym (drop-map out_of n outputs)

pub event_done : {E : Type 0} (r : Result (Unit {0}) E) (k : ℕ) (piece : List ℕ) (now n : ℕ) (w v : Whole (List ℕ)) (outs new_outs : List (Out (List ℕ))) (mid : Framers)
    → n ≡ length outs → OnOk r (IsEvent k piece (framer_at k w.framers) w.framers mid (begun now w.server_state outs) (record { server_state = v.server_state; outs = new_outs }))
    → v.framers ≡ dropped (drop n new_outs) mid → OnOk r (IsAfterBytes written_item k piece now w outs v new_outs)
event_done (Ok x) k piece now n w v outs new_outs mid len is then_is = record {
  server_state = ap (λ (s : Seen). s.server_state) is.step;
  outputs = ap (λ (s : Seen). s.outs) is.step;
  framers_are = then_is ∙ ap (λ m. dropped (drop m new_outs) mid) len ∙ ap (dropped (news outs new_outs)) is.framers_are;
}
event_done (Err e) k piece now n w v outs new_outs mid len is then_is = tt

stopped_in : (k : ℕ) (piece : List ℕ) (now n : ℕ) (o : Option State) (w v : Whole (List ℕ)) (outs new_outs : List (Out (List ℕ))) (mid : Framers)
    → n ≡ length outs → EventStops k piece o w.framers mid (begun now w.server_state outs) (record { server_state = v.server_state; outs = new_outs })
    → v.framers ≡ dropped (drop n new_outs) mid → Stops written_item k piece now o w outs v new_outs
stopped_in k piece now n None w v outs new_outs mid len is then_is = absurd is
stopped_in k piece now n (Some f) w v outs new_outs mid len is then_is = record {
  done = is.done;
  front = is.front;
  server_state = is.server_state;
  outputs = is.outputs;
  framers_are = then_is ∙ ap (λ m. dropped (drop m new_outs) mid) len ∙ ap (dropped (news outs new_outs)) is.framers_are;
}

pub event_stopped : {E : Type 0} (r : Result (Unit {0}) E) (k : ℕ) (piece : List ℕ) (now n : ℕ) (w v : Whole (List ℕ)) (outs new_outs : List (Out (List ℕ))) (mid : Framers)
    → n ≡ length outs → OnErr r (EventStops k piece (framer_at k w.framers) w.framers mid (begun now w.server_state outs) (record { server_state = v.server_state; outs = new_outs }))
    → v.framers ≡ dropped (drop n new_outs) mid → OnErr r (Stops written_item k piece now (framer_at k w.framers) w outs v new_outs)
event_stopped (Ok x) k piece now n w v outs new_outs mid len is then_is = tt
event_stopped (Err e) k piece now n w v outs new_outs mid len is then_is = stopped_in k piece now n (framer_at k w.framers) w v outs new_outs mid len is then_is

pub outs_length : (outputs : List Output) → length outputs ≡ length (outs_of outputs)
outs_length [] = refl
outs_length (o ∷ outputs) = ap suc (outs_length outputs)

pub range_end : {A : Type 0} (a : ℕ) (xs : List A) → slice_range xs a (length xs) ≡ drop a xs
range_end a xs = ap (λ n. take n (drop a xs)) (sym (length-drop a xs)) ∙ take-length (drop a xs)
