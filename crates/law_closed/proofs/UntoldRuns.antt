-- Nothing is put for a connection that is not open, until it comes, and it stays so.
use Rattle.std.proofs.Common.{◌≡◌, ◌==◌, ◌||◌, ℕ, ◌<◌, true, false, List, [], ◌∷◌, ◌++◌, None, length, ap, refl, subst, sym, ◌∙◌, arith}
use Rattle.std.proofs.lemmas.Bool.{and_parts, ltb-true}
use Rattle.std.specs.List.{AllByRecursion}
use Rattle.std.specs.Prelude.{IsTrue, ◌&&◌, nat_lt}
use Rattle.srv_state.specs.State.{Out, Put, Shut, Took, conn_at}
use Rattle.cmd_journal.specs.AccountsFiles.{AccountsView}
use Rattle.cmd_journal.specs.Journals.{AreEvents, Connect, EventView, Gone, Piece, are_bytes, begun_last, is_connection, is_moment, may_happen}
use Rattle.cmd_rerun.specs.Reruns.{Run, after_event, after_events, run_at_start}
use Rattle.srv_core.specs.Telling.{is_shut, is_told}
use Rattle.cmd_rerun.proofs.Adding.{adds, events_add, events_then}
use Rattle.cmd_rerun.specs.Happening.{happens, still}
use Rattle.cmd_rerun.proofs.Entries.{absent_found, apart_from, found_absent, same_is}
use Rattle.cmd_rerun.proofs.EventSteps.{comes_sound, event_gone, events_gone, gone_closed, later_sound, step_of}
use Rattle.cmd_rerun.proofs.Silence.{IsGone}
use Rattle.cmd_rerun.proofs.Soundness.{IsSound}
use Rattle.cmd_rerun.specs.Silence.{IsApart, IsOther, Quiet}
use Rattle.law_closed.specs.Untold.{TellsOthers, ran}

quiet_shut : {A : Type 0} (k : ℕ) (o : Out A) → IsApart k o → is_shut k o ≡ false
quiet_shut k (Put j a) apart = refl
quiet_shut k (Shut j) apart = apart
quiet_shut k (Took from to origin) apart = refl

quiet_untold : {A : Type 0} (k : ℕ) (a : List (Out A)) → Quiet k a → is_told k a ≡ false
quiet_untold k [] quiet = refl
quiet_untold k (o ∷ a) quiet = ap (λ c. c || is_told k a) (quiet_shut k o quiet.0) ∙ quiet_untold k a quiet.1

-- each connection is as it should be, and those above the last did not come yet
record IsOrderly (last : ℕ) (r : Run) : Type 0 where
  sound : (k : ℕ) → IsSound k (step_of r)
  ahead : (m : ℕ) → last < m → IsGone m (step_of r)

comes_next : (last k moment : ℕ) (entropy : List ℕ) → IsTrue (may_happen last (Connect k moment entropy)) → last < k
comes_next last k moment entropy may =
    let a = and_parts (is_connection k && nat_lt last k && is_moment moment && (length entropy == 24)) (are_bytes entropy) may in
    let b = and_parts (is_connection k && nat_lt last k && is_moment moment) (length entropy == 24) a.0 in
    let c = and_parts (is_connection k && nat_lt last k) (is_moment moment) b.0 in
    ltb-true last k (and_parts (is_connection k) (nat_lt last k) c.0).1

connect_orderly : (last j moment : ℕ) (entropy : List ℕ) (r : Run) → last < j → IsOrderly last r → IsOrderly j (after_event (Connect j moment entropy) r)
connect_orderly last j moment entropy r next orderly = record {
  sound = λ k. comes_sound k j moment entropy r (orderly.ahead j next).absent
      (λ same. subst (λ n. is_told n r.outs ≡ false) (sym (same_is k j same)) (quiet_untold j r.outs (orderly.ahead j next).quiet)) (orderly.sound k);
  ahead = λ m above. event_gone m (Connect j moment entropy) r (apart_from m j (λ same. absurd (omega (arith, above, same)))) (orderly.ahead m (omega (arith, next, above)));
}

event_orderly : (last : ℕ) (event : EventView) (r : Run) → IsTrue (may_happen last event) → IsOrderly last r → IsOrderly (begun_last last event) (after_event event r)
event_orderly last (Connect j moment entropy) r may orderly = connect_orderly last j moment entropy r (comes_next last j moment entropy may) orderly
event_orderly last (Piece j moment bytes) r may orderly = record {
  sound = λ k. later_sound k (Piece j moment bytes) r tt (orderly.sound k);
  ahead = λ m above. event_gone m (Piece j moment bytes) r tt (orderly.ahead m above);
}
event_orderly last (Gone j moment) r may orderly = record {
  sound = λ k. later_sound k (Gone j moment) r tt (orderly.sound k);
  ahead = λ m above. event_gone m (Gone j moment) r tt (orderly.ahead m above);
}

events_sound : (last : ℕ) (events : List EventView) (r : Run) → AreEvents last events → IsOrderly last r → (k : ℕ) → IsSound k (step_of (after_events events r))
events_sound last [] r are orderly k = orderly.sound k
events_sound last (event ∷ events) r are orderly k = events_sound (begun_last last event) events (after_event event r) are.1 (event_orderly last event r are.0 orderly) k

start_orderly : (file : AccountsView) → IsOrderly 0 (run_at_start file)
start_orderly file = record {
  sound = λ k. record { sole = tt; lone = (0, tt); left = λ absent. tt; honest = λ told. tt };
  ahead = λ m above. record { absent = tt; none = tt; quiet = tt };
}

ran_sound : (file : AccountsView) (events : List EventView) → AreEvents 0 events → (k : ℕ) → IsSound k (step_of (ran file events))
ran_sound file events are k = events_sound 0 events (run_at_start file) are (start_orderly file) k

-- it is not open, and so it stays; what later events put out is not of it
later_gone : (file : AccountsView) (events later : List EventView) (k : ℕ) → AreEvents 0 events → conn_at k (ran file events).server.server_state ≡ None → AllByRecursion (IsOther k) later
    → IsGone k (step_of (after_events later (still (ran file events).server)))
later_gone file events later k are closed others =
    let r = ran file events in
    let absent = found_absent k r.server.server_state.conns closed in
    let gone : IsGone k (step_of (still r.server)) = record { absent = absent; none = (ran_sound file events are k).left absent; quiet = tt } in
    events_gone k later (still r.server) others gone

later_added : (file : AccountsView) (events later : List EventView) → ran file (events ++ later) ≡ adds (ran file events).outs (after_events later (still (ran file events).server))
later_added file events later = events_then events later (run_at_start file) ∙ events_add later (ran file events)

pub quiet_later : (file : AccountsView) (events later : List EventView) (k : ℕ) → AreEvents 0 events → conn_at k (ran file events).server.server_state ≡ None → AllByRecursion (IsOther k) later
    → Quiet k (happens later (ran file events).server).outs
unfolding happens
quiet_later file events later k are closed others = (later_gone file events later k are closed others).quiet

pub told_nothing : (file : AccountsView) (events later : List EventView) (k : ℕ) → AreEvents 0 events → conn_at k (ran file events).server.server_state ≡ None → AllByRecursion (IsOther k) later
    → TellsOthers k (ran file events).outs (ran file (events ++ later)).outs
told_nothing file events later k are closed others = record {
  more = (after_events later (still (ran file events).server)).outs;
  added = ap (λ (u : Run). u.outs) (later_added file events later);
  quiet = (later_gone file events later k are closed others).quiet;
}

pub stays_closed : (file : AccountsView) (events later : List EventView) (k : ℕ) → AreEvents 0 events → conn_at k (ran file events).server.server_state ≡ None → AllByRecursion (IsOther k) later
    → conn_at k (ran file (events ++ later)).server.server_state ≡ None
stays_closed file events later k are closed others =
    ap (λ (u : Run). conn_at k u.server.server_state) (later_added file events later)
    ∙ absent_found k (after_events later (still (ran file events).server)).server.server_state.conns (later_gone file events later k are closed others).absent

pub shut_closed : (file : AccountsView) (events : List EventView) (k : ℕ) → AreEvents 0 events → is_told k (ran file events).outs ≡ true → conn_at k (ran file events).server.server_state ≡ None
shut_closed file events k are told = absent_found k (ran file events).server.server_state.conns ((ran_sound file events are k).honest told)

pub left_closed : (file : AccountsView) (events : List EventView) (k moment : ℕ) → AreEvents 0 events → conn_at k (ran file (events ++ Gone k moment ∷ [])).server.server_state ≡ None
left_closed file events k moment are =
    ap (λ (u : Run). conn_at k u.server.server_state) (events_then events (Gone k moment ∷ []) (run_at_start file))
    ∙ absent_found k (after_event (Gone k moment) (ran file events)).server.server_state.conns (gone_closed k moment (ran file events) (ran_sound file events are k))
