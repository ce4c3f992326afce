-- What events leave of a connection.
use Rattle.std.proofs.Common.{◌≡◌, ℕ, true, false, not, List, [], ◌∷◌, Option, Some, None, max, ap, refl, subst, sym, ◌∙◌, inl, inr}
use Rattle.std.proofs.lemmas.Bool.{cases_Bool, false≢true}
use Rattle.std.specs.List.{AllByRecursion}
use Rattle.std.specs.Option.{option_map}
use Rattle.srv_state.specs.Moments.{at_moment, fresh_conn}
use Rattle.srv_state.specs.State.{Out, ServerState, Step, is_number}
use Rattle.srv_state.specs.Steps.{acted}
use Rattle.srv_state.specs.Streams.{standing_at, standing_of}
use Rattle.xml_framer.specs.States as framing
use Rattle.xml_framer.specs.declared.fault.Fault.{Fault}
use Rattle.xml_framer.specs.declared.items.Item.{Item}
use Rattle.cmd_journal.specs.Journals.{Connect, EventView, Gone, Piece}
use Rattle.sm_live.specs.Sessions.{is_expired, lost, session_at}
use Rattle.cmd_rerun.specs.Reruns.{Run, after_event, after_events}
use Rattle.srv_core.specs.Events.{after_fault, at_fault, at_piece, begun, framer_at, turn_of}
use Rattle.srv_core.specs.Table.{after_item, after_items, at_open}
use Rattle.srv_core.specs.Telling.{is_told}
use Rattle.cmd_rerun.proofs.Entries.{Absent, absent_before, absent_found, absent_inserted, absent_removed, inserted_absent, removed_absent, same_is, sole_inserted, sole_removed}
use Rattle.cmd_rerun.proofs.Rows.{fault_allowed}
use Rattle.cmd_rerun.proofs.Sessions.{IsAway, IsOne, each_filter, each_lost, lost_away, none_then_one}
use Rattle.cmd_rerun.proofs.Silence.{IsGone, allowed_gone, gone_by, items_gone}
use Rattle.cmd_rerun.proofs.Soundness.{IsSound, allowed_sound, goes_sound, items_sound}
use Rattle.cmd_rerun.proofs.Steps.{Goes}
use Rattle.cmd_rerun.specs.Silence.{IsOther}
use Rattle.xml_writer.specs.Items.{ItemOut, written_item}

abbrev pub step_of : Run → Step (List ℕ)
step_of r = record { server_state = r.server.server_state; outs = r.outs }

-- ---- time passes

moment_goes : {A : Type 0} (k now : ℕ) (h : ServerState A) (outs : List (Out A)) → Goes k (record { server_state = h; outs = outs }) (begun now h outs)
moment_goes k now h outs = record {
  closed = λ a. a;
  sole = λ a. a;
  back = λ a. inl a;
  each = λ Q each. each_filter Q (λ t. not (is_expired (max h.moment now) t)) h.sessions each;
  told = λ a told. inl told;
}

-- ---- bytes come

module _ {A : Type 0} (say : ItemOut → A) (k : ℕ) where
  fault_sound : (j : ℕ) (o : Option Fault) (s : Step A) → IsSound k s → IsSound k (after_fault say j o s)
  fault_sound j None s sound = sound
  fault_sound j (Some f) s sound = allowed_sound k say j s.server_state.sessions (at_fault say j f (standing_at j s.server_state) s.server_state) s (fault_allowed say j f (standing_at j s.server_state) s.server_state) sound

  piece_sound : (j : ℕ) (piece : List ℕ) (o : Option framing.State) (s : Step A) → IsSound k s → IsSound k (at_piece say j piece o s)
  piece_sound j piece None s sound = sound
  piece_sound j piece (Some f) s sound =
      fault_sound j (turn_of piece f).state.fault (after_items say j (turn_of piece f).items s) (items_sound k say j (turn_of piece f).items s sound)

  fault_gone : (j : ℕ) (o : Option Fault) (s : Step A) → is_number k j ≡ false → IsGone k s → IsGone k (after_fault say j o s)
  fault_gone j None s apart gone = gone
  fault_gone j (Some f) s apart gone = allowed_gone say k j apart (at_fault say j f (standing_at j s.server_state) s.server_state) s (fault_allowed say j f (standing_at j s.server_state) s.server_state) gone

  other_gone : (j : ℕ) (piece : List ℕ) (o : Option framing.State) (s : Step A) → is_number k j ≡ false → IsGone k s → IsGone k (at_piece say j piece o s)
  other_gone j piece None s apart gone = gone
  other_gone j piece (Some f) s apart gone =
      fault_gone j (turn_of piece f).state.fault (after_items say j (turn_of piece f).items s) apart (items_gone say k j apart (turn_of piece f).items s gone)

  -- its own bytes do nothing
  own_item : (i : Item) (s : Step A) → Absent k s.server_state.conns → after_item say k i s ≡ s
  own_item i s absent = ap (λ o. acted say (at_open say k i (option_map standing_of o) s.server_state) s) (absent_found k s.server_state.conns absent)

  own_items : (items : List Item) (s : Step A) → Absent k s.server_state.conns → after_items say k items s ≡ s
  own_items [] s absent = refl
  own_items (i ∷ items) s absent = ap (after_items say k items) (own_item i s absent) ∙ own_items items s absent

  own_fault : (o : Option Fault) (s : Step A) → Absent k s.server_state.conns → after_fault say k o s ≡ s
  own_fault None s absent = refl
  own_fault (Some f) s absent = ap (λ o. acted say (at_fault say k f (option_map standing_of o) s.server_state) s) (absent_found k s.server_state.conns absent)

  own_piece : (piece : List ℕ) (o : Option framing.State) (s : Step A) → Absent k s.server_state.conns → at_piece say k piece o s ≡ s
  own_piece piece None s absent = refl
  own_piece piece (Some f) s absent =
      ap (after_fault say k (turn_of piece f).state.fault) (own_items (turn_of piece f).items s absent) ∙ own_fault (turn_of piece f).state.fault s absent

  own_gone : (j : ℕ) (piece : List ℕ) (o : Option framing.State) (s : Step A) → k ≡ j → IsGone k s → IsGone k (at_piece say j piece o s)
  own_gone j piece o s same gone = subst (λ n. IsGone k (at_piece say n piece o s)) same (subst (IsGone k) (sym (own_piece piece o s gone.absent)) gone)

  piece_gone : (j : ℕ) (piece : List ℕ) (o : Option framing.State) (s : Step A) → IsGone k s → IsGone k (at_piece say j piece o s)
  piece_gone j piece o s gone = elim (cases_Bool (is_number k j)) [
    | inl here ↦ own_gone j piece o s (same_is k j here) gone
    | inr apart ↦ other_gone j piece o s apart gone
  ]

-- ---- an event

-- no connection comes
abbrev pub IsLater : EventView → Type 0
IsLater (Connect j now entropy) = ⊥
IsLater event = Unit {0}

begins : ℕ → Run → Step (List ℕ)
begins now r = begun now r.server.server_state r.outs

passed_gone : (k now : ℕ) (r : Run) → IsGone k (step_of r) → IsGone k (begun now r.server.server_state r.outs)
passed_gone k now r gone = gone_by written_item k (step_of r) (begun now r.server.server_state r.outs) (moment_goes k now r.server.server_state r.outs) gone.quiet gone

passed_sound : (k now : ℕ) (r : Run) → IsSound k (step_of r) → IsSound k (begun now r.server.server_state r.outs)
passed_sound k now r sound = goes_sound k (step_of r) (begun now r.server.server_state r.outs) (moment_goes k now r.server.server_state r.outs) sound

bytes_gone : (k j now : ℕ) (bytes : List ℕ) (r : Run) → IsGone k (step_of r) → IsGone k (step_of (after_event (Piece j now bytes) r))
bytes_gone k j now bytes r gone =
    let done = piece_gone written_item k j bytes (framer_at j r.server.framers) (begun now r.server.server_state r.outs) (passed_gone k now r gone) in
    record { absent = done.absent; none = done.none; quiet = done.quiet }

bytes_sound : (k j now : ℕ) (bytes : List ℕ) (r : Run) → IsSound k (step_of r) → IsSound k (step_of (after_event (Piece j now bytes) r))
bytes_sound k j now bytes r sound =
    let done = piece_sound written_item k j bytes (framer_at j r.server.framers) (begun now r.server.server_state r.outs) (passed_sound k now r sound) in
    record { sole = done.sole; lone = done.lone; left = done.left; honest = done.honest }

comes_gone : (k j now : ℕ) (entropy : List ℕ) (r : Run) → is_number k j ≡ false → IsGone k (step_of r) → IsGone k (step_of (after_event (Connect j now entropy) r))
comes_gone k j now entropy r apart gone =
    let passed = passed_gone k now r gone in
    record { absent = absent_inserted k j (fresh_conn entropy) r.server.server_state.conns apart gone.absent; none = passed.none; quiet = gone.quiet }

goes_gone : (k j now : ℕ) (r : Run) → IsGone k (step_of r) → IsGone k (step_of (after_event (Gone j now) r))
goes_gone k j now r gone =
    let passed = passed_gone k now r gone in
    let h = at_moment now r.server.server_state in
    record {
      absent = absent_removed k (is_number j) r.server.server_state.conns gone.absent;
      none = each_lost (IsAway k) h.moment (session_at j h.sessions) h.sessions (λ n c is. refl) passed.none;
      quiet = gone.quiet;
    }

pub event_gone : (k : ℕ) (event : EventView) (r : Run) → IsOther k event → IsGone k (step_of r) → IsGone k (step_of (after_event event r))
event_gone k (Connect j now entropy) r other gone = comes_gone k j now entropy r other gone
event_gone k (Piece j now bytes) r other gone = bytes_gone k j now bytes r gone
event_gone k (Gone j now) r other gone = goes_gone k j now r gone

pub events_gone : (k : ℕ) (events : List EventView) (r : Run) → AllByRecursion (IsOther k) events → IsGone k (step_of r) → IsGone k (step_of (after_events events r))
events_gone k [] r all gone = gone
events_gone k (event ∷ events) r all gone = events_gone k events (after_event event r) all.1 (event_gone k event r all.0 gone)

-- ---- a connection is gone

-- the connection of this number
pub gone_closed : (k now : ℕ) (r : Run) → IsSound k (step_of r) → Absent k (step_of (after_event (Gone k now) r)).server_state.conns
gone_closed k now r sound = removed_absent k r.server.server_state.conns sound.sole

gone_sound : (k now : ℕ) (r : Run) → IsSound k (step_of r) → IsSound k (step_of (after_event (Gone k now) r))
gone_sound k now r sound =
    let h = at_moment now r.server.server_state in
    let none = lost_away k h.moment h.sessions (passed_sound k now r sound).lone in
    record {
      sole = sole_removed k (is_number k) r.server.server_state.conns sound.sole;
      lone = none_then_one k (lost h.moment (session_at k h.sessions) h.sessions) none;
      left = λ absent. none;
      honest = λ told. gone_closed k now r sound;
    }

apart_sound : (k j now : ℕ) (r : Run) → is_number k j ≡ false → IsSound k (step_of r) → IsSound k (step_of (after_event (Gone j now) r))
apart_sound k j now r apart sound =
    let h = at_moment now r.server.server_state in
    let passed = passed_sound k now r sound in
    record {
      sole = sole_removed k (is_number j) r.server.server_state.conns sound.sole;
      lone = (passed.lone.0, each_lost (IsOne k passed.lone.0) h.moment (session_at j h.sessions) h.sessions (λ n c is there. absurd (false≢true there)) passed.lone.1);
      left = λ absent. each_lost (IsAway k) h.moment (session_at j h.sessions) h.sessions (λ n c is. refl) (passed.left (absent_before k j r.server.server_state.conns apart absent));
      honest = λ told. absent_removed k (is_number j) r.server.server_state.conns (sound.honest told);
    }

goes_off_sound : (k j now : ℕ) (r : Run) → IsSound k (step_of r) → IsSound k (step_of (after_event (Gone j now) r))
goes_off_sound k j now r sound = elim (cases_Bool (is_number k j)) [
  | inl here ↦ subst (λ n. IsSound k (step_of (after_event (Gone n now) r))) (same_is k j here) (gone_sound k now r sound)
  | inr apart ↦ apart_sound k j now r apart sound
]

pub later_sound : (k : ℕ) (event : EventView) (r : Run) → IsLater event → IsSound k (step_of r) → IsSound k (step_of (after_event event r))
later_sound k (Connect j now entropy) r later sound = absurd later
later_sound k (Piece j now bytes) r later sound = bytes_sound k j now bytes r sound
later_sound k (Gone j now) r later sound = goes_off_sound k j now r sound

-- a connection comes, of which nothing was told
pub comes_sound : (k j now : ℕ) (entropy : List ℕ) (r : Run) → Absent j r.server.server_state.conns → (is_number k j ≡ true → is_told k r.outs ≡ false) → IsSound k (step_of r)
    → IsSound k (step_of (after_event (Connect j now entropy) r))
comes_sound k j now entropy r absent untold sound =
    let passed = passed_sound k now r sound in
    record {
      sole = sole_inserted k j (fresh_conn entropy) r.server.server_state.conns (λ same. subst (λ n. Absent n r.server.server_state.conns) (sym (same_is k j same)) absent) sound.sole;
      lone = passed.lone;
      left = λ gone. passed.left (inserted_absent k j (fresh_conn entropy) r.server.server_state.conns gone);
      honest = λ told. elim (cases_Bool (is_number k j)) [
        | inl same ↦ absurd (false≢true (sym (untold same) ∙ told))
        | inr apart ↦ absent_inserted k j (fresh_conn entropy) r.server.server_state.conns apart (sound.honest told)
      ];
    }
