-- Where a connection comes or is gone, and as time passes, the server runs on.
use Rattle.std.proofs.Common.{ℕ, ◌==◌, not, Bool, true, false, List, Option, Some, None, max, filter, refl, if◌then◌else◌}
use Rattle.std.specs.List.{AllByRecursion}
use Rattle.srv_state.specs.Moments.{at_moment, gone_at, with_fresh}
use Rattle.srv_state.specs.State.{ServerState}
use Rattle.sm_live.specs.Rule.{IsRule}
use Rattle.sm_live.specs.Sessions.{Session, is_expired, lost, parked, session_at, with_session, without}
use Rattle.sim_5_moves.proofs.Effects.{Owns, runs_on}
use Rattle.sim_5_moves.proofs.Walks.{all_left}
use Rattle.cmd_schedule.specs.Contents.{Owned}
use Rattle.sim_5_moves.proofs.Flagged.{FlaggedAs, flagged_about, flags_begin, flags_end, owns_about}
use Rattle.sim_5_moves.proofs.NonStanzaActs.{IsAbout, all_parked}
use Rattle.sim_3_items.specs.Served.{FlagsRepresent, ServerSimulates}
use Rattle.sim_1_applications.specs.Devices.{Sessions, Take}
use Rattle.xml_writer.specs.Items.{ItemOut}

either : (P : Session ItemOut → Type 0) (b : Bool) (x y : List (Session ItemOut)) → AllByRecursion P x → AllByRecursion P y → AllByRecursion P (if b then x else y)
either P true x y first second = first
either P false x y first second = second

all_lost : (P : Session ItemOut → Type 0) → IsAbout P → (now : ℕ) (o : Option (Session ItemOut)) (ss : List (Session ItemOut)) → AllByRecursion P ss → AllByRecursion P (lost now o ss)
all_lost P about now None ss all = all
all_lost P about now (Some s) ss all =
    either P s.shown.resumable (with_session s.shown.number (parked now) ss) (without s.shown.number ss) (all_parked P about s.shown.number now ss all) (all_left P (λ t. not (t.shown.number == s.shown.number)) ss all)

all_unexpired : (P : Session ItemOut → Type 0) (now : ℕ) (ss : List (Session ItemOut)) → AllByRecursion P ss → AllByRecursion P (filter (λ s. not (is_expired now s)) ss)
all_unexpired P now ss all = all_left P (λ s. not (is_expired now s)) ss all

module _ (keep : ℕ) (owned : List Owned) (names : List (List ℕ)) (takes : List Take) (h : ServerState ItemOut) (runs : ServerSimulates keep owned names takes h) where
  pub gone_runs : (k : ℕ) → ServerSimulates keep owned names takes (gone_at k h)
  gone_runs k =
      runs_on keep owned names takes h (gone_at k h) refl refl refl (all_lost (Owns keep owned names) (owns_about keep owned names) h.moment (session_at k h.sessions) h.sessions runs.sessions) runs

  pub moment_runs : (now : ℕ) → ServerSimulates keep owned names takes (at_moment now h)
  moment_runs now = runs_on keep owned names takes h (at_moment now h) refl refl refl (all_unexpired (Owns keep owned names) (max h.moment now) h.sessions runs.sessions) runs

  pub fresh_runs : (k : ℕ) (entropy : List ℕ) → ServerSimulates keep owned names takes (with_fresh k entropy h)
  fresh_runs k entropy = runs_on keep owned names takes h (with_fresh k entropy h) refl refl refl runs.sessions runs

module _ (h : ServerState ItemOut) (account : ℕ) (resource : List ℕ) (d : Sessions) (rule : IsRule h.sessions h.next) (represents : FlagsRepresent account resource h d) where
  pub gone_flags : (k : ℕ) → FlagsRepresent account resource (gone_at k h) d
  gone_flags k = λ live t found.
      flags_end account resource _ _ (gone_at k h).sessions
      (all_lost (FlaggedAs account resource d) (flagged_about account resource _ _) h.moment (session_at k h.sessions) h.sessions (flags_begin account resource h d rule live represents)) t found

  pub moment_flags : (now : ℕ) → FlagsRepresent account resource (at_moment now h) d
  moment_flags now = λ live t found.
      flags_end account resource _ _ (at_moment now h).sessions (all_unexpired (FlaggedAs account resource d) (max h.moment now) h.sessions (flags_begin account resource h d rule live represents)) t found
