-- Nothing is put for a connection that has not begun.
use Rattle.std.proofs.Common.{◌≡◌, ℕ, ◌<◌, List, [], ◌∷◌, ◌++◌, cond, ap, refl, ◌∙◌}
use Rattle.srv_state.specs.State.{Out, Put, Shut, Took}
use Rattle.cmd_journal.specs.AccountsFiles.{AccountsView}
use Rattle.cmd_journal.specs.Journals.{AreEvents, EventView}
use Rattle.net_hub.proofs.MoreEvents.{all_others}
use Rattle.net_hub.specs.Records.{last_begun, run_of_file}
use Rattle.cmd_rerun.specs.Reruns.{Run, run_at_start}
use Rattle.net_hub.specs.Puts.{put_for}
use Rattle.cmd_rerun.proofs.Adding.{from_start}
use Rattle.cmd_rerun.proofs.EventSteps.{events_gone, step_of}
use Rattle.cmd_rerun.proofs.Silence.{IsGone}
use Rattle.cmd_rerun.specs.Silence.{Quiet}

quiet_puts : (k : ℕ) (outs : List (Out (List ℕ))) → Quiet k outs → put_for k outs ≡ []
quiet_puts k [] quiet = refl
quiet_puts k (Put j bytes ∷ outs) quiet = ap (λ b. cond b bytes [] ++ put_for k outs) quiet.0 ∙ quiet_puts k outs quiet.1
quiet_puts k (Shut j ∷ outs) quiet = quiet_puts k outs quiet.1
quiet_puts k (Took from to origin ∷ outs) quiet = quiet_puts k outs quiet.1

start_gone : (file : AccountsView) (k : ℕ) → IsGone k (step_of (run_at_start file))
start_gone file k = record { absent = tt; none = tt; quiet = tt }

pub nothing_put : (file : AccountsView) (events : List EventView) (k : ℕ) → AreEvents 0 events → last_begun 0 events < k → put_for k (run_of_file file events).outs ≡ []
nothing_put file events k are below =
    ap (λ (r : Run). put_for k r.outs) (from_start events file)
    ∙ quiet_puts k _ (events_gone k events (run_at_start file) (all_others 0 k events are below) (start_gone file k)).quiet
