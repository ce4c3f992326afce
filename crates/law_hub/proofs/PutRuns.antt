-- What is put for a connection is what the lines of a rerun have for it, and others have none.
use Rattle.std.proofs.Common.{◌≡◌, ◌⊎◌, ℕ, ◌<◌, List, ap, sym, ◌∙◌, inl, inr, arith}
use Rattle.std.specs.List.{AllByRecursion}
use Rattle.srv_state.specs.State.{Out}
use Rattle.cmd_journal.specs.AccountsFiles.{AccountsView}
use Rattle.cmd_journal.specs.Journals.{EventView}
use Rattle.net_hub.specs.Records.{run_of_file}
use Rattle.cmd_rerun.specs.Reruns.{Run, after_events, lines_of, run_at_start}
use Rattle.net_hub.specs.Puts.{put_for}
use Rattle.srv_core.specs.Telling.{is_told}
use Rattle.cmd_rerun.proofs.Adding.{from_start}
use Rattle.cmd_rerun.proofs.EventSteps.{events_gone, step_of}
use Rattle.law_hub.proofs.LineRuns.{IsOutside, lines_bytes, lines_shut, lines_within}
use Rattle.cmd_rerun.proofs.Silence.{IsGone}
use Rattle.law_hub.specs.Again.{IsWithin, bytes_out, shuts}
use Rattle.cmd_rerun.specs.Silence.{IsOther, Quiet}

module _ (file : AccountsView) (events : List EventView) where
  abbrev pub outs : List (Out (List ℕ))
  outs = (after_events events (run_at_start file)).outs

  -- what a server put for it
  pub puts_are_lines : (k : ℕ) → put_for k (run_of_file file events).outs ≡ bytes_out k (lines_of outs)
  puts_are_lines k = ap (λ (r : Run). put_for k r.outs) (from_start events file) ∙ sym (lines_bytes k outs)

  pub shut_is_lines : (k : ℕ) → shuts k (lines_of outs) ≡ is_told k (run_of_file file events).outs
  shut_is_lines k = lines_shut k outs ∙ ap (λ (r : Run). is_told k r.outs) (sym (from_start events file))

  -- one that doesn't come
  quiet_for : (k : ℕ) → AllByRecursion (IsOther k) events → Quiet k outs
  quiet_for k others = (events_gone k events (run_at_start file) others start_gone).quiet
    where
      start_gone : IsGone k (step_of (run_at_start file))
      start_gone = record { absent = tt; none = tt; quiet = tt }

  pub puts_within : (n : ℕ) → ((k : ℕ) → (k ≡ 0) ⊎ (n < k) → AllByRecursion (IsOther k) events) → AllByRecursion (IsWithin n) (lines_of outs)
  puts_within n others = lines_within n outs (λ m outside. quiet_for m (others m (outside_of m outside)))
    where
      outside_of : (m : ℕ) → IsOutside m 1 n → (m ≡ 0) ⊎ (n < m)
      outside_of m (inl below) = inl (omega (arith, below))
      outside_of m (inr above) = inr (omega (arith, above))
