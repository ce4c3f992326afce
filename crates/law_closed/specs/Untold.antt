-- What is put for a connection that is not open.
use Rattle.std.specs.Prelude.{◌≡◌, ℕ, List, ◌++◌}
use Rattle.srv_state.specs.State.{Out}
use Rattle.cmd_journal.specs.AccountsFiles.{AccountsView}
use Rattle.cmd_journal.specs.Journals.{EventView}
use Rattle.cmd_rerun.specs.Reruns.{Run, after_events, run_at_start}
use Rattle.cmd_rerun.specs.Silence.{Quiet}

-- a server of these accounts, to which these events happened, and all that it put out
abbrev pub ran : AccountsView → List EventView → Run
ran file events = after_events events (run_at_start file)

-- more was put out, and none of it is of connection k
pub record TellsOthers (k : ℕ) (old new : List (Out (List ℕ))) : Type 0 where
  pub more : List (Out (List ℕ))
  pub added : new ≡ old ++ more
  pub quiet : Quiet k more
