-- What is promised of the intents of a file's run.
use Rattle.std.specs.Prelude.{◌≡◌, ℕ, ◌≤◌, true, List, [], ◌∷◌, ◌++◌, length}
use Rattle.base_io.specs.Names.{is_among}
use Rattle.cl_intents.specs.declared.intents.Try.{Try}
use Rattle.cl_intents.specs.declared.states.IntentState.TheVariants as state
use Rattle.cmd_intents.specs.Files.{FileView}
use Rattle.cmd_report.specs.declared.report.TakeLine.{TakeLine}
use Rattle.cmd_resolving.specs.Expansion.{watched_end}
use Rattle.sim_7_schedules.specs.Tries.{HasIntent, IsTriedAgain, run_of, state_in, taken_for}

-- the messages that were taken of these tries of an intent
abbrev pub taken_in : (file : FileView) {i k : ℕ} → HasIntent (watched_end file) i k → List Try → List TakeLine
taken_in file has tries = taken_for has.device.name tries (watched_end file).world.takes

-- Of an intent of a device one message at most was taken of all tries, and none but of the last; one that is done, to an
-- account that exists, was taken once; one that is absent was not. It has a further try only where it was absent when that
-- was made.
pub record IsTriedRight (file : FileView) (i k : ℕ) (has : HasIntent (watched_end file) i k) : Type 0 where
  pub once : length (taken_in file has has.intent.tries.items) ≤ 1
  pub newest : (before : List Try) (last : Try) → has.intent.tries.items ≡ before ++ last ∷ [] → taken_in file has before ≡ []
  pub done : state_in has ≡ state.Done → is_among has.intent.to (watched_end file).world.accounts ≡ true → length (taken_in file has has.intent.tries.items) ≡ 1
  pub absent : state_in has ≡ state.Absent → taken_in file has has.intent.tries.items ≡ []
  pub again : (before rest : List Try) (last further : Try) → has.intent.tries.items ≡ before ++ last ∷ further ∷ rest → IsTriedAgain (run_of file) i k (before ++ last ∷ []) further

-- so it is of each intent of each device
abbrev pub AreTriedRight : FileView → Type 0
AreTriedRight file = (i k : ℕ) (has : HasIntent (watched_end file) i k) → IsTriedRight file i k has
