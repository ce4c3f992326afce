-- What the laws of `intents` say.
use Rattle.std.specs.Prelude.{◌≡◌, ℕ, ◌≤◌, true, List, [], ◌∷◌, ◌++◌, length}
use Rattle.base_io.specs.Names.{is_among}
use Rattle.cl_intents.specs.declared.intents.Try.{Try}
use Rattle.cl_intents.specs.declared.states.IntentState.TheVariants.{Absent, Done}
use Rattle.cmd_intents.specs.Files.{FileView, IsIntentFile}
use Rattle.cmd_resolving.specs.Expansion.{watched_end}
use Rattle.sim_7_schedules.specs.Tries.{HasIntent, IsTriedAgain, run_of, state_in, taken_for}

abbrev pub IntentsOfFilesAreTakenOnceAtMostOnce : Type 0
IntentsOfFilesAreTakenOnceAtMostOnce =
    (f : FileView) → IsIntentFile f → (i k : ℕ) (has : HasIntent (watched_end f) i k) → length (taken_for has.device.name has.intent.tries.items (watched_end f).world.takes) ≤ 1

abbrev pub IntentsOfFilesAreTakenOnceAtMostNewest : Type 0
IntentsOfFilesAreTakenOnceAtMostNewest =
    (f : FileView) → IsIntentFile f → (i k : ℕ) (has : HasIntent (watched_end f) i k) → (before : List Try) (last : Try) → has.intent.tries.items ≡ before ++ last ∷ [] →
    taken_for has.device.name before (watched_end f).world.takes ≡ []

abbrev pub IntentsOfFilesAreTakenOnceAtMostDone : Type 0
IntentsOfFilesAreTakenOnceAtMostDone =
    (f : FileView) → IsIntentFile f → (i k : ℕ) (has : HasIntent (watched_end f) i k) → state_in has ≡ Done → is_among has.intent.to (watched_end f).world.accounts ≡ true →
    length (taken_for has.device.name has.intent.tries.items (watched_end f).world.takes) ≡ 1

abbrev pub IntentsOfFilesAreTakenOnceAtMostAbsent : Type 0
IntentsOfFilesAreTakenOnceAtMostAbsent =
    (f : FileView) → IsIntentFile f → (i k : ℕ) (has : HasIntent (watched_end f) i k) → state_in has ≡ Absent →
    taken_for has.device.name has.intent.tries.items (watched_end f).world.takes ≡ []

abbrev pub IntentsAreTriedAgainWhereAbsent : Type 0
IntentsAreTriedAgainWhereAbsent =
    (f : FileView) (i k : ℕ) (has : HasIntent (watched_end f) i k) → (before rest : List Try) (last further : Try) → has.intent.tries.items ≡ before ++ last ∷ further ∷ rest →
    IsTriedAgain (run_of f) i k (before ++ last ∷ []) further
