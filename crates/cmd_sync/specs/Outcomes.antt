-- Which steps a course has done.
use Rattle.std.specs.Prelude.{ℕ, ◌+◌, nat_lt, Bool, true, false, List, [], ◌∷◌, ◌++◌, Option, Some, None, length, if◌then◌else◌}
use Rattle.cl_core.specs.Feeds.{bytes_step}
use Rattle.cl_handlers.specs.Speech.{in_bytes}
use Rattle.cmd_sync.specs.declared.script.Step.{Step}
use Rattle.cmd_sync.specs.Courses.{Course, is_awaiting, quiet, seen_in, takes}
use Rattle.cmd_sync.specs.declared.seen.Seen.{Seen}
use Rattle.cmd_sync.specs.declared.seen.Seen.TheVariants.{Still, Fails, Does}
use Rattle.cmd_sync.specs.declared.stage.Stage.{Stage}
use Rattle.cmd_sync.specs.declared.stage.Stage.TheVariants.{Awaits, Done, Failed}
use Rattle.cmd_sync.specs.declared.running.TheConstants.{MOST_RECEIVED}

abbrev pub step_in : Option Step → List Step
step_in None = []
step_in (Some step) = step ∷ []

-- the step that is being done
abbrev pub awaited : Stage → List Step
awaited (Awaits step) = step_in step
awaited Done = []
awaited (Failed failure) = []

-- it is done, where that was seen
abbrev pub done_by : Stage → Seen → List Step
done_by stage Still = []
done_by stage (Fails failure) = []
done_by stage (Does late) = awaited stage

abbrev pub done_within : Bool → Course → List ℕ → List Step
done_within false c piece = []
done_within true c piece =
    if nat_lt MOST_RECEIVED (c.total + length piece) then []
    else done_by c.stage (seen_in (bytes_step in_bytes (quiet c.client) piece) c.stage)

-- the step that is done with this piece: its message is acknowledged, or its last page was taken over
abbrev pub done_in : Course → List ℕ → List Step
done_in c piece = done_within (is_awaiting c.stage) c piece

-- the steps that are done over these pieces, in the order in which they are
abbrev pub done_over : Course → List (List ℕ) → List Step
done_over c [] = []
done_over c (piece ∷ pieces) = done_in c piece ++ done_over (takes c piece).course pieces
