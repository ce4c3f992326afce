-- The run is what the lines so far make of it.
use Rattle.std.proofs.Common.{take}
use Rattle.cmd_replay.specs.Runs.{IsAfter}
use Rattle.cmd_schedule.specs.Schedules.{steps_of}
use Rattle.cmd_replay.proofs.run.Run.follow_lines.Given as goal

abbrev pub invariant-loop-line : goal.invariant-loop-line
invariant-loop-line l = IsAfter l.fn.self.clock.version (steps_of l.lines) (take l.line-index (steps_of l.lines)) l.self
