-- Each line may stand where it stands, so its step can be followed.
use Rattle.std.proofs.Common.{arith}
use Rattle.cmd_replay.proofs.WholeRuns.{after_at, may_at, ready_at, step_there}
use Rattle.cmd_schedule.specs.Schedules.{steps_of}
use Rattle.cmd_replay.proofs.run.Run.follow_lines.Goals as goal

pub follow-requires-clause-ready : goal.follow-requires-clause-ready
follow-requires-clause-ready c =
    ready_at c.args.self.now.clock.version (steps_of c.args.lines.now) c.loop-line.line-index c.line-item.result.step c.loop-line.self c.requires.right
    (step_there c.args.lines.now c.loop-line.line-index c.line-item.result (omega arith) c.line-item.is) c.loop-line.invariant

pub follow-requires-clause-stands : goal.follow-requires-clause-stands
follow-requires-clause-stands c =
    may_at c.args.self.now.clock.version (steps_of c.args.lines.now) c.loop-line.line-index c.line-item.result.step c.loop-line.self c.requires.right
    (step_there c.args.lines.now c.loop-line.line-index c.line-item.result (omega arith) c.line-item.is) c.loop-line.invariant

pub loop-line-preserved : goal.loop-line-preserved
loop-line-preserved c =
    after_at c.args.self.now.clock.version (steps_of c.args.lines.now) c.loop-line.line-index c.line-item.result.step c.loop-line.self c.follow.new.self c.requires.some c.requires.right
    (step_there c.args.lines.now c.loop-line.line-index c.line-item.result (omega arith) c.line-item.is) c.loop-line.invariant c.in_ok-follow.ensures
