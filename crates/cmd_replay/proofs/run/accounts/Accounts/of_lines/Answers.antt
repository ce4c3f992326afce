-- The account of a line is new among those of the lines before it.
use Rattle.std.proofs.Common.{arith, ◌∙◌}
use Rattle.cmd_replay.proofs.WholeRuns.{account_new, homes_more, step_there}
use Rattle.cmd_schedule.specs.Schedules.{steps_of}
use Rattle.cmd_replay.proofs.run.accounts.Accounts.of_lines.Goals as goal

pub declare-requires : goal.declare-requires
declare-requires c =
    account_new (steps_of c.args.lines.now) c.loop-line.line-index c.line-item.result.step c.loop-line.accounts.homes c.requires.right
    (step_there c.args.lines.now c.loop-line.line-index c.line-item.result (omega arith) c.line-item.is) c.loop-line.invariant.homes

pub loop-line-preserved : goal.loop-line-preserved
loop-line-preserved c = record {
  homes = homes_more (steps_of c.args.lines.now) c.loop-line.line-index c.line-item.result.step c.loop-line.accounts.homes c.declare.new.self.homes
      (step_there c.args.lines.now c.loop-line.line-index c.line-item.result (omega arith) c.line-item.is) c.loop-line.invariant.homes c.in_ok-declare.ensures.homes;
  keep = c.in_ok-declare.ensures.keep ∙ c.loop-line.invariant.keep;
}
