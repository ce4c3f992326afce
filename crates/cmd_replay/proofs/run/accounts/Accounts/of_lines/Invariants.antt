-- The accounts of the lines so far.
use Rattle.std.proofs.Common.{◌≡◌, map, take}
use Rattle.cmd_schedule.specs.Contents.{accounts_of}
use Rattle.cmd_replay.specs.Homes.{empty_home}
use Rattle.cmd_schedule.specs.Schedules.{steps_of}
use Rattle.cmd_replay.proofs.run.accounts.Accounts.of_lines.Given as goal

abbrev pub invariant-loop-line : goal.invariant-loop-line
invariant-loop-line l = record {
  homes : l.accounts.homes ≡ map empty_home (accounts_of (take l.line-index (steps_of l.lines)));
  keep : l.accounts.keep ≡ l.keep;
}
