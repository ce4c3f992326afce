-- The lines so far, and those of the accounts that are left.
use Rattle.std.proofs.Common.{◌≡◌, ◌++◌, drop}
use Rattle.cmd_world.specs.WorldReports.{account_lines}
use Rattle.cmd_world.proofs.report.account_lines.Given as goal

abbrev pub invariant-loop-name : goal.invariant-loop-name
invariant-loop-name l = record {
  whole : l.lines.items ++ account_lines l.position (drop l.name-index l.names) l.server.server_state.archives ≡ account_lines 0 l.names l.server.server_state.archives;
  at : l.position ≡ l.name-index;
}
