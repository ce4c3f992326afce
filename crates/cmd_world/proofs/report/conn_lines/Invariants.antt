-- The lines so far, and those of the connections that are left.
use Rattle.std.proofs.Common.{◌≡◌, ◌+◌, ◌++◌, drop}
use Rattle.cmd_world.specs.WorldReports.{conn_lines}
use Rattle.cmd_world.proofs.report.conn_lines.Given as goal

abbrev pub invariant-loop-wire : goal.invariant-loop-wire
invariant-loop-wire l = record {
  whole : l.lines.items ++ conn_lines l.devices l.k (drop l.wire-index l.wires) ≡ conn_lines l.devices 1 l.wires;
  at : l.k ≡ l.wire-index + 1;
}
