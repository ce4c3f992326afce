-- The lines so far, and those of the devices to come.
use Rattle.std.proofs.Common.{◌≡◌, ◌++◌, length, map}
use Rattle.std.specs.Vec.Iter.{into_iter_items, into_iter_len}
use Rattle.cmd_replay.specs.ReportLines.{state_line}
use Rattle.cmd_replay.proofs.run.summary.device_lines.Given as goal

abbrev pub invariant-loop-device : goal.invariant-loop-device
invariant-loop-device l = record {
  whole : l.lines.items ++ map state_line (into_iter_items l.device-iterator) ≡ map state_line l.fn.devices.items;
  counted : into_iter_len l.device-iterator ≡ length (into_iter_items l.device-iterator);
}
