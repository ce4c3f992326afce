use Rattle.std.proofs.Common.{◌≡◌, ◌≤◌, length}
use Rattle.cmd_schedule.specs.Reading.{pieces_of}
use Rattle.cmd_schedule.specs.WireGrammar.{nothing_above}
use Rattle.cmd_schedule.specs.WireReading.{read_wire_lines}
use Rattle.cmd_schedule.proofs.WireReadLines.{with_wire_lines}
use Rattle.cmd_schedule.proofs.reading.read_wire_lines.Given as goal

-- the lines so far, and what the rest reads as, are what all of the text reads as
abbrev pub invariant-loop-rest : goal.invariant-loop-rest
invariant-loop-rest l = record {
  few : l.number ≤ 100001;
  told : with_wire_lines l.lines.items (read_wire_lines l.above l.number (pieces_of l.rest)) ≡ read_wire_lines nothing_above 2 (pieces_of l.text);
}

abbrev pub decreases-loop-rest : goal.decreases-loop-rest
decreases-loop-rest l = length l.rest
