-- What the rest reads as, behind what is told so far, is what all of the text reads as.
use Rattle.std.proofs.Common.{◌≡◌, ◌+◌, ◌≤◌, length}
use Rattle.cmd_report_reader.specs.Reading.{read_lines}
use Rattle.cmd_report_reader.proofs.reading.add_lines.Given as goal
use Rattle.cmd_schedule.specs.Reading.{pieces_of}

abbrev pub invariant-loop-rest : goal.invariant-loop-rest
invariant-loop-rest l = record {
  told : read_lines l.number l.so_far (pieces_of l.rest) ≡ read_lines 2 l.fn.so_far (pieces_of l.fn.text);
  counted : l.number + length l.rest ≤ 2 + length l.fn.text;
}

abbrev pub decreases-loop-rest : goal.decreases-loop-rest
decreases-loop-rest l = length l.rest
