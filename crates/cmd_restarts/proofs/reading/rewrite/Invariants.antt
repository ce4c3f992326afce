use Rattle.std.proofs.Common.{◌+◌, ◌^◌, ◌<◌, length}
use Rattle.cmd_restarts.specs.Rewritten.{IsRewritten}
use Rattle.cmd_restarts.specs.declared.reading.Rewritten.{Rewritten}
use Rattle.cmd_restarts.proofs.reading.rewrite.Given as goal
use Rattle.cmd_schedule.specs.Reading.{pieces_of}

-- who writes the rest has written the text
abbrev pub invariant-loop-rest : goal.invariant-loop-rest
invariant-loop-rest l = record {
  few : l.so_far.next + length l.rest < 2 ^ 64;
  told : (last : Rewritten) → IsRewritten l.so_far (pieces_of l.rest) last → IsRewritten l.initial.so_far (pieces_of l.text) last;
}

abbrev pub decreases-loop-rest : goal.decreases-loop-rest
decreases-loop-rest l = length l.rest
