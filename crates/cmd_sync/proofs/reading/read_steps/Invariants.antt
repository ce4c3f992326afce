-- The steps so far, and what the rest reads as, are what all of the text reads as.
use Rattle.std.proofs.Common.{◌≡◌, ◌+◌, ◌≤◌, length}
use Rattle.cmd_schedule.specs.Reading.{pieces_of}
use Rattle.cmd_sync.specs.ScriptReading.{read_steps}
use Rattle.cmd_sync.proofs.ReadSteps.{with_steps}
use Rattle.cmd_sync.proofs.reading.read_steps.Given as goal

abbrev pub invariant-loop-rest : goal.invariant-loop-rest
invariant-loop-rest l = record {
  told : with_steps l.steps.items (read_steps l.next (pieces_of l.rest)) ≡ read_steps l.number (pieces_of l.text);
  counted : l.next + length l.rest ≤ l.number + length l.text;
}

abbrev pub decreases-loop-rest : goal.decreases-loop-rest
decreases-loop-rest l = length l.rest
