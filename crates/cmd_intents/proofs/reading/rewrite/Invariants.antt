use Rattle.std.proofs.Common.{◌≡◌, ◌+◌, ◌^◌, ◌<◌, length}
use Rattle.cmd_schedule.specs.Reading.{pieces_of}
use Rattle.cmd_intents.specs.Files.{beyond, within}
use Rattle.cmd_intents.specs.Rewritten.{IsRewritten}
use Rattle.cmd_intents.specs.declared.reading.Rewritten.{Rewritten}
use Rattle.cmd_intents.proofs.reading.rewrite.Given as goal

-- what is one too many of the rest is that of the text, and who writes the rest has written the text
abbrev pub invariant-loop-line : goal.invariant-loop-line
invariant-loop-line l = record {
  few : l.so_far.next + length l.rest < 2 ^ 64;
  beyond_is : beyond (length l.so_far.intents.items) (length l.so_far.resolves.items) (pieces_of l.rest) ≡ beyond (length l.initial.so_far.intents.items) (length l.initial.so_far.resolves.items) (pieces_of l.text);
  told : (last : Rewritten) → IsRewritten l.so_far (within (length l.so_far.intents.items) (length l.so_far.resolves.items) (pieces_of l.rest)) last
      → IsRewritten l.initial.so_far (within (length l.initial.so_far.intents.items) (length l.initial.so_far.resolves.items) (pieces_of l.text)) last;
}

abbrev pub decreases-loop-line : goal.decreases-loop-line
decreases-loop-line l = length l.rest
