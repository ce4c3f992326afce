use Rattle.std.proofs.Common.{◌≡◌, ◌++◌, length, map}
use Rattle.std.specs.Vec.Iter.{into_iter_items, into_iter_len}
use Rattle.srv_state.specs.Seen.{outs_of}
use Rattle.cmd_journal.specs.Texts.{output_view}
use Rattle.cmd_rerun.specs.Reruns.{lines_of}
use Rattle.cmd_rerun.proofs.outputs.lines_of.Given as goal

-- the lines so far, and those of what is left
abbrev pub invariant-loop-output : goal.invariant-loop-output
invariant-loop-output l = record {
  made : map output_view l.lines.items ++ lines_of (outs_of (into_iter_items l.output-iterator)) ≡ lines_of (outs_of (into_iter_items l.initial.output-iterator));
  left : into_iter_len l.output-iterator ≡ length (into_iter_items l.output-iterator);
}
