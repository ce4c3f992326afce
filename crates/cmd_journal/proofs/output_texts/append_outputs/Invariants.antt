use Rattle.std.proofs.Common.{◌≡◌, ◌++◌, map, take}
use Rattle.std.specs.List.{flat_map}
use Rattle.cmd_journal.specs.Texts.{output_text, output_view}
use Rattle.cmd_journal.proofs.output_texts.append_outputs.Given as goal

abbrev pub invariant-loop-output : goal.invariant-loop-output
invariant-loop-output l = l.out.items ≡ l.initial.out.items ++ flat_map output_text (map output_view (take l.output-index l.output-items))
