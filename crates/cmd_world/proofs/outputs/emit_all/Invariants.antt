-- The outputs that are left lead where all of them do.
use Rattle.std.proofs.Common.{◌≡◌, length}
use Rattle.std.specs.Vec.Iter.{into_iter_items, into_iter_len}
use Rattle.srv_state.specs.Seen.{outs_of}
use Rattle.cmd_world.specs.Effects.{all_emitted, effects_of}
use Rattle.cmd_world.proofs.outputs.emit_all.Given as goal

abbrev pub invariant-loop-output : goal.invariant-loop-output
invariant-loop-output l = record {
  done : all_emitted l.version l.moment (outs_of (into_iter_items l.output-iterator)) (effects_of l.wires.items l.takes.items)
      ≡ all_emitted l.version l.moment (outs_of (into_iter_items l.initial.output-iterator)) (effects_of l.initial.wires.items l.initial.takes.items);
  left : into_iter_len l.output-iterator ≡ length (into_iter_items l.output-iterator);
}
