use Rattle.std.proofs.Common.{◌≡◌, length}
use Rattle.std.specs.Vec.Iter.{into_iter_items, into_iter_len}
use Rattle.net_hub.proofs.joining.join.Given as goal
use Rattle.net_hub.specs.Bundles.{AreJoinedYet}

-- the outputs so far are joined
abbrev pub invariant-loop-output : goal.invariant-loop-output
invariant-loop-output l = record {
  yet : AreJoinedYet (into_iter_items l.initial.output-iterator) (into_iter_items l.output-iterator) l.bundles;
  left : into_iter_len l.output-iterator ≡ length (into_iter_items l.output-iterator);
}
