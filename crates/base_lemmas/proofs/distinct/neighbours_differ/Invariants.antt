use Rattle.base_lemmas.proofs.DistinctItems.{NeighboursDiffer}
use Rattle.base_lemmas.proofs.distinct.neighbours_differ.Given as goal

abbrev pub invariant-loop-later : goal.invariant-loop-later
invariant-loop-later g l = NeighboursDiffer g.T.Ord.cmp l.items l.later
