use Rattle.base_lemmas.proofs.DistinctItems.{IsDistinct-before, IsDistinct-reordered}
use Rattle.base_lemmas.proofs.distinct.are_distinct.Goals as goal

pub returns-clause-told : goal.returns-clause-told
returns-clause-told g c =
    let old = c.args.items.now in
    let new = c.sort_unstable.new.self in
    let moved = c.sort_unstable.ensures.permutation in
    let order = g.met.T.Ord.total in
    (λ found. IsDistinct-before order old new moved (c.neighbours_differ.ensures.0 found), λ h. c.neighbours_differ.ensures.1 (IsDistinct-reordered order old new moved h))
