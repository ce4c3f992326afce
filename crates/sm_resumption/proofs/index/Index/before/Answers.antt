use Rattle.std.proofs.Common.{arith, leb, leb-false, leb-true, rules}
use Rattle.std.proofs.lemmas.List.Sorted.{IsPartitionPoint-from_clause, IsPartitionedBy-leb}
use Rattle.sm_resumption.specs.declared.index.Wait.{Wait}
use Rattle.sm_resumption.proofs.index.Index.before.Goals as goal

pub returns-in-Some-clause-low : goal.returns-in-Some-clause-low
returns-in-Some-clause-low c =
    let parted = IsPartitionedBy-leb (λ (w : Wait). w.since) _ c.args.since c.requires in
    let point = IsPartitionPoint-from_clause (λ (w : Wait). leb w.since c.args.since) _ _ c.partition_point.ensures.partitioned parted (λ a r q k. search rules) in
    λ k d h. leb-true _ _ (point.0 k d (omega arith) h)

pub returns-in-Some-clause-high : goal.returns-in-Some-clause-high
returns-in-Some-clause-high c =
    let parted = IsPartitionedBy-leb (λ (w : Wait). w.since) _ c.args.since c.requires in
    let point = IsPartitionPoint-from_clause (λ (w : Wait). leb w.since c.args.since) _ _ c.partition_point.ensures.partitioned parted (λ a r q k. search rules) in
    λ k d after within. (let above = leb-false _ _ (point.1 k d after within) in omega (arith, above))
