use Rattle.std.proofs.Common.{arith, leb, leb-false, leb-true, rules}
use Rattle.std.proofs.lemmas.List.Sorted.{IsPartitionPoint-from_clause, IsPartitionedBy-leb}
use Rattle.sm_resumption.proofs.table.above.Goals as goal

pub returns-clause-low : goal.returns-clause-low
returns-clause-low c =
    let parted = IsPartitionedBy-leb (λ n. n) _ c.args.number c.requires in
    let point = IsPartitionPoint-from_clause (λ n. leb n c.args.number) _ _ c.partition_point.ensures.partitioned parted (λ a r q k. search rules) in
    λ k d h. leb-true _ _ (point.0 k d (omega arith) h)

pub returns-clause-high : goal.returns-clause-high
returns-clause-high c =
    let parted = IsPartitionedBy-leb (λ n. n) _ c.args.number c.requires in
    let point = IsPartitionPoint-from_clause (λ n. leb n c.args.number) _ _ c.partition_point.ensures.partitioned parted (λ a r q k. search rules) in
    λ k d after within. leb-false _ _ (point.1 k d after within)
