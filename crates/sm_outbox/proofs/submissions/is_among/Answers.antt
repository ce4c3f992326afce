use Rattle.std.proofs.Common.{◌∙◌, ◌≤◌, ap, arith, length, ltb, ltb-false, ltb-true, nat_eq, rules, subst, sym}
use Rattle.std.proofs.lemmas.List.Sorted.{IsPartitionPoint-from_clause, IsPartitionedBy-ltb}
use Rattle.sm_outbox.proofs.SearchedPositions.{by_position, found_at, none_at}
use Rattle.sm_outbox.specs.Submissions.{position_of}
use Rattle.sm_outbox.proofs.submissions.is_among.Goals as goal

pub returns-in-Some : goal.returns-in-Some
returns-in-Some c =
    let rise = by_position c.args.items.now c.requires in
    let point = IsPartitionPoint-from_clause (λ s. ltb (position_of s) c.args.at) _ _ c.partition_point-first.ensures.partitioned (IsPartitionedBy-ltb position_of _ c.args.at rise) (λ a r q k. search rules) in
    let found = c.in-Some.ensures.lookup.3 in
    let least : c.args.at ≤ position_of c.in-Some.said.now = subst (λ s. c.args.at ≤ position_of s) (sym (found.1 c.in-Some.said.now)) (ltb-false _ _ (point.1 c.partition_point-first.result c.in-Some.said.now (omega arith) found.0)) in
    ap (λ m. nat_eq m c.args.at) c.position.ensures.value
    ∙ found_at c.args.items.now c.partition_point-first.result c.args.at c.in-Some.said.now rise (λ k d before within. ltb-true _ _ (point.0 k d (omega arith) before)) found.0 least (λ d. sym (found.1 d))

pub returns-in-None : goal.returns-in-None
returns-in-None c =
    let rise = by_position c.args.items.now c.requires in
    let point = IsPartitionPoint-from_clause (λ s. ltb (position_of s) c.args.at) _ _ c.partition_point-first.ensures.partitioned (IsPartitionedBy-ltb position_of _ c.args.at rise) (λ a r q k. search rules) in
    let past : length c.args.items.now ≤ c.partition_point-first.result = c.in-None.ensures.lookup.3 in
    sym (none_at c.args.items.now c.partition_point-first.result c.args.at (λ k d before within. ltb-true _ _ (point.0 k d (omega arith) before)) (λ k d from within. absurd (omega arith)))
