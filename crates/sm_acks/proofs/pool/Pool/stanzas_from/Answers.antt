use Rattle.std.proofs.Common.{◌≡◌, ◌++◌, [], drop, sym, ap, ap₂, ◌∙◌, arith}
use Rattle.std.proofs.lemmas.List.{drop_all}
use Rattle.sm_acks.specs.Arena.{stanzas_at}
use Rattle.sm_acks.specs.Queues.{stanzas_in}
use Rattle.sm_acks.proofs.Arenas.{list_is}
use Rattle.sm_acks.proofs.Paths.{stanzas_drop, stanzas_length, walk_rest}
use Rattle.sm_acks.proofs.pool.Pool.stanzas_from.Goals as goal

pub returns-then-ends-skip : goal.returns-then-ends-skip
returns-then-ends-skip c =
    let inside = c.self.inside in
    let e = c.ends_of-ends.result in
    let is = list_is inside.nodes inside.ends inside.made c.args.queue e c.args.self.now c.self.view_is c.ends_of-ends.ensures in
    let none : drop c.args.skip (stanzas_at inside.nodes.slots e) ≡ [] = drop_all c.args.skip (stanzas_at inside.nodes.slots e) (omega (arith, stanzas_length inside.nodes.slots e, c.if-ends-skip.true)) in
    rw (is, none) (ap stanzas_in c.new-stanzas.ensures)

pub copy_stanzas-requires : goal.copy_stanzas-requires
copy_stanzas-requires c =
    let e = c.ends_of-ends.result in
    walk_rest c.self.inside.nodes.slots e.len e.first c.args.skip c.position-first.result (c.self.invariant.linked c.args.queue e c.ends_of-ends.ensures).held c.position-first.ensures

pub returns : goal.returns
returns c =
    let inside = c.self.inside in
    let e = c.ends_of-ends.result in
    let is = list_is inside.nodes inside.ends inside.made c.args.queue e c.args.self.now c.self.view_is c.ends_of-ends.ensures in
    let following = ap (drop c.args.skip) is ∙ stanzas_drop inside.nodes.slots e c.args.skip c.position-first.result c.position-first.ensures in
    c.in_ok-copy_stanzas.ensures ∙ ap₂ (λ xs ys. xs ++ ys) (ap stanzas_in (c.in_ok-reserve.ensures.items ∙ c.new-stanzas.ensures)) (sym following)
