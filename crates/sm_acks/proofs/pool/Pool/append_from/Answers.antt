use Rattle.std.proofs.Common.{◌≡◌, ◌++◌, [], drop, sym, ap, ap₂, ◌∙◌, arith}
use Rattle.std.proofs.lemmas.List.{append-nil, drop_all}
use Rattle.std.specs.List.{concat}
use Rattle.sm_acks.specs.Arena.{stanzas_at}
use Rattle.sm_acks.proofs.Arenas.{list_is}
use Rattle.sm_acks.proofs.Paths.{stanzas_drop, stanzas_length, walk_rest}
use Rattle.sm_acks.proofs.pool.Pool.append_from.Goals as goal

pub returns-then-ends-skip-clause-ok : goal.returns-then-ends-skip-clause-ok
returns-then-ends-skip-clause-ok c =
    let inside = c.self.inside in
    let e = c.ends_of-ends.result in
    let is = list_is inside.nodes inside.ends inside.made c.args.queue e c.args.self.now c.self.view_is c.ends_of-ends.ensures in
    let none : drop c.args.skip (stanzas_at inside.nodes.slots e) ≡ [] = drop_all c.args.skip (stanzas_at inside.nodes.slots e) (omega (arith, stanzas_length inside.nodes.slots e, c.if-ends-skip.true)) in
    rw (is, none) (sym (append-nil c.args.out.now.items))

pub bytes_len-len-requires : goal.bytes_len-len-requires
bytes_len-len-requires c =
    let e = c.ends_of-ends.result in
    walk_rest c.self.inside.nodes.slots e.len e.first c.args.skip c.position-first.result (c.self.invariant.linked c.args.queue e c.ends_of-ends.ensures).held c.position-first.ensures

pub append_bytes-requires-clause-held : goal.append_bytes-requires-clause-held
append_bytes-requires-clause-held c =
    let e = c.ends_of-ends.result in
    walk_rest c.self.inside.nodes.slots e.len e.first c.args.skip c.position-first.result (c.self.invariant.linked c.args.queue e c.ends_of-ends.ensures).held c.position-first.ensures

pub returns-clause-ok : goal.returns-clause-ok
returns-clause-ok c =
    let inside = c.self.inside in
    let e = c.ends_of-ends.result in
    let is = list_is inside.nodes inside.ends inside.made c.args.queue e c.args.self.now c.self.view_is c.ends_of-ends.ensures in
    let following = ap (drop c.args.skip) is ∙ stanzas_drop inside.nodes.slots e c.args.skip c.position-first.result c.position-first.ensures in
    c.append_bytes.ensures ∙ ap₂ (λ xs ys. xs ++ ys) c.in_ok-reserve.ensures.items (ap concat (sym following))
