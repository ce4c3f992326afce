use Rattle.std.proofs.Common.{◌≤◌, true≢false, Some, length, refl, sym, ap, ◌∙◌, arith}
use Rattle.std.specs.List.{slice_get}
use Rattle.sm_acks.specs.Queues.{list_of}
use Rattle.sm_acks.proofs.Arenas.{list_is}
use Rattle.sm_acks.proofs.Paths.{stanza_at, stanzas_length, walk_held}
use Rattle.sm_acks.proofs.pool.Pool.nth.Goals as goal

pub returns-then-ends-i-clause-none : goal.returns-then-ends-i-clause-none
returns-then-ends-i-clause-none c =
    let inside = c.self.inside in
    let e = c.ends_of-ends.result in
    let is = list_is inside.nodes inside.ends inside.made c.args.queue e c.args.self.now c.self.view_is c.ends_of-ends.ensures in
    let past : length (list_of c.args.queue c.args.self.now) ≤ c.args.i = omega (arith, ap length is, stanzas_length inside.nodes.slots e, c.if-ends-i.true) in
    (λ _. past, λ _. refl)

pub bytes_of-requires : goal.bytes_of-requires
bytes_of-requires c =
    let e = c.ends_of-ends.result in
    walk_held c.self.inside.nodes.slots e.len e.first c.args.i c.position-at.result (c.self.invariant.linked c.args.queue e c.ends_of-ends.ensures).held (omega (arith, c.if-ends-i.false)) c.position-at.ensures

pub returns-clause-stanza : goal.returns-clause-stanza
returns-clause-stanza c =
    let inside = c.self.inside in
    let e = c.ends_of-ends.result in
    let is = list_is inside.nodes inside.ends inside.made c.args.queue e c.args.self.now c.self.view_is c.ends_of-ends.ensures in
    ap (λ l. slice_get l c.args.i) is ∙ stanza_at inside.nodes.slots e c.args.i c.position-at.result (omega (arith, c.if-ends-i.false)) c.position-at.ensures ∙ ap Some (sym c.bytes_of.ensures)

pub returns-clause-none : goal.returns-clause-none
returns-clause-none c =
    let inside = c.self.inside in
    let e = c.ends_of-ends.result in
    let is = list_is inside.nodes inside.ends inside.made c.args.queue e c.args.self.now c.self.view_is c.ends_of-ends.ensures in
    (λ k. absurd (true≢false k), λ h. absurd (omega (arith, h, ap length is, stanzas_length inside.nodes.slots e, c.if-ends-i.false)))
