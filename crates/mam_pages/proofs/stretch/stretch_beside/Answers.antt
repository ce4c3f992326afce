use Rattle.std.proofs.Common.{if◌then◌else◌, sym, ap, ◌∙◌, arith}
use Rattle.mam_archive.specs.Peers.{index_of, next_of, previous_of}
use Rattle.mam_pages.proofs.StretchBeside.{beside_fewer, found_at, stretch_none, stretch_some}
use Rattle.mam_pages.specs.Kept.{Kept}
use Rattle.mam_pages.specs.Stretches.{number_or}
use Rattle.mam_pages.proofs.stretch.stretch_beside.Goals as goal

pub beside-stretch-requires : goal.beside-stretch-requires
beside-stretch-requires g c =
    let kept = g.V.Look.archive c.args.look.now in
    let at = found_at kept c.args.peer.now c.args.number c.unwrap_or-index.result c.index_of.result c.args.chain.now c.requires.consecutive c.requires.chain
    (sym c.is_with.ensures.answer ∙ c.if-not-is_with.false)
    (c.index_of.ensures.index ∙ ap (λ (k : Kept). index_of k.owner c.args.number k.entries) c.is_with.ensures.archive) c.unwrap_or-index.ensures in
    at.within

pub beside-requires : goal.beside-requires
beside-requires g c =
    let kept = g.V.Look.archive c.args.look.now in
    let at = found_at kept c.args.peer.now c.args.number c.unwrap_or-index.result c.index_of.result c.args.chain.now c.requires.consecutive c.requires.chain
    (sym c.is_with.ensures.answer ∙ c.if-not-is_with.false)
    (c.index_of.ensures.index ∙ ap (λ (k : Kept). index_of k.owner c.args.number k.entries) c.is_with.ensures.archive) c.unwrap_or-index.ensures in
    at.within

pub returns-then-min-eq0-clause-stretch : goal.returns-then-min-eq0-clause-stretch
returns-then-min-eq0-clause-stretch g c =
    let kept = g.V.Look.archive c.args.look.now in
    let at = found_at kept c.args.peer.now c.args.number c.unwrap_or-index.result c.index_of.result c.args.chain.now c.requires.consecutive c.requires.chain
    (sym c.is_with.ensures.answer ∙ c.if-not-is_with.false)
    (c.index_of.ensures.index ∙ ap (λ (k : Kept). index_of k.owner c.args.number k.entries) c.is_with.ensures.archive) c.unwrap_or-index.ensures in
    stretch_none kept c.args.peer.now c.args.span.now c.args.number c.unwrap_or-index.result c.args.chain.now.count c.beside-stretch.result c.requires.consecutive
    c.requires.reach c.requires.edge at c.beside-stretch.ensures (omega (arith, c.min.ensures, c.if-min-eq0.true))

pub returns-then-min-eq0-clause-fewer : goal.returns-then-min-eq0-clause-fewer
returns-then-min-eq0-clause-fewer g c =
    let kept = g.V.Look.archive c.args.look.now in
    let at = found_at kept c.args.peer.now c.args.number c.unwrap_or-index.result c.index_of.result c.args.chain.now c.requires.consecutive c.requires.chain
    (sym c.is_with.ensures.answer ∙ c.if-not-is_with.false)
    (c.index_of.ensures.index ∙ ap (λ (k : Kept). index_of k.owner c.args.number k.entries) c.is_with.ensures.archive) c.unwrap_or-index.ensures in
    beside_fewer c.args.span.now c.args.number c.unwrap_or-index.result c.args.chain.now.count c.beside-stretch.result at.within c.beside-stretch.ensures

pub returns-clause-stretch : goal.returns-clause-stretch
returns-clause-stretch g c =
    let kept = g.V.Look.archive c.args.look.now in
    let at = found_at kept c.args.peer.now c.args.number c.unwrap_or-index.result c.index_of.result c.args.chain.now c.requires.consecutive c.requires.chain
    (sym c.is_with.ensures.answer ∙ c.if-not-is_with.false)
    (c.index_of.ensures.index ∙ ap (λ (k : Kept). index_of k.owner c.args.number k.entries) c.is_with.ensures.archive) c.unwrap_or-index.ensures in
    let same = c.index_of.ensures.archive ∙ c.is_with.ensures.archive in
    stretch_some kept c.args.peer.now c.args.span.now c.args.number c.neighbour-nearest.result c.unwrap_or-index.result c.args.chain.now.count c.beside.result c.requires.consecutive
    c.requires.reach c.requires.edge at c.beside.ensures
    (c.neighbour-nearest.ensures.number ∙ ap (λ (k : Kept). number_or (if c.args.span.now.backward then previous_of k.owner c.args.number k.entries else next_of k.owner c.args.number k.entries) c.args.number) same)

pub returns-clause-fewer : goal.returns-clause-fewer
returns-clause-fewer g c =
    let kept = g.V.Look.archive c.args.look.now in
    let at = found_at kept c.args.peer.now c.args.number c.unwrap_or-index.result c.index_of.result c.args.chain.now c.requires.consecutive c.requires.chain
    (sym c.is_with.ensures.answer ∙ c.if-not-is_with.false)
    (c.index_of.ensures.index ∙ ap (λ (k : Kept). index_of k.owner c.args.number k.entries) c.is_with.ensures.archive) c.unwrap_or-index.ensures in
    beside_fewer c.args.span.now c.neighbour-nearest.result c.unwrap_or-index.result c.args.chain.now.count c.beside.result at.within c.beside.ensures
