use Rattle.std.proofs.Common.{◌≡◌, List, ℕ, IfOk, length, subst, sym, ap, ◌∙◌, arith}
use Rattle.mam_archive.specs.Peers.{bare_form, first_of}
use Rattle.mam_pages.proofs.PlainQueries.{chain_some, plain_chain, plain_first, plain_matching}
use Rattle.mam_pages.proofs.WholeArchives.{matching_rise}
use Rattle.mam_pages.specs.Kept.{Kept, last_number}
use Rattle.mam_pages.specs.Matches.{matching}
use Rattle.mam_pages.specs.Spans.{cut_by, numbers_of}
use Rattle.mam_pages.specs.Stretches.{IsStretch, chain_numbers}
use Rattle.mam_pages.specs.Tallies.{IsTally}
use Rattle.mam_pages.specs.Walks.{chain, wanted_numbers}
use Rattle.mam_pages.proofs.stretch.cut_beside.Goals as goal

pub tally_from-requires-clause-first : goal.tally_from-requires-clause-first
tally_from-requires-clause-first g c =
    plain_first (g.V.Look.archive c.args.look.now) c.args.query.now c.args.peer.now c.args.chain.now c.requires.plain c.requires.peer c.requires.chain
    ∙ ap (λ (k : Kept). first_of k.owner (bare_form c.args.peer.now) k.entries) (sym c.stretch_beside.ensures.archive)

pub returns-in-Some-clause-cut : goal.returns-in-Some-clause-cut
returns-in-Some-clause-cut g c =
    let kept = g.V.Look.archive c.args.look.now in
    let same = c.stretch_beside.ensures.archive in
    let stretch = subst (λ (k : Kept). IsStretch c.args.span (chain_numbers k c.args.peer.now) c.in-Some.stretch) (sym same) c.in-Some.ensures.stretch in
    let cut = subst (λ (k : Kept). IfOk c.cut_of_stretch.result (λ cut. cut ≡ cut_by c.args.span (chain_numbers k c.args.peer.now))) same
    (c.cut_of_stretch.ensures.cut c.args.peer.now (last_number kept.entries) c.requires.reach stretch) in
    subst (λ (ns : List ℕ). IfOk c.cut_of_stretch.result (λ cut. cut ≡ cut_by c.args.span ns)) (sym (plain_matching kept c.args.query.now c.args.peer.now c.requires.plain c.requires.peer)) cut

pub returns-in-None-clause-cut : goal.returns-in-None-clause-cut
returns-in-None-clause-cut g c =
    let kept = g.V.Look.archive c.args.look.now in
    let tally = subst (λ (k : Kept). IsTally c.args.span (wanted_numbers k.owner c.args.query.now k.entries) c.tally_from.result) c.stretch_beside.ensures.archive c.tally_from.ensures.tally in
    c.cut.ensures c.args.span (numbers_of (matching kept c.args.query.now)) (last_number kept.entries) (matching_rise kept c.args.query.now c.requires.consecutive) tally

pub returns-in-None-clause-looks : goal.returns-in-None-clause-looks
returns-in-None-clause-looks g c =
    let kept = g.V.Look.archive c.args.look.now in
    let walked = c.tally_from.ensures.plain c.requires.plain in
    let size = ap (λ (k : Kept). length (chain k c.args.query.now)) c.stretch_beside.ensures.archive ∙ plain_chain kept c.args.query.now c.args.peer.now c.requires.plain c.requires.peer in
    let some = chain_some kept c.args.peer.now c.args.chain.now c.requires.chain in
    omega (arith, walked, size, some, c.in-None.ensures.none)
