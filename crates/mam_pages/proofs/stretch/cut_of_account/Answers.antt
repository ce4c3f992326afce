use Rattle.std.proofs.Common.{◌≡◌, List, ℕ, IfOk, subst, sym, ◌∙◌}
use Rattle.mam_pages.proofs.ChainNumbers.{numbers_ends, numbers_none, numbers_rise}
use Rattle.mam_pages.proofs.PlainQueries.{plain_matching}
use Rattle.mam_pages.proofs.StretchCuts.{empty_cut}
use Rattle.mam_pages.specs.Kept.{Kept}
use Rattle.mam_pages.specs.Matches.{matching}
use Rattle.mam_pages.specs.Spans.{Rises, cut_by, numbers_of}
use Rattle.mam_pages.specs.Stretches.{IsStretch, chain_numbers}
use Rattle.mam_pages.proofs.stretch.cut_of_account.Goals as goal

pub returns-in_default-clause-cut : goal.returns-in_default-clause-cut
returns-in_default-clause-cut g c =
    let kept = g.V.Look.archive c.args.look.now in
    let none = numbers_none kept c.args.peer.now (sym c.chain.ensures.ends ∙ c.in_default.is) in
    empty_cut c.args.span c.new.result.items (numbers_of (matching kept c.args.query.now)) c.new.ensures
    (plain_matching kept c.args.query.now c.args.peer.now c.requires.plain c.requires.peer ∙ none)

pub returns-in-None-clause-cut : goal.returns-in-None-clause-cut
returns-in-None-clause-cut g c =
    let kept = g.V.Look.archive c.args.look.now in
    let same = c.chain.ensures.archive in
    let peer = c.args.peer.now in
    let rises = subst (λ (n : ℕ). Rises 0 n (chain_numbers kept peer)) c.requires.last (numbers_rise kept peer c.requires.consecutive) in
    let ends = numbers_ends kept peer c.in-Some.chain (sym c.chain.ensures.ends ∙ c.in-Some.is) in
    let here = c.whole_stretch.ensures.stretch (chain_numbers kept peer) c.args.last rises ends c.requires.reach (sym c.edge.ensures ∙ c.in-None.is) in
    let stretch = subst (λ (k : Kept). IsStretch c.args.span (chain_numbers k peer) c.whole_stretch.result) (sym same) here in
    let cut = subst (λ (k : Kept). IfOk c.cut_of_stretch.result (λ cut. cut ≡ cut_by c.args.span (chain_numbers k peer))) same
    (c.cut_of_stretch.ensures.cut peer c.args.last c.requires.reach stretch) in
    subst (λ (ns : List ℕ). IfOk c.cut_of_stretch.result (λ cut. cut ≡ cut_by c.args.span ns)) (sym (plain_matching kept c.args.query.now peer c.requires.plain c.requires.peer)) cut
