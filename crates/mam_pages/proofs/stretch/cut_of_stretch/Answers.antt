use Rattle.mam_pages.proofs.ChainNumbers.{numbers_rise}
use Rattle.mam_pages.proofs.StretchCuts.{stretch_cut}
use Rattle.mam_pages.specs.Kept.{last_number}
use Rattle.mam_pages.specs.Stretches.{chain_numbers}
use Rattle.mam_pages.proofs.stretch.cut_of_stretch.Goals as goal

pub returns-clause-cut : goal.returns-clause-cut
returns-clause-cut g c peer last reach stretch =
    let kept = g.V.Look.archive c.args.look.now in
    stretch_cut c.args.span.now (last_number kept.entries) (chain_numbers kept peer) c.args.stretch.now c.min-count.result c.in_ok-numbers.numbers.items c.first_index.result
    (numbers_rise kept peer c.requires.consecutive) stretch c.min-count.ensures (c.in_ok-numbers.ensures.numbers peer last reach stretch) c.first_index.ensures
