use Rattle.mam_pages.proofs.WholeArchives.{matching_rise}
use Rattle.mam_pages.specs.Kept.{last_number}
use Rattle.mam_pages.specs.Matches.{matching}
use Rattle.mam_pages.specs.Spans.{numbers_of}
use Rattle.mam_pages.proofs.paging.cut_of_chain.Goals as goal

pub returns-clause-cut : goal.returns-clause-cut
returns-clause-cut g c =
    let kept = g.V.Look.archive c.args.look.now in
    c.cut.ensures c.args.span (numbers_of (matching kept c.args.query.now)) (last_number kept.entries)
    (matching_rise kept c.args.query.now c.requires.consecutive) c.tally_of_chain.ensures.tally
