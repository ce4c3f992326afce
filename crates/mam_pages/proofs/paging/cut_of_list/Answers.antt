use Rattle.mam_pages.proofs.WholeArchives.{matching_all, matching_rise, no_account, numbered_bounds}
use Rattle.mam_pages.specs.Kept.{last_number}
use Rattle.mam_pages.specs.Matches.{matching}
use Rattle.mam_pages.specs.Spans.{numbers_of}
use Rattle.mam_pages.proofs.paging.cut_of_list.Goals as goal

pub cut_of_all-requires-clause-first : goal.cut_of_all-requires-clause-first
cut_of_all-requires-clause-first g c =
    (numbered_bounds c.args.first c.args.last (g.V.Look.archive c.args.look.now).entries c.requires.numbered).0

pub cut_of_all-requires-clause-last : goal.cut_of_all-requires-clause-last
cut_of_all-requires-clause-last g c =
    (numbered_bounds c.args.first c.args.last (g.V.Look.archive c.args.look.now).entries c.requires.numbered).1

pub returns-then-asks_no_more-clause-cut : goal.returns-then-asks_no_more-clause-cut
returns-then-asks_no_more-clause-cut g c =
    let kept = g.V.Look.archive c.args.look.now in
    let query = c.args.query.now in
    let all = matching_all kept query c.args.first c.args.last c.requires.numbered
    (λ e. c.asks_no_more.ensures.all kept.owner e c.if-asks_no_more.true (no_account kept.owner query e c.requires.peer)) in
    rw all at c.cut_of_all.ensures

pub returns-else-asks_no_more-clause-cut : goal.returns-else-asks_no_more-clause-cut
returns-else-asks_no_more-clause-cut g c =
    let kept = g.V.Look.archive c.args.look.now in
    c.cut.ensures c.args.span (numbers_of (matching kept c.args.query.now)) (last_number kept.entries)
    (matching_rise kept c.args.query.now c.requires.numbered.consecutive) c.tally_of_list.ensures.tally
