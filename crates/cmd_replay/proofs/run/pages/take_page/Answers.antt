-- The page that the archive answers ends well.
use Rattle.std.proofs.Common.{cond, None, map, take, refl, sym, ap, ◌∙◌}
use Rattle.cmd_direct.specs.Direct.{as_logged}
use Rattle.cmd_direct.specs.NextPages.{kept_after, last_logged}
use Rattle.mam_log.specs.LogPages.{last_id}
use Rattle.mam_log.specs.Views.{LogView}
use Rattle.mam_pages.specs.Cuts.{fin_of}
use Rattle.cmd_replay.proofs.Asking.{purged_named}
use Rattle.cmd_replay.proofs.PageEnds.{page_ends_well, page_taken_over}
use Rattle.cmd_replay.specs.Turns.{opened, with_results}
use Rattle.cmd_replay.proofs.run.pages.take_page.Goals as goal

pub begin_page-requires-clause-following : goal.begin_page-requires-clause-following
begin_page-requires-clause-following c = λ is.
    rw (purged_named c.args.archive.now.last c.args.archive.now.entries c.args.log.now.entries c.requires.in_order (sym c.in_ok-cut.ensures.anew ∙ is)) refl

pub end_page-requires : goal.end_page-requires
end_page-requires c =
    let n = last_logged c.args.log.now.entries in
    page_ends_well c.args.archive.now.keep c.args.archive.now.last c.args.most c.args.archive.now.entries c.as_str-2.result.now
    (cond c.in_ok-cut.field-0.anew None (last_id c.args.log.now.entries)) c.args.log.now c.add_results.new.log c.in_ok-fin.fin
    c.requires.kept c.requires.most.0 c.requires.in_order
    (c.in_ok-fin.ensures ∙ ap fin_of c.in_ok-cut.ensures.cut)
    (c.in_ok-add_results.ensures
    ∙ ap (λ (l : LogView). with_results l (map as_logged (take c.args.most (kept_after (last_logged l.entries) c.args.archive.now.last c.args.archive.now.entries)))) c.in_ok-queryid.ensures
    ∙ ap (λ q. opened q c.args.most (cond c.in_ok-cut.field-0.anew None (last_id c.args.log.now.entries)) c.args.log.now
    (map as_logged (take c.args.most (kept_after (last_logged c.args.log.now.entries) c.args.archive.now.last c.args.archive.now.entries)))) (sym c.as_str-2.ensures))

pub returns-clause-page : goal.returns-clause-page
returns-clause-page c =
    page_taken_over c.args.archive.now.keep c.args.archive.now.last c.args.most c.args.archive.now.entries c.in_ok-queryid.queryid
    c.in_ok-cut.field-0.anew c.args.log.now c.add_results.new.log c.end_page.new.log c.in_ok-fin.fin
    c.requires.kept c.requires.in_order
    (c.in_ok-fin.ensures ∙ ap fin_of c.in_ok-cut.ensures.cut)
    c.in_ok-cut.ensures.anew
    (c.in_ok-add_results.ensures
    ∙ ap (λ (l : LogView). with_results l (map as_logged (take c.args.most (kept_after (last_logged l.entries) c.args.archive.now.last c.args.archive.now.entries)))) c.in_ok-queryid.ensures)
    c.in_ok-end_page.ensures
