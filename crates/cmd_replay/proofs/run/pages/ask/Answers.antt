-- The page behind the log's last entry or, where that one was purged, the archive's first page.
use Rattle.std.proofs.Common.{◌≡◌, Some, None, sym, ap, ◌∙◌}
use Rattle.cmd_direct.specs.Direct.{query_after, query_at}
use Rattle.mam_log.specs.LogPages.{last_id}
use Rattle.mam_pages.specs.Kept.{kept_of}
use Rattle.mam_pages.specs.PageOf.{page_of}
use Rattle.mam_pages.specs.declared.query.PagePosition.{PagePosition}
use Rattle.cmd_replay.proofs.Asking.{page_anew, page_found, position_purged}
use Rattle.std.proofs.lemmas.Option.{same_Some}
use Rattle.cmd_replay.proofs.run.pages.ask.Goals as goal

pub returns-in-Some-clause-cut : goal.returns-in-Some-clause-cut
returns-in-Some-clause-cut c =
    let asked : page_of (kept_of c.args.archive.now) (query_after (last_id c.args.log.now.entries) c.args.most) ≡ Some c.in-Some.cut =
    ap (λ (position : PagePosition). page_of (kept_of c.args.archive.now) (query_at position c.args.most)) (sym c.in_ok-position_after.ensures) ∙ c.in_ok-cut.ensures ∙ c.in-Some.is in
    (page_found c.args.archive.now.keep c.args.archive.now.last c.args.most c.args.archive.now.owner c.args.archive.now.entries c.args.log.now.entries c.in-Some.cut
    c.requires.kept c.requires.most c.requires.in_order asked).0

pub returns-in-Some-clause-anew : goal.returns-in-Some-clause-anew
returns-in-Some-clause-anew c =
    let asked : page_of (kept_of c.args.archive.now) (query_after (last_id c.args.log.now.entries) c.args.most) ≡ Some c.in-Some.cut =
    ap (λ (position : PagePosition). page_of (kept_of c.args.archive.now) (query_at position c.args.most)) (sym c.in_ok-position_after.ensures) ∙ c.in_ok-cut.ensures ∙ c.in-Some.is in
    (page_found c.args.archive.now.keep c.args.archive.now.last c.args.most c.args.archive.now.owner c.args.archive.now.entries c.args.log.now.entries c.in-Some.cut
    c.requires.kept c.requires.most c.requires.in_order asked).1

pub returns-in_ok-ask_first-in-None-clause-cut : goal.returns-in_ok-ask_first-in-None-clause-cut
returns-in_ok-ask_first-in-None-clause-cut c =
    let asked : page_of (kept_of c.args.archive.now) (query_after (last_id c.args.log.now.entries) c.args.most) ≡ None =
    ap (λ (position : PagePosition). page_of (kept_of c.args.archive.now) (query_at position c.args.most)) (sym c.in_ok-position_after.ensures) ∙ c.in_ok-cut.ensures ∙ c.in-None.is in
    let gone = position_purged c.args.archive.now.keep c.args.archive.now.last c.args.most c.args.archive.now.owner c.args.archive.now.entries c.args.log.now.entries
    c.requires.kept c.requires.most c.requires.in_order asked in
    let first = page_anew c.args.archive.now.keep c.args.archive.now.last c.args.most c.args.archive.now.owner c.args.archive.now.entries c.args.log.now.entries
    c.requires.most gone in
    sym (same_Some _ _ (sym first ∙ c.in_ok-ask_first-in-None.ensures))

pub returns-in_ok-ask_first-in-None-clause-anew : goal.returns-in_ok-ask_first-in-None-clause-anew
returns-in_ok-ask_first-in-None-clause-anew c =
    let asked : page_of (kept_of c.args.archive.now) (query_after (last_id c.args.log.now.entries) c.args.most) ≡ None =
    ap (λ (position : PagePosition). page_of (kept_of c.args.archive.now) (query_at position c.args.most)) (sym c.in_ok-position_after.ensures) ∙ c.in_ok-cut.ensures ∙ c.in-None.is in
    sym (position_purged c.args.archive.now.keep c.args.archive.now.last c.args.most c.args.archive.now.owner c.args.archive.now.entries c.args.log.now.entries
    c.requires.kept c.requires.most c.requires.in_order asked)
