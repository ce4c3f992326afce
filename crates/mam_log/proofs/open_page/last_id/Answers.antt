use Rattle.std.proofs.Common.{Some, ap, sym, ◌∙◌}
use Rattle.mam_log.specs.LogPages.{last_id}
use Rattle.mam_log.proofs.LastIds.{last_id-push}
use Rattle.mam_log.proofs.open_page.last_id.Goals as goal

pub returns-in-Some : goal.returns-in-Some
returns-in-Some c =
    ap Some c.as_str.ensures ∙ (sym (last_id-push c.in-Some.field-0-1.now c.in-Some.last.now) ∙ ap last_id (sym c.in-Some.ensures.cases.0))
