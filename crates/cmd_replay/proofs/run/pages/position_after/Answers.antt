-- The last entry's id is the one that is copied.
use Rattle.std.proofs.Common.{sym, ap, ◌∙◌}
use Rattle.mam_log.specs.LogPages.{last_id}
use Rattle.mam_pages.specs.declared.query.PagePosition.TheVariants.{After}
use Rattle.cmd_replay.proofs.PageEnds.{last_read}
use Rattle.cmd_direct.specs.Direct.{position_after}
use Rattle.cmd_replay.proofs.run.pages.position_after.Goals as goal

pub returns-in_ok-copied-in-Some : goal.returns-in_ok-copied-in-Some
returns-in_ok-copied-in-Some c =
    ap After c.in_ok-copied-in-Some.ensures
    ∙ ap position_after (sym (last_read c.entries.result.now c.in-Some.last.now (sym c.in-Some.ensures.value)))
    ∙ ap (λ es. position_after (last_id es)) c.entries.ensures
