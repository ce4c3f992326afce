-- What is left of the catch-up makes of the log what the whole makes of the log as it was.
use Rattle.std.proofs.Common.{◌≡◌, ◌+◌, cond, None, length}
use Rattle.cmd_direct.specs.NextPages.{kept_after, last_logged}
use Rattle.cmd_replay.specs.Turns.{IsInOrder, caught_up}
use Rattle.cmd_replay.proofs.run.pages.catch_up.Given as goal

abbrev pub invariant-loop-more : goal.invariant-loop-more
invariant-loop-more l = record {
  same : cond l.more (caught_up l.most l.archive.last l.archive.entries l.log) l.log ≡ caught_up l.most l.archive.last l.archive.entries l.fn.log;
  in_order : IsInOrder l.archive.last l.log.entries;
  closed : l.log.page ≡ None;
}

abbrev pub decreases-loop-more : goal.decreases-loop-more
decreases-loop-more l = cond l.more (length (kept_after (last_logged l.log.entries) l.archive.last l.archive.entries) + 1) 0
