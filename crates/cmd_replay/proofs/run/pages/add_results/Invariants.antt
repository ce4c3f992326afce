-- The open page has the results so far, and the rest of the log is as it was.
use Rattle.std.proofs.Common.{◌≡◌, map, take}
use Rattle.cmd_direct.specs.Direct.{as_logged}
use Rattle.cmd_direct.specs.NextPages.{kept_after, last_logged}
use Rattle.cmd_replay.specs.Turns.{with_results}
use Rattle.cmd_replay.proofs.run.pages.add_results.Given as goal

abbrev pub invariant-loop-number : goal.invariant-loop-number
invariant-loop-number l =
    l.log ≡ with_results l.fn.log (map as_logged (take l.number-index (kept_after (last_logged l.fn.log.entries) l.archive.last l.archive.entries)))
