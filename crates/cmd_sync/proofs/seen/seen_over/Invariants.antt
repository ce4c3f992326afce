-- The events to come bring what is seen so far to what is seen in all.
use Rattle.std.proofs.Common.{◌≡◌, drop}
use Rattle.cmd_sync.proofs.Folded.{seen_from}
use Rattle.cmd_sync.specs.Courses.{seen_over}
use Rattle.cmd_sync.proofs.seen.seen_over.Given as goal

abbrev pub invariant-loop-event : goal.invariant-loop-event
invariant-loop-event l = seen_from l.stage l.acknowledged l.before (drop l.event-index l.events) ≡ seen_over l.stage l.acknowledged l.events
