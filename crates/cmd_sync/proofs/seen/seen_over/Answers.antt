use Rattle.cmd_sync.proofs.Folded.{seen_more}
use Rattle.cmd_sync.specs.Courses.{seen_over}
use Rattle.cmd_sync.proofs.seen.seen_over.Goals as goal

pub loop-event-preserved : goal.loop-event-preserved
loop-event-preserved c =
    rw (c.seen_next-before.ensures, c.does-is_done.ensures, c.failure_of.ensures)
    (seen_more c.args.stage.now c.args.acknowledged c.loop-event.before c.args.events.now c.loop-event.event-index c.event-item.result
    (seen_over c.args.stage.now c.args.acknowledged c.args.events.now) c.loop-event-test.true c.event-item.is c.loop-event.invariant)
