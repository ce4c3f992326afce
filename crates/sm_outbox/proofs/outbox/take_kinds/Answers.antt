use Rattle.std.proofs.Common.{◌≡◌, ◌+◌, ◌-◌, suc, arith}
use Rattle.sm_outbox.proofs.TakenKinds.{next_taken}
use Rattle.sm_outbox.proofs.outbox.take_kinds.Goals as goal

pub loop-preserved : goal.loop-preserved
loop-preserved c =
    let i = c.loop.invariant in
    let h : c.args.count - c.loop.counter ≡ suc (c.args.count - (c.loop.counter + 1)) = omega arith in
    let next = next_taken c.args.count c.loop.counter c.loop.submissions _ (c.args.count - (c.loop.counter + 1)) c.pop_front.result c.pop_front.new.self.items c.loop.kinds.items _ c.loop-test.true i.left c.pop_front.ensures.items (λ some. c.pop_front.ensures.variant.1 (omega (arith, c.loop.kinds.ok))) i.few i.counted i.dropped h in
    rw c.counted-submissions.ensures (record { left = next.left; few = next.few; counted = next.counted_is; dropped = next.dropped })
