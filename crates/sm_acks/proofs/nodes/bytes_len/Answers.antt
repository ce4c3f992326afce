use Rattle.std.proofs.Common.{◌≡◌, arith, ◌∙◌}
use Rattle.sm_acks.proofs.Paths.{front_bytes, front_held, left_sum}
use Rattle.sm_acks.proofs.nodes.bytes_len.Goals as goal

pub loop-left-init : goal.loop-left-init
loop-left-init c = record { held = c.requires; most = omega arith; sum = omega arith }

pub bytes_of-requires : goal.bytes_of-requires
bytes_of-requires c = (front_held c.args.nodes.now.slots c.loop-left.left c.loop-left.at c.loop-left-test.true c.loop-left.invariant.held).0

pub next_of-at-requires : goal.next_of-at-requires
next_of-at-requires c = (front_held c.args.nodes.now.slots c.loop-left.left c.loop-left.at c.loop-left-test.true c.loop-left.invariant.held).0

pub loop-left-preserved : goal.loop-left-preserved
loop-left-preserved c =
    let whole = front_bytes c.args.nodes.now.slots c.loop-left.left c.loop-left.at c.loop-left-test.true in
    let now = c.as_slice.ensures ∙ c.bytes_of.ensures in
    rw c.next_of-at.ensures record {
      held = (front_held c.args.nodes.now.slots c.loop-left.left c.loop-left.at c.loop-left-test.true c.loop-left.invariant.held).1;
      most = omega (arith, c.saturating_add-len.type_inv);
      sum = left_sum _ c.as_slice.result.now _ _ c.loop-left.len c.saturating_add-len.result _ _ whole now c.loop-left.invariant.sum c.saturating_add-len.ensures;
    }

pub returns : goal.returns
returns c =
    let none : c.loop-left.left ≡ 0 = omega (arith, c.loop-left-test.false) in
    omega (arith, c.loop-left.invariant.most, rw none at c.loop-left.invariant.sum)
