use Rattle.std.proofs.Common.{◌≡◌, arith, refl, sym, ◌∙◌}
use Rattle.std.proofs.lemmas.List.{append-nil}
use Rattle.sm_acks.specs.Queues.{stanzas_in}
use Rattle.sm_acks.proofs.Paths.{front_stanzas, front_held, left_stanzas}
use Rattle.sm_acks.proofs.nodes.copy_stanzas.Goals as goal

pub loop-left-init : goal.loop-left-init
loop-left-init c = record { held = c.requires; items = refl }

pub bytes_of-requires : goal.bytes_of-requires
bytes_of-requires c = (front_held c.args.nodes.now.slots c.loop-left.left c.loop-left.at c.loop-left-test.true c.loop-left.invariant.held).0

pub next_of-at-requires : goal.next_of-at-requires
next_of-at-requires c = (front_held c.args.nodes.now.slots c.loop-left.left c.loop-left.at c.loop-left-test.true c.loop-left.invariant.held).0

pub loop-left-preserved : goal.loop-left-preserved
loop-left-preserved c =
    let whole = front_stanzas c.args.nodes.now.slots c.loop-left.left c.loop-left.at c.loop-left-test.true in
    let now = c.in_ok-from_slice.ensures ∙ c.as_slice.ensures ∙ c.bytes_of.ensures in
    rw c.next_of-at.ensures record {
      held = (front_held c.args.nodes.now.slots c.loop-left.left c.loop-left.at c.loop-left-test.true c.loop-left.invariant.held).1;
      items = left_stanzas c.loop-left.out.items _ _ _ _ _ _ whole now c.loop-left.invariant.items c.in_ok-push.ensures.ok;
    }

pub returns : goal.returns
returns c =
    let none : c.loop-left.left ≡ 0 = omega (arith, c.loop-left-test.false) in
    sym (append-nil (stanzas_in c.loop-left.out.items)) ∙ rw none at c.loop-left.invariant.items
