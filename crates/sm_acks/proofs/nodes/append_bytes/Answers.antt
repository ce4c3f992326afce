use Rattle.std.proofs.Common.{◌≡◌, arith, refl, sym, ◌∙◌}
use Rattle.std.proofs.lemmas.List.{append-nil}
use Rattle.sm_acks.proofs.Paths.{front_bytes, front_held, left_room, left_items, room_left}
use Rattle.sm_acks.proofs.nodes.append_bytes.Goals as goal

pub loop-left-init : goal.loop-left-init
loop-left-init c = record { held = c.requires.held; room = c.requires.room; items = refl }

pub bytes_of-requires : goal.bytes_of-requires
bytes_of-requires c = (front_held c.args.nodes.now.slots c.loop-left.left c.loop-left.at c.loop-left-test.true c.loop-left.invariant.held).0

pub append_reserved-requires : goal.append_reserved-requires
append_reserved-requires c =
    let whole = front_bytes c.args.nodes.now.slots c.loop-left.left c.loop-left.at c.loop-left-test.true in
    left_room _ c.as_slice.result.now _ _ c.loop-left.out.spare whole (c.as_slice.ensures ∙ c.bytes_of.ensures) c.loop-left.invariant.room

pub next_of-at-requires : goal.next_of-at-requires
next_of-at-requires c = (front_held c.args.nodes.now.slots c.loop-left.left c.loop-left.at c.loop-left-test.true c.loop-left.invariant.held).0

pub loop-left-preserved : goal.loop-left-preserved
loop-left-preserved c =
    let whole = front_bytes c.args.nodes.now.slots c.loop-left.left c.loop-left.at c.loop-left-test.true in
    let now = c.as_slice.ensures ∙ c.bytes_of.ensures in
    rw c.next_of-at.ensures record {
      held = (front_held c.args.nodes.now.slots c.loop-left.left c.loop-left.at c.loop-left-test.true c.loop-left.invariant.held).1;
      room = room_left _ c.as_slice.result.now _ _ c.loop-left.out.spare c.append_reserved.new.self.spare whole now c.loop-left.invariant.room c.append_reserved.ensures.spare;
      items = left_items _ c.as_slice.result.now _ _ c.loop-left.out.items c.append_reserved.new.self.items _ whole now c.loop-left.invariant.items c.append_reserved.ensures.items;
    }

pub returns : goal.returns
returns c =
    let none : c.loop-left.left ≡ 0 = omega (arith, c.loop-left-test.false) in
    sym (append-nil c.loop-left.out.items) ∙ rw none at c.loop-left.invariant.items
