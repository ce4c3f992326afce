use Rattle.xml_framer.proofs.ItemsBefore.{front_trans}
use Rattle.xml_framer.proofs.Pieces.{at_rest, bound_after, due_after, front_taken, left_after}
use Rattle.xml_framer.specs.States.{turn}
use Rattle.std.proofs.Common.{drop}
use Rattle.xml_framer.proofs.framer.Framer.take_all.Goals as goal

pub returns-in_err-done-clause-due : goal.returns-in_err-done-clause-due
returns-in_err-done-clause-due c =
    due_after (turn c.loop-done.self c.loop-done.items.items) (turn c.args.self.now c.args.items.now.items) c.take_some.new.items.items (drop c.loop-done.done c.args.piece.now) c.args.piece.now
    c.in_err-done.ensures.err c.loop-done.invariant.left

pub loop-done-preserved : goal.loop-done-preserved
loop-done-preserved c =
    let t = turn c.loop-done.self c.loop-done.items.items in
    let u = turn c.take_some.new.self c.take_some.new.items.items in
    let taken = at_rest t u c.args.piece.now c.loop-done.done c.in_ok-done.field-0 c.in_ok-done.ensures.ok in
    record {
      bound = bound_after t u c.args.piece.now c.loop-done.done c.in_ok-done.field-0 c.loop-done.invariant.bound taken;
      left = left_after t u (turn c.args.self.now c.args.items.now.items) c.args.piece.now c.loop-done.done c.in_ok-done.field-0 taken.done c.loop-done.invariant.left;
      kept = front_trans c.args.items.now.items c.loop-done.items.items c.take_some.new.items.items c.loop-done.invariant.kept (front_taken t u (drop c.loop-done.done c.args.piece.now) c.in_ok-done.field-0 taken);
    }
