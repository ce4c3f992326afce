use Rattle.std.proofs.Common.{sym}
use Rattle.srv_core.proofs.Feeding.{framers_answer}
use Rattle.srv_core.proofs.pieces.feed_at.Goals as goal

pub returns : goal.returns
returns c =
    framers_answer _ c.args.conn c.args.piece.now c.in-Some.framer.now c.feed_framer.new.items.items c.feed_framer.new.framer c.args.framers.now.entries _
    (sym c.in-Some.ensures.value) (c.get_mut.follows.holds c.feed_framer.new.framer).0 c.feed_framer.ensures
