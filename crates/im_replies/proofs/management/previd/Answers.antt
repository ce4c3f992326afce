use Rattle.base_lemmas.proofs.HexDigits.{hex16_of-IsUtf8}
use Rattle.im_replies.proofs.management.previd.Goals as goal

pub unreachable-requires : goal.unreachable-requires
unreachable-requires c = c.in-Err.ensures.cases.0 (rw c.hex16.ensures (hex16_of-IsUtf8 c.args.session))
