use Rattle.im_jid.proofs.NormalAgain.{are_joined}
use Rattle.im_jid.proofs.laws.parts_are_joined.Goals as goal

pub returns : goal.returns
returns c = are_joined
