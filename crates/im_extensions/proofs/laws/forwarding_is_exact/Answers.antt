use Rattle.im_extensions.proofs.ForwardingLaws.{forwarded_exact}
use Rattle.im_extensions.proofs.laws.forwarding_is_exact.Goals as goal

pub returns : goal.returns
returns c = forwarded_exact
