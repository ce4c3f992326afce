use Rattle.im_login.proofs.FeatureLaws.{features_again}
use Rattle.im_login.proofs.features_laws.features_are_read.Goals as goal

pub returns : goal.returns
returns c = features_again
