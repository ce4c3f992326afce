use Rattle.im_extensions.proofs.CarbonLaws.{carbon_exact}
use Rattle.im_extensions.proofs.laws.carbons_are_exact.Goals as goal

pub returns : goal.returns
returns c = carbon_exact
