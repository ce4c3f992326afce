use Rattle.im_mam.proofs.FinLaws.{fin_exact}
use Rattle.im_mam.proofs.laws.ends_of_pages_are_exact.Goals as goal

pub returns : goal.returns
returns c = fin_exact
