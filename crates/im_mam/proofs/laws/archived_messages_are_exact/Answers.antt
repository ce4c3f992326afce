use Rattle.im_mam.proofs.ResultLaws.{result_exact}
use Rattle.im_mam.proofs.laws.archived_messages_are_exact.Goals as goal

pub returns : goal.returns
returns c = result_exact
