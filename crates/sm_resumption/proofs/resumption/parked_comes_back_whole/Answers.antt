use Rattle.sm_resumption.proofs.ResumeFacts.{comes_back_whole}
use Rattle.sm_resumption.proofs.resumption.parked_comes_back_whole.Goals as goal

pub returns : goal.returns
returns c = comes_back_whole
