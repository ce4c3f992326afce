use Rattle.law_calm.proofs.Handled.{handled_then}
use Rattle.law_calm.proofs.rounds.what_was_put_is_handled.Goals as goal

pub returns : goal.returns
returns g c = λ v last k n p conn d s t reached here is rounds low at flows online before after. handled_then v last k n p conn d s t reached here is rounds low at flows online before after
