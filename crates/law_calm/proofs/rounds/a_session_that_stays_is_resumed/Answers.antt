use Rattle.law_calm.proofs.Sparing.{resumed_then}
use Rattle.law_calm.proofs.rounds.a_session_that_stays_is_resumed.Goals as goal

pub returns : goal.returns
returns g c = λ v last k n conn d own row ended reached here is is_own is_row same client rounds low at flows is_ended still. resumed_then v last k n conn d own row ended reached here is is_own is_row same client rounds low at flows is_ended still
