use Rattle.law_calm.proofs.StaysOpen.{stays_open}
use Rattle.law_calm.proofs.ends.a_connection_stays_open_until_it_is_ended.Goals as goal

pub returns : goal.returns
returns g c = λ moves v last k reached works leads. stays_open moves v last k reached works leads
