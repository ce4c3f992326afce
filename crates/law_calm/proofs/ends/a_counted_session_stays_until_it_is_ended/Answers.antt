use Rattle.law_calm.proofs.SessionStays.{session_stays}
use Rattle.law_calm.proofs.ends.a_counted_session_stays_until_it_is_ended.Goals as goal

pub returns : goal.returns
returns g c = λ moves v last p reached has leads. session_stays moves v last p reached has leads
