use Rattle.sim_1_applications.proofs.Binds.{after_a_bind}
use Rattle.sim_1_applications.proofs.sessions.takes_after_a_bind_are_new.Goals as goal

pub returns : goal.returns
returns c = λ w next v i d all reached at is reaches. after_a_bind w next v i d all reached at is reaches
