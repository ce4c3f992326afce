use Rattle.sim_2_links.proofs.Onward.{moves_go}
use Rattle.sim_2_links.proofs.links.sessions_go_on.Goals as goal

pub returns : goal.returns
returns g c = λ moves v next reached leads. moves_go moves v next reached leads
