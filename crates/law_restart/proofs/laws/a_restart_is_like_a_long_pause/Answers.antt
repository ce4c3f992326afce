use Rattle.law_restart.proofs.Gone.{restarts}
use Rattle.law_restart.proofs.laws.a_restart_is_like_a_long_pause.Goals as goal

pub returns : goal.returns
returns g c say w outs now later is below le = restarts say w outs now later is below le
