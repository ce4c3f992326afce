use Rattle.sim_7_schedules.proofs.ShutConns.{untouched}
use Rattle.sim_7_schedules.proofs.WorldsSimulated.{beside_at}
use Rattle.sim_7_schedules.proofs.histories.what_is_shut_changes_nothing.Goals as goal

pub returns : goal.returns
returns c = λ s right j w at position shut count. let here = beside_at s right j w at in untouched s w here.0 here.1 position shut count
