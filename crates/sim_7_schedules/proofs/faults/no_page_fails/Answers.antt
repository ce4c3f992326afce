use Rattle.base_lemmas.proofs.Lists.{AllByRecursion-weaker}
use Rattle.sim_7_schedules.proofs.EventRows.{IsFair}
use Rattle.sim_7_schedules.proofs.PiecesTold.{told_fair}
use Rattle.sim_7_schedules.proofs.Timely.{timely_at}
use Rattle.sim_7_schedules.proofs.WorldsSimulated.{beside_at}
use Rattle.sim_7_schedules.specs.Faults.{IsNoPageFault, told_on}
use Rattle.sim_7_schedules.proofs.faults.no_page_fails.Goals as goal

pub returns : goal.returns
returns c = λ s right j w at position n wire d there has here.
    let beside = beside_at s right j w at in
    AllByRecursion-weaker IsFair IsNoPageFault (λ event fair. fair.0) (told_on n wire d) (told_fair s right w beside.0 beside.1 (timely_at s right j w at) position n wire d there has here)
