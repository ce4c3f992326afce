use Rattle.base_lemmas.proofs.Lists.{AllByRecursion-weaker}
use Rattle.sim_7_schedules.proofs.EventRows.{IsFair}
use Rattle.sim_7_schedules.proofs.PiecesTold.{told_fair}
use Rattle.sim_7_schedules.proofs.Reasons.{words_here}
use Rattle.sim_7_schedules.proofs.Timely.{timely_at}
use Rattle.sim_7_schedules.proofs.WorldsSimulated.{beside_at}
use Rattle.sim_7_schedules.specs.Faults.{EndsForFew, told_on}
use Rattle.sim_7_schedules.proofs.faults.streams_end_for_few_reasons.Goals as goal

pub returns-clause-told : goal.returns-clause-told
returns-clause-told c = λ s right j w at position n wire d there has here.
    let beside = beside_at s right j w at in
    AllByRecursion-weaker IsFair EndsForFew (λ event fair. fair.1) (told_on n wire d) (told_fair s right w beside.0 beside.1 (timely_at s right j w at) position n wire d there has here)

pub returns-clause-put : goal.returns-clause-put
returns-clause-put c = λ s right j w at i o owned. let here = beside_at s right j w at in words_here s w here.0 here.1 i o owned
