use Rattle.sim_7_schedules.proofs.AsksUnbound.{asks_unbound}
use Rattle.sim_7_schedules.proofs.LateBytes.{device_alone}
use Rattle.sim_7_schedules.proofs.WorldsSimulated.{beside_at, kept_at}
use Rattle.sim_7_schedules.proofs.late_words.late_words_change_no_archive.Goals as goal

pub returns-clause-changes : goal.returns-clause-changes
returns-clause-changes c = λ s right j w at position o by none count. let here = beside_at s right j w at in device_alone s right w here.0 (kept_at s j w at) here.1 position o by none count

pub returns-clause-asks : goal.returns-clause-asks
returns-clause-asks c = λ s right j w at. let here = beside_at s right j w at in asks_unbound s w here.0 here.1
