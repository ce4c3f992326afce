use Rattle.sim_5_devices.proofs.Logged.{stanza_done}
use Rattle.sim_5_devices.proofs.logs.stanzas_are_logged.Goals as goal

pub returns : goal.returns
returns c = λ o keep history d s b z a is plain built counted well. (stanza_done o keep history d s b z a is plain built counted well).goes_on
