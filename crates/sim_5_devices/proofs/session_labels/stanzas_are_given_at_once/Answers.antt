use Rattle.sim_5_devices.proofs.Given.{given_at_once, taken_at_once}
use Rattle.sim_5_devices.proofs.session_labels.stanzas_are_given_at_once.Goals as goal

pub returns-clause-given : goal.returns-clause-given
returns-clause-given g c = λ r z zs d last interleaved. given_at_once r z zs d last interleaved

pub returns-clause-taken : goal.returns-clause-taken
returns-clause-taken g c = λ r z zs d last interleaved. taken_at_once r z zs d last interleaved
