use Rattle.sim_2_links.proofs.Dialled.{newest_states, newest_not_high}
use Rattle.sim_2_links.proofs.links.counts_are_too_high_only_after_a_newer_connection.Goals as goal

pub returns-clause-stated : goal.returns-clause-stated
returns-clause-stated g c = λ moves v k h conn r rest reaches is found row first. newest_states moves v k h conn r rest reaches is found row first

pub returns-clause-too_high : goal.returns-clause-too_high
returns-clause-too_high g c = λ moves v next k reaches is m. newest_not_high moves v next k reaches is m
