use Rattle.sm_acks.proofs.Directions.{got_prefix, kept_always}
use Rattle.sim_2_links.proofs.delivery.delivery_is_a_prefix.Goals as goal

pub returns-clause-prefix : goal.returns-clause-prefix
returns-clause-prefix g c = λ moves d reaches. got_prefix d (kept_always moves d reaches)

pub returns-clause-acked : goal.returns-clause-acked
returns-clause-acked g c = λ moves d reaches. (kept_always moves d reaches).acked

pub returns-clause-stated : goal.returns-clause-stated
returns-clause-stated g c = λ moves d reaches. (kept_always moves d reaches).stated

pub returns-clause-way : goal.returns-clause-way
returns-clause-way g c = λ moves d reaches. (kept_always moves d reaches).front

pub returns-clause-whole : goal.returns-clause-whole
returns-clause-whole g c = λ moves d reaches. (kept_always moves d reaches).whole
