use Rattle.std.proofs.Common.{refl}
use Rattle.sim_2_events.proofs.Acts.{first_two, one_by_one, ends_where_full, stays_where_not, flags_unseen}
use Rattle.sim_2_events.proofs.link_events.acts_are_told_by_events.Goals as goal

pub returns-clause-online : goal.returns-clause-online
returns-clause-online g c = λ d. first_two d

pub returns-clause-puts : goal.returns-clause-puts
returns-clause-puts g c = λ z zs d. one_by_one z zs d

pub returns-clause-full : goal.returns-clause-full
returns-clause-full g c = λ fits zs d full. ends_where_full fits zs d full

pub returns-clause-room : goal.returns-clause-room
returns-clause-room g c = λ fits zs d room. stays_where_not fits zs d room

pub returns-clause-handles : goal.returns-clause-handles
returns-clause-handles g c = λ a fits z rest w. refl

pub returns-clause-flags : goal.returns-clause-flags
returns-clause-flags g c = λ r v d z n a. flags_unseen r v d z n a
