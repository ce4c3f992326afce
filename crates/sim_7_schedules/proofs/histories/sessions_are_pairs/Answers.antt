use Rattle.sim_7_schedules.proofs.Further.{further}
use Rattle.sim_7_schedules.proofs.SessionCourses.{course}
use Rattle.sim_7_schedules.proofs.SessionPairs.{delivered}
use Rattle.sim_7_schedules.proofs.histories.sessions_are_pairs.Goals as goal

pub returns-clause-pairs : goal.returns-clause-pairs
returns-clause-pairs c = λ s right i o owned. course s right i o owned

pub returns-clause-further : goal.returns-clause-further
returns-clause-further c = further

pub returns-clause-delivered : goal.returns-clause-delivered
returns-clause-delivered c = delivered
