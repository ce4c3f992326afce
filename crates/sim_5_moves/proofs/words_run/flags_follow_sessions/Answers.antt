use Rattle.sim_5_moves.proofs.Following.{bare_represents, bound_represents, label_shows, session_steps_show}
use Rattle.sim_5_moves.proofs.words_run.flags_follow_sessions.Goals as goal

pub returns-clause-labels : goal.returns-clause-labels
returns-clause-labels g c = λ r x account resource h d next does represents. label_shows account resource h r x d next does represents

pub returns-clause-session_steps : goal.returns-clause-session_steps
returns-clause-session_steps g c = λ xs account resource h d last none session_steps represents. session_steps_show account resource h xs d last none session_steps represents

pub returns-clause-bound : goal.returns-clause-bound
returns-clause-bound g c = λ xs account resource h d last some session_steps bare. bound_represents account resource h xs d last some session_steps bare

pub returns-clause-bare : goal.returns-clause-bare
returns-clause-bare g c = λ account resource h d bare absent. bare_represents account resource h d bare absent
