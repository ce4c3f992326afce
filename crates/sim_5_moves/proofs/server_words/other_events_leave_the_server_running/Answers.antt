use Rattle.sim_5_moves.proofs.Events.{fresh_runs, gone_flags, gone_runs, moment_flags, moment_runs}
use Rattle.sim_5_moves.proofs.server_words.other_events_leave_the_server_running.Goals as goal

pub returns-clause-gone : goal.returns-clause-gone
returns-clause-gone c = λ keep owned names takes h k runs. gone_runs keep owned names takes h runs k

pub returns-clause-gone_flags : goal.returns-clause-gone_flags
returns-clause-gone_flags c = λ h k account resource d rule represents. gone_flags h account resource d rule represents k

pub returns-clause-moment : goal.returns-clause-moment
returns-clause-moment c = λ keep owned names takes h now runs. moment_runs keep owned names takes h runs now

pub returns-clause-moment_flags : goal.returns-clause-moment_flags
returns-clause-moment_flags c = λ h now account resource d rule represents. moment_flags h account resource d rule represents now

pub returns-clause-comes : goal.returns-clause-comes
returns-clause-comes c = λ keep owned names takes h k entropy runs. fresh_runs keep owned names takes h runs k entropy

pub returns-clause-comes_flags : goal.returns-clause-comes_flags
returns-clause-comes_flags c = λ h k entropy account resource d represents. represents
