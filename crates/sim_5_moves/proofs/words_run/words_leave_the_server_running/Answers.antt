use Rattle.sim_5_moves.proofs.Bound.{bound_bare, bound_spares}
use Rattle.sim_5_moves.proofs.WordsRunWords.{word_flags, word_runs, word_silent}
use Rattle.sim_5_moves.proofs.words_run.words_leave_the_server_running.Goals as goal

pub returns-clause-runs : goal.returns-clause-runs
returns-clause-runs c = λ keep owned names takes who logins h wires v k word o p is of runs. word_runs who logins h wires v k owned names o of keep takes runs word is p

pub returns-clause-silent : goal.returns-clause-silent
returns-clause-silent c = λ who logins h wires v k word owned names o moment p is of. word_silent who logins h wires v k owned names o of moment word is p

pub returns-clause-flags : goal.returns-clause-flags
returns-clause-flags c = λ who logins h wires v k word account resource d p is represents. word_flags who logins h wires v k word account resource d p is represents

pub returns-clause-bare : goal.returns-clause-bare
returns-clause-bare c = λ who logins h wires v k owned names o p of. bound_bare who logins h wires v k p owned names o of

pub returns-clause-spares : goal.returns-clause-spares
returns-clause-spares c = λ who logins h wires v k owned names o account resource d p of apart represents. bound_spares who logins h wires v k p owned names o of account resource d apart represents
