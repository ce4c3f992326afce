use Rattle.sim_5_moves.proofs.Binding.{bind_flags, bind_runs, bind_silent, bind_spares}
use Rattle.sim_5_moves.proofs.server_words.bindings_leave_the_server_running.Goals as goal

pub returns-clause-runs : goal.returns-clause-runs
returns-clause-runs c = λ keep owned names takes h k account o may runs. bind_runs owned names k account o h may keep takes runs

pub returns-clause-silent : goal.returns-clause-silent
returns-clause-silent c = λ owned names h k account o moment may. bind_silent owned names k account o h may moment

pub returns-clause-flags : goal.returns-clause-flags
returns-clause-flags c = λ owned names h k account o d may rule. bind_flags owned names k account o h may d rule

pub returns-clause-spares : goal.returns-clause-spares
returns-clause-spares c = λ owned names h k account o other resource d may rule apart represents. bind_spares owned names k account o h may other resource d rule apart represents
