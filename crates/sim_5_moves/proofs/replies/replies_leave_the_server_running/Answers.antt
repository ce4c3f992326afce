use Rattle.sim_5_moves.proofs.Effects.{still_runs, tells_nothing}
use Rattle.sim_5_moves.proofs.RepliesFlags.{other_flags, own_flags}
use Rattle.sim_5_moves.proofs.replies.replies_leave_the_server_running.Goals as goal

pub returns-clause-runs : goal.returns-clause-runs
returns-clause-runs c = λ keep owned names takes h o s x e is. still_runs keep owned names takes h o s x e is

pub returns-clause-silent : goal.returns-clause-silent
returns-clause-silent c = λ keep owned names takes h o s x e moment is. tells_nothing keep owned names takes h o s x e is moment

pub returns-clause-flags : goal.returns-clause-flags
returns-clause-flags c = λ keep owned names takes h o s x e d is rule present represents. own_flags keep owned names takes h o s x e is rule d present represents

pub returns-clause-spares : goal.returns-clause-spares
returns-clause-spares c = λ keep owned names takes h o s x e account resource d is rule apart represents. other_flags keep owned names takes h o s x e is rule account resource d apart represents
