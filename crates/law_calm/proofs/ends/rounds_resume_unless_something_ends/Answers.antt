use Rattle.law_calm.proofs.Unended.{online_or, resumed_or}
use Rattle.law_calm.proofs.ends.rounds_resume_unless_something_ends.Goals as goal

pub returns-clause-online : goal.returns-clause-online
returns-clause-online g c = λ v last k n w reached rounds low. online_or v last k n w reached rounds low

pub returns-clause-resumed : goal.returns-clause-resumed
returns-clause-resumed g c = λ v last k n own w reached is_own has client rounds low. resumed_or v last k n own w reached is_own has client rounds low
