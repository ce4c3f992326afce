use Rattle.std.proofs.Common.{refl}
use Rattle.sim_5_moves.proofs.Outcomes.{reads, runs_after, told_after}
use Rattle.sim_5_moves.proofs.messages.messages_are_heard.Goals as goal

pub returns-clause-archives : goal.returns-clause-archives
returns-clause-archives c = λ keep owned names takes h i o s m e x. runs_after x

pub returns-clause-told : goal.returns-clause-told
returns-clause-told c = λ keep owned names takes h i o s m e x. told_after x

pub returns-clause-sends : goal.returns-clause-sends
returns-clause-sends c = λ keep owned names takes h i o s m e a j p u x v same. (reads x a j p u v same).read

pub returns-clause-built : goal.returns-clause-built
returns-clause-built c = λ keep owned names takes h i o s m e j p u x v. (reads x (record { accounts = names; first = 0; last = 0; takes = 0 }) j p u v refl).built
