use Rattle.law_calm.proofs.Online.{falls, online_then}
use Rattle.law_calm.proofs.rounds.rounds_bring_the_client_online.Goals as goal

pub returns-clause-falls : goal.returns-clause-falls
returns-clause-falls g c = λ v next k conn d reached here is round at flows. falls v next k conn d reached here is round at flows

pub returns-clause-online : goal.returns-clause-online
returns-clause-online g c = λ v last k n conn d reached here is rounds low at flows. online_then v last k n conn d reached here is rounds low at flows
