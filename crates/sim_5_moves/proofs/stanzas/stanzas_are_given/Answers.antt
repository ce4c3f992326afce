use Rattle.sim_5_moves.proofs.GivenHere.{nothing, replied}
use Rattle.sim_5_moves.proofs.stanzas.stanzas_are_given.Goals as goal

pub returns-clause-replied : goal.returns-clause-replied
returns-clause-replied c = λ acts given r next last reply is device sent. replied acts given r next last reply is device sent

pub returns-clause-nothing : goal.returns-clause-nothing
returns-clause-nothing c = λ acts given v next is silent. nothing acts given v next is silent
