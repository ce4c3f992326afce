use Rattle.sim_5_moves.proofs.Building.{sent_built}
use Rattle.sim_5_moves.proofs.Replying.{others_get_nothing, replied_is}
use Rattle.sim_5_moves.proofs.replies.replies_are_served.Goals as goal

pub returns-clause-replied : goal.returns-clause-replied
returns-clause-replied c = λ keep owned names takes h o s x e is. replied_is keep owned names takes h o s x e is

pub returns-clause-others : goal.returns-clause-others
returns-clause-others c = λ keep owned names takes h o s x e n is other. others_get_nothing keep owned names takes h o s x e n is other

pub returns-clause-built : goal.returns-clause-built
returns-clause-built c = λ keep owned names takes h o s x e is. sent_built keep owned names takes h o s x e is
