use Rattle.sim_5_moves.proofs.AnswersReplies.{carbons_answered, carbons_does, iq_elsewhere, presence_answered, presence_does, request_answered}
use Rattle.sim_5_moves.proofs.answers.replies_are_answers.Goals as goal

pub returns-clause-carbons : goal.returns-clause-carbons
returns-clause-carbons c = carbons_answered

pub returns-clause-presence : goal.returns-clause-presence
returns-clause-presence c = presence_answered

pub returns-clause-request : goal.returns-clause-request
returns-clause-request c = λ a t h r e is around asked. request_answered a t h r around asked e is

pub returns-clause-copies : goal.returns-clause-copies
returns-clause-copies c = λ t h e is. (_, carbons_does t h e is)

pub returns-clause-presents : goal.returns-clause-presents
returns-clause-presents c = presence_does

pub returns-clause-others : goal.returns-clause-others
returns-clause-others c = iq_elsewhere
