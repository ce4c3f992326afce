use Rattle.std.proofs.Common.{ap, ◌∙◌}
use Rattle.sim_5_moves.proofs.AnswersMessages.{bounce_elsewhere, bounce_read, carried_read, carries, sends_nobody}
use Rattle.sim_5_moves.proofs.answers.messages_are_answered.Goals as goal
use Rattle.sim_5_moves.specs.Sent.{read_at, sends_to}

pub returns-clause-heard : goal.returns-clause-heard
returns-clause-heard c = λ resource m t h account n e s kept is position room rise found high there.
    ap (read_at n) (carries resource m t h account e is position room) ∙ carried_read resource m t h account n rise s found room kept there high

pub returns-clause-nobody : goal.returns-clause-nobody
returns-clause-nobody c = λ resource m t h account n e is position room rise none.
    ap (sends_to n) (carries resource m t h account e is position room) ∙ sends_nobody resource m t h account n rise none

pub returns-clause-bounced : goal.returns-clause-bounced
returns-clause-bounced c = λ resource m t h e is nobody origin. bounce_read resource m t h e is nobody origin

pub returns-clause-others : goal.returns-clause-others
returns-clause-others c = λ resource m t h n e is nobody other. bounce_elsewhere resource m t h e is nobody n other
