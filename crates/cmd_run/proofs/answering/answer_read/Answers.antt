use Rattle.std.proofs.Common.{refl}
use Rattle.cmd_run.proofs.Inputs.{due_of_read}
use Rattle.cmd_run.proofs.answering.answer_read.Goals as goal

pub returns-in-Ok-clause-due : goal.returns-in-Ok-clause-due
returns-in-Ok-clause-due g c =
    due_of_read _ _ _ _ _ _ _ _ _ _ refl c.in-Ok.ensures.given c.in-Ok.ensures.all c.in-Ok.ensures.short c.in-Ok.ensures.end c.answer_to.ensures.answer
