use Rattle.std.proofs.Common.{◌≡◌, IfOk, subst}
use Rattle.cmd_deciding.specs.Texts.{text_of_intents}
use Rattle.cmd_deciding.proofs.answering.file_text.Goals as goal

pub returns : goal.returns
returns c = subst (λ s. IfOk c.intents_text.result (λ text. text.items ≡ text_of_intents s)) c.in_ok-watch.ensures c.intents_text.ensures
