use Rattle.std.proofs.Common.{ap, ◌∙◌}
use Rattle.std.proofs.lemmas.Result.{IfOk-weaker}
use Rattle.im_requests.specs.Messages.{chat_elem}
use Rattle.xml_writer.specs.Canon.{canon}
use Rattle.im_requests.proofs.messages.submitted.Goals as goal

pub returns : goal.returns
returns c =
    IfOk-weaker c.chat.result _ _ (λ b e. e ∙ ap (λ nodes. canon (chat_elem c.args.given.now.id.now c.args.given.now.to.now nodes)) c.in_ok-nodes.ensures) c.chat.ensures
