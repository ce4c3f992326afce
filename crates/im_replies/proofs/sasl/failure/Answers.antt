use Rattle.std.proofs.Common.{ap, ◌∙◌}
use Rattle.std.proofs.lemmas.Result.{IfOk-weaker}
use Rattle.im_login.specs.Sasl.{failure_of}
use Rattle.xml_writer.specs.Canon.{canon}
use Rattle.im_replies.proofs.sasl.failure.Goals as goal

pub returns : goal.returns
returns c =
    let tree = c.in_ok-tree.ensures ∙ ap failure_of c.in_ok-condition.ensures in
    IfOk-weaker c.spelled.result _ _ (λ b e. e ∙ ap canon tree) c.spelled.ensures
