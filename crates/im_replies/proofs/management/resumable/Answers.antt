use Rattle.std.proofs.Common.{Some, true, ap, ◌∙◌}
use Rattle.std.proofs.lemmas.Result.{IfOk-weaker}
use Rattle.im_extensions.specs.StreamManagement.{enabled_elem}
use Rattle.xml_writer.specs.Canon.{canon}
use Rattle.im_replies.proofs.management.resumable.Goals as goal

pub returns : goal.returns
returns c =
    let tree = c.in_ok-tree.ensures ∙ ap (λ id. enabled_elem (record { id = id; resume = true; max = Some c.args.seconds })) c.in_ok-previd.ensures in
    IfOk-weaker c.spelled.result _ _ (λ b e. e ∙ ap canon tree) c.spelled.ensures
