use Rattle.std.proofs.Common.{ap, ◌∙◌}
use Rattle.std.proofs.lemmas.Result.{IfOk-weaker}
use Rattle.im_extensions.specs.StreamManagement.{resumed_elem}
use Rattle.xml_writer.specs.Canon.{canon}
use Rattle.im_replies.proofs.management.resumed.Goals as goal

pub returns : goal.returns
returns c =
    let tree = c.in_ok-tree.ensures ∙ ap (λ id. resumed_elem (record { previd = id; h = c.args.h })) c.in_ok-previd.ensures in
    IfOk-weaker c.spelled.result _ _ (λ b e. e ∙ ap canon tree) c.spelled.ensures
