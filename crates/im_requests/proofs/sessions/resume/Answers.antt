use Rattle.std.proofs.Common.{ap, ◌∙◌}
use Rattle.std.proofs.lemmas.Result.{IfOk-weaker}
use Rattle.im_extensions.specs.StreamManagement.{resume_elem}
use Rattle.xml_writer.specs.Canon.{canon}
use Rattle.im_requests.proofs.sessions.resume.Goals as goal

pub returns : goal.returns
returns c =
    let tree = c.in_ok-tree.ensures ∙ ap (λ id. resume_elem (record { previd = id; h = c.args.h })) c.in_ok-previd.ensures in
    IfOk-weaker c.spelled.result _ _ (λ b e. e ∙ ap canon tree) c.spelled.ensures
