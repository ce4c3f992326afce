use Rattle.std.proofs.Common.{true, ap, codes, ◌∙◌}
use Rattle.std.proofs.lemmas.Result.{IfOk-weaker}
use Rattle.im_requests.specs.Sessions.{setting_item}
use Rattle.xml_writer.specs.Items.{written_item}
use Rattle.im_requests.proofs.sessions.carbons.Goals as goal

pub returns : goal.returns
returns c =
    let payload = c.into_element.ensures ∙ c.in_ok-tree.ensures in
    IfOk-weaker c.setting.result _ _ (λ b e. e ∙ ap (λ payload. written_item (setting_item (codes "carbons") payload)) payload) c.setting.ensures
