use Rattle.std.proofs.Common.{Some, ap, codes, ◌∙◌}
use Rattle.std.proofs.lemmas.Result.{IfOk-weaker}
use Rattle.im_replies.proofs.AnswerLaws.{too_high_stays}
use Rattle.im_stanza.specs.Errors.{stream_error_elem}
use Rattle.xml_trees.specs.Tidied.{tidied}
use Rattle.xml_writer.specs.Canon.{canon}
use Rattle.im_replies.proofs.streams.too_high.Goals as goal

pub returns : goal.returns
returns c =
    let tree =
    c.in_ok-tree.ensures
    ∙ ap (λ x. tidied (stream_error_elem (codes "undefined-condition") (Some x))) c.in_ok-extra.ensures
    ∙ too_high_stays c.args.h c.args.send_count in
    IfOk-weaker c.spelled.result _ _ (λ b e. e ∙ ap canon tree) c.spelled.ensures
