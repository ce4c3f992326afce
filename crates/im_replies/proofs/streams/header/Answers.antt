use Rattle.std.proofs.Common.{◌++◌, ap, ◌∙◌}
use Rattle.std.proofs.lemmas.Result.{IfOk-weaker}
use Rattle.xml_writer.specs.Items.{declaration}
use Rattle.im_replies.specs.Streams.{server_header}
use Rattle.xml_writer.specs.Canon.{written_header}
use Rattle.im_replies.proofs.streams.header.Goals as goal

pub returns : goal.returns
returns c =
    let header = c.in_ok-header.ensures ∙ ap (server_header c.args.domain.now) c.in_ok-id.ensures in
    IfOk-weaker c.declared.result _ _ (λ b e. e ∙ ap (λ h. declaration ++ written_header h) header) c.declared.ensures
