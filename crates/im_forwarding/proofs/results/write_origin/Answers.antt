use Rattle.std.proofs.Common.{[], ◌++◌, ap, codes, sym, ◌∙◌}
use Rattle.std.proofs.lemmas.Result.{IfOk-weaker}
use Rattle.im_forwarding.proofs.EntryParts.{origin_written}
use Rattle.im_stanza.specs.Names.{client_ns}
use Rattle.xml_trees.specs.Attributes.{attribute}
use Rattle.xml_trees.specs.Trees.{with_attribute}
use Rattle.xml_writer.specs.Canon.{written}
use Rattle.im_forwarding.proofs.results.write_origin.Goals as goal

pub returns : goal.returns
returns c =
    let origin = c.args.origin.now in
    let id = c.in_ok-push_value.ensures.ok ∙ ap (λ e. with_attribute e (attribute [] (codes "id") origin)) c.in_ok-element.ensures in
    IfOk-weaker c.write_element.result _ _
    (λ u e. e ∙ ap (λ x. c.args.out.now.items ++ x) (ap (written client_ns) id ∙ sym (origin_written origin c.if-is_empty.ensures)))
    c.write_element.ensures
