use Rattle.std.proofs.Common.{[], ◌++◌, ap, codes, ◌∙◌}
use Rattle.std.proofs.lemmas.Result.{IfOk-weaker}
use Rattle.im_extensions.specs.Forwarding.{delay_elem}
use Rattle.im_forwarding.proofs.PartSteps.{two_parts}
use Rattle.im_payload.specs.Names.{forwarding}
use Rattle.im_stamp.specs.Dates.{stamp_at}
use Rattle.xml_trees.specs.Attributes.{attribute}
use Rattle.xml_trees.specs.Trees.{with_attribute}
use Rattle.xml_writer.specs.Canon.{written, written_start_tag}
use Rattle.im_forwarding.proofs.writing.open_forwarded.Goals as goal

pub returns : goal.returns
returns c =
    let opened = c.open_bare.new.out.items in
    let delay =
    c.in_ok-push_value.ensures.ok
    ∙ ap (λ e. with_attribute e (attribute [] (codes "stamp") c.as_str.result.now)) c.in_ok-delay.ensures
    ∙ ap delay_elem (c.as_str.ensures ∙ c.in_ok-stamp.ensures.value) in
    IfOk-weaker c.write_element.result _ _
    (λ u e. two_parts c.args.out.now.items opened c.write_element.new.out.items (written_start_tag c.args.default.now forwarding (codes "forwarded") []) (written forwarding (delay_elem (stamp_at c.args.moment)))
    c.in_ok-open_bare.ensures (e ∙ ap (λ x. opened ++ written forwarding x) delay))
    c.write_element.ensures
