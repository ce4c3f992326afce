use Rattle.std.proofs.Common.{◌≡◌, true, false, ◌++◌, ap, codes, sym, ◌∙◌}
use Rattle.std.proofs.lemmas.Result.{IfOk-weaker}
use Rattle.im_forwarding.proofs.KeptNodes.{attrs_of, nothing_passed, passed_in_parts}
use Rattle.im_forwarding.proofs.PartSteps.{four_parts}
use Rattle.im_forwarding.specs.Parts.{kept_text}
use Rattle.im_forwarding.specs.Passed.{addressed_view, id_node, passed_nodes}
use Rattle.im_stanza.specs.Names.{client_ns}
use Rattle.xml_trees.specs.Trees.{attributes_of, name_of, namespace_of}
use Rattle.xml_writer.specs.Canon.{has_nothing, written, written_end_tag, written_nodes, written_start_tag}
use Rattle.im_forwarding.proofs.passing.write_passed.Goals as goal

pub returns-then-nothing : goal.returns-then-nothing
returns-then-nothing c =
    let by = c.args.filed.now.by.now in
    let number = c.args.filed.now.number in
    let m = addressed_view c.args.message.now in
    let none : has_nothing (passed_nodes by number m.payload) ≡ true = sym (sym c.if-nothing.true ∙ c.in_ok-nothing.ensures ∙ ap (λ ks. has_nothing (passed_nodes by number ks)) c.payload_of-payload.ensures) in
    IfOk-weaker c.write_element.result _ _
    (λ u e. e ∙ ap (λ x. c.args.out.now.items ++ written c.args.default.now x) (c.in_ok-head.ensures ∙ sym (nothing_passed by number m none)))
    c.write_element.ensures

pub returns : goal.returns
returns c =
    let default = c.args.default.now in
    let by = c.args.filed.now.by.now in
    let number = c.args.filed.now.number in
    let m = addressed_view c.args.message.now in
    let some : has_nothing (passed_nodes by number m.payload) ≡ false = sym (sym c.if-nothing.false ∙ c.in_ok-nothing.ensures ∙ ap (λ ks. has_nothing (passed_nodes by number ks)) c.payload_of-payload.ensures) in
    let before = c.args.out.now.items in
    let opened = c.open_element.new.out.items in
    let first = c.in_ok-open_element.ensures ∙ ap (λ h. before ++ written_start_tag default (namespace_of h) (name_of h) (attributes_of h)) c.in_ok-head.ensures in
    let second = c.in_ok-write_kept.ensures ∙ ap (λ ks. opened ++ kept_text by ks) c.payload_of-payload.ensures in
    IfOk-weaker c.close_message.result _ _
    (λ u e. four_parts before opened c.write_kept.new.out.items c.write_id.new.out.items c.close_message.new.out.items
    (written_start_tag default client_ns (codes "message") (attrs_of m)) (kept_text by m.payload) (written_nodes client_ns (id_node by number)) (written_end_tag client_ns (codes "message"))
    first second c.in_ok-write_id.ensures e
    ∙ ap (λ x. before ++ x) (sym (passed_in_parts default by number m some)))
    c.close_message.ensures
