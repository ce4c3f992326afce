use Rattle.std.proofs.Common.{◌≡◌, [], true, false, ◌++◌, ap, codes, sym, ◌∙◌}
use Rattle.std.proofs.lemmas.Result.{IfOk-weaker}
use Rattle.mam_archive.specs.Entries.{entry_with}
use Rattle.im_forwarding.proofs.EntryParts.{entry_in_parts, nothing_archived}
use Rattle.im_forwarding.proofs.KeptNodes.{attrs_of}
use Rattle.im_forwarding.proofs.PartSteps.{four_parts}
use Rattle.im_forwarding.specs.Results.{archived_message, entry_nodes, origin_node}
use Rattle.im_stanza.specs.Names.{client_ns}
use Rattle.xml_trees.specs.Trees.{attributes_of, name_of, namespace_of}
use Rattle.xml_writer.specs.Canon.{has_nothing, written, written_end_tag, written_nodes, written_start_tag}
use Rattle.im_forwarding.proofs.results.write_archived.Goals as goal

pub returns-then-has_nothing : goal.returns-then-has_nothing
returns-then-has_nothing c =
    let m = c.args.message.now in
    let none : has_nothing (entry_nodes m.bodies.items m.origin) ≡ true =
    sym (c.if-has_nothing.ensures ∙ ap (λ bs. has_nothing (entry_nodes bs c.as_str-origin.result.now)) c.as_slice-bodies.ensures ∙ ap (λ o. has_nothing (entry_nodes m.bodies.items o)) c.as_str-origin.ensures) in
    IfOk-weaker c.write_element.result _ _
    (λ u e. e ∙ ap (λ x. c.args.out.now.items ++ written c.args.default.now x) (c.in_ok-head.ensures ∙ sym (nothing_archived (entry_with 0 m) none)))
    c.write_element.ensures

pub returns : goal.returns
returns c =
    let default = c.args.default.now in
    let m = c.args.message.now in
    let bodies = m.bodies.items in
    let origin = m.origin in
    let attrs = attrs_of (archived_message (entry_with 0 m)) in
    let some : has_nothing (entry_nodes bodies origin) ≡ false =
    sym (c.if-has_nothing.ensures ∙ ap (λ bs. has_nothing (entry_nodes bs c.as_str-origin.result.now)) c.as_slice-bodies.ensures ∙ ap (λ o. has_nothing (entry_nodes bodies o)) c.as_str-origin.ensures) in
    let before = c.args.out.now.items in
    let opened = c.open_element.new.out.items in
    let spoken = c.write_bodies.new.out.items in
    let first = c.in_ok-open_element.ensures ∙ ap (λ h. before ++ written_start_tag default (namespace_of h) (name_of h) (attributes_of h)) c.in_ok-head.ensures in
    let second = c.in_ok-write_bodies.ensures ∙ ap (λ bs. opened ++ written_nodes client_ns (entry_nodes bs [])) c.as_slice-bodies.ensures in
    let third = c.in_ok-write_origin.ensures ∙ ap (λ o. spoken ++ written_nodes client_ns (origin_node o)) c.as_str-origin.ensures in
    IfOk-weaker c.close_message.result _ _
    (λ u e. four_parts before opened spoken c.write_origin.new.out.items c.close_message.new.out.items
    (written_start_tag default client_ns (codes "message") attrs) (written_nodes client_ns (entry_nodes bodies [])) (written_nodes client_ns (origin_node origin)) (written_end_tag client_ns (codes "message"))
    first second third e
    ∙ ap (λ x. before ++ x) (sym (entry_in_parts default attrs bodies origin some)))
    c.close_message.ensures
