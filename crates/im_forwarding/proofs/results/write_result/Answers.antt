use Rattle.std.proofs.Common.{[], ◌∷◌, ◌++◌, ap, codes, sym, ◌∙◌}
use Rattle.std.proofs.lemmas.Result.{IfOk-weaker}
use Rattle.mam_archive.specs.Entries.{entry_with}
use Rattle.mam_archive.specs.Ids.{id_of}
use Rattle.im_extensions.specs.Forwarding.{delay_elem}
use Rattle.im_forwarding.proofs.PartSteps.{five_parts, result_in_parts}
use Rattle.im_forwarding.specs.Results.{archived_elem, archived_result}
use Rattle.im_payload.specs.Names.{archive, forwarding}
use Rattle.im_stamp.specs.Dates.{stamp_at}
use Rattle.im_stanza.specs.Names.{client_ns}
use Rattle.im_stanza.specs.Written.{attr_where, unless_empty}
use Rattle.xml_trees.specs.Attributes.{attribute}
use Rattle.xml_trees.specs.Trees.{attributes_of, element, name_of, namespace_of, no_nodes}
use Rattle.xml_writer.specs.Canon.{written, written_end_tag, written_start_tag}
use Rattle.im_forwarding.proofs.results.write_result.Goals as goal

pub returns : goal.returns
returns c =
    let queryid = c.args.queryid.now in
    let number = c.args.entry.now.number in
    let m = c.message-message.result.now in
    let attrs = attribute [] (codes "id") (id_of number) ∷ attr_where [] (codes "queryid") (unless_empty queryid) in
    let inside = archived_elem (entry_with 0 m) in
    let before = c.args.out.now.items in
    let head = c.in_ok-head.ensures ∙ ap (λ n. element archive (codes "result") (attribute [] (codes "id") (id_of n) ∷ attr_where [] (codes "queryid") (unless_empty queryid)) no_nodes) c.number.ensures in
    let first = c.in_ok-open_element.ensures ∙ ap (λ h. before ++ written_start_tag client_ns (namespace_of h) (name_of h) (attributes_of h)) head in
    IfOk-weaker c.write_end.result _ _
    (λ u e. five_parts before c.open_element.new.out.items c.open_forwarded.new.out.items c.write_archived.new.out.items c.close_forwarded.new.out.items c.write_end.new.out.items
    (written_start_tag client_ns archive (codes "result") attrs)
    (written_start_tag archive forwarding (codes "forwarded") [] ++ written forwarding (delay_elem (stamp_at m.stamp)))
    (written forwarding inside) (written_end_tag forwarding (codes "forwarded")) (written_end_tag archive (codes "result"))
    first c.in_ok-open_forwarded.ensures c.in_ok-write_archived.ensures c.in_ok-close_forwarded.ensures e
    ∙ ap (λ x. before ++ x) (sym (result_in_parts (stamp_at m.stamp) attrs inside) ∙ ap (λ x. written client_ns (archived_result queryid x)) (sym c.message-message.ensures)))
    c.write_end.ensures.ok
