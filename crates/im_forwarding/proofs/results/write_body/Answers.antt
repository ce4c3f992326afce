use Rattle.std.proofs.Common.{◌≡◌, false, ◌++◌, ap, codes, length, sym, ◌∙◌}
use Rattle.std.proofs.lemmas.Result.{IfOk-weaker}
use Rattle.std.specs.Prelude.{◌==◌}
use Rattle.im_forwarding.proofs.EntryParts.{body_attrs, body_in_parts}
use Rattle.im_forwarding.proofs.PartSteps.{three_parts}
use Rattle.im_stanza.specs.Names.{client_ns}
use Rattle.xml_tokens.specs.Spelling.{spelled_text}
use Rattle.xml_trees.specs.Trees.{attributes_of, element, name_of, namespace_of, no_nodes}
use Rattle.xml_writer.specs.Canon.{written_end_tag, written_start_tag}
use Rattle.im_forwarding.proofs.results.write_body.Goals as goal

pub returns : goal.returns
returns c =
    let lang = c.args.body.now.lang in
    let said = c.args.body.now.text in
    let some : false ≡ (length said == 0) = c.if-is_empty.ensures ∙ ap (λ t. length t == 0) c.as_str-text.ensures in
    let before = c.args.out.now.items in
    let opened = c.open_element.new.out.items in
    let head = c.in_ok-head.ensures ∙ ap (λ l. element client_ns (codes "body") (body_attrs l) no_nodes) c.as_str.ensures in
    let first = c.in_ok-open_element.ensures ∙ ap (λ h. before ++ written_start_tag client_ns (namespace_of h) (name_of h) (attributes_of h)) head in
    let second = c.in_ok-append_text.ensures.ok ∙ ap (λ t. opened ++ spelled_text t) (c.as_bytes.ensures.value ∙ c.as_str-text.ensures) in
    IfOk-weaker c.write_end.result _ _
    (λ u e. three_parts before opened c.append_text.new.out.items c.write_end.new.out.items
    (written_start_tag client_ns client_ns (codes "body") (body_attrs lang)) (spelled_text said) (written_end_tag client_ns (codes "body"))
    first second e
    ∙ ap (λ x. before ++ x) (sym (body_in_parts lang said some)))
    c.write_end.ensures.ok
