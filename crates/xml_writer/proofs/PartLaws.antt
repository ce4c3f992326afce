-- An element as it is written is its parts.
use Rattle.std.proofs.Common.{◌≡◌, ℕ, false, List, ◌++◌, refl, sym, ap, ◌∙◌, append_assoc}
use Rattle.xml_tokens.specs.Spelling.{spelled_text}
use Rattle.xml_tokens.specs.Tags.{tag_end}
use Rattle.xml_trees.specs.Attributes.{Attribute}
use Rattle.xml_trees.specs.Trees.{Nodes, no_nodes, child, text, element, joined}
use Rattle.xml_writer.specs.Canon.{after_attributes, default_inside, has_nothing, opened, written, written_end_tag, written_nodes, written_start_tag}

pub in_parts : (default ns name : List ℕ) (attrs : List Attribute) (kids : Nodes) → has_nothing kids ≡ false
    → written default (element ns name attrs kids) ≡ written_start_tag default ns name attrs ++ (written_nodes (default_inside default ns) kids ++ written_end_tag ns name)
in_parts default ns name attrs kids some =
    let inside = written_nodes (default_inside default ns) kids in
    ap (λ b. opened default ns name attrs ++ after_attributes b ns name inside) some
    ∙ sym (append_assoc (opened default ns name attrs) (tag_end false) (inside ++ written_end_tag ns name))

pub nodes_in_parts : (default : List ℕ) (front back : Nodes) → written_nodes default (joined front back) ≡ written_nodes default front ++ written_nodes default back
nodes_in_parts default no_nodes back = refl
nodes_in_parts default (child e rest) back = ap (λ l. written default e ++ l) (nodes_in_parts default rest back) ∙ sym (append_assoc (written default e) (written_nodes default rest) (written_nodes default back))
nodes_in_parts default (text t rest) back = ap (λ l. spelled_text t ++ l) (nodes_in_parts default rest back) ∙ sym (append_assoc (spelled_text t) (written_nodes default rest) (written_nodes default back))
