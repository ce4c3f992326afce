use Rattle.std.proofs.Common.{◌≡◌, ◌++◌, ◌∙◌, ap}
use Rattle.xml_trees.proofs.Folds.{elem_view_is, elem_view_made, nodes_view_append}
use Rattle.xml_trees.proofs.elements.Element.push_nodes.Goals as goal

pub returns-clause-ok : goal.returns-clause-ok
returns-clause-ok c =
    let old = c.args.self.now.children.items in
    let is : c.append.new.self.items ≡ old ++ c.args.nodes.items = c.in_ok-append.ensures.items ∙ ap (λ l. old ++ l) c.into_items-items.ensures in
    rw (elem_view_made, is, nodes_view_append, elem_view_is c.args.self.now)
