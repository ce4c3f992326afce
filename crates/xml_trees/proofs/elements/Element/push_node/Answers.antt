use Rattle.xml_trees.proofs.Folds.{elem_view_is, elem_view_made, nodes_view_push}
use Rattle.xml_trees.proofs.elements.Element.push_node.Goals as goal

pub returns-clause-ok : goal.returns-clause-ok
returns-clause-ok c =
    let is = c.in_ok-push_to.ensures.ok in
    rw (elem_view_made, is, nodes_view_push, elem_view_is c.args.self.now)
