use Rattle.std.proofs.Common.{◌≡◌, [], ◌∙◌}
use Rattle.std.specs.Vec.Iter.{into_iter_items}
use Rattle.xml_trees.proofs.Folds.{joined_assoc, node_view_child, nodes_view_push}
use Rattle.xml_trees.specs.Runs.{run_text}
use Rattle.xml_trees.specs.Tidied.{text_node, texts_joined}
use Rattle.xml_trees.specs.Trees.{joined, child, no_nodes}
use Rattle.xml_trees.specs.Views.{elem_view, node_view, nodes_view}
use Rattle.xml_trees.proofs.tidying.join_texts.Goals as goal

pub loop-node-preserved : goal.loop-node-preserved
loop-node-preserved c =
    let at = c.loop-node in
    let rest = nodes_view (into_iter_items c.next.new.self) in
    let element = elem_view c.in-Child.element in
    let node : node_view c.in-Some.node ≡ child element no_nodes = rw c.in-Child.is (node_view_child c.in-Child.element) in
    let was = rw (c.in-Some.ensures.steps.0, node) at at.invariant.moved in
    record {
      moved =
          rw (c.in_ok-push-in-Child.ensures.items, nodes_view_push, node_view_child, c.in_ok-put_run-in-Child.ensures)
          (joined_assoc (joined (nodes_view at.kept.items) (text_node (run_text at.run))) (child element no_nodes) (texts_joined [] rest)
          ∙ joined_assoc (nodes_view at.kept.items) (text_node (run_text at.run)) (child element (texts_joined [] rest)) ∙ was);
      full = tt;
    }
