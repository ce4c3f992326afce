use Rattle.std.proofs.Common.{sym, ap}
use Rattle.xml_trees.proofs.Folds.{joined_none, node_view_text, nodes_view_push}
use Rattle.xml_trees.proofs.TidyLaws.{text_node_some}
use Rattle.xml_trees.specs.Trees.{joined}
use Rattle.xml_trees.specs.Views.{nodes_view}
use Rattle.xml_trees.proofs.tidying.put_run.Goals as goal

pub returns-in_ok-push-in-Some : goal.returns-in_ok-push-in-Some
returns-in_ok-push-in-Some c =
    let is = c.in-Some.ensures in
    rw (c.in_ok-push-in-Some.ensures.items, nodes_view_push, node_view_text, ← is.0) (ap (joined (nodes_view c.args.kept.now.items)) (sym (text_node_some c.in-Some.text is.1)))

pub returns-in-None : goal.returns-in-None
returns-in-None c = rw c.in-None.ensures (sym (joined_none (nodes_view c.args.kept.now.items)))
