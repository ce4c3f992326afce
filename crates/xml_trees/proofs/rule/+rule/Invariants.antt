use Rattle.std.proofs.Common.{drop}
use Rattle.std.specs.Prelude.{◌↔◌}
use Rattle.xml_trees.specs.Trees.{AreTidy, AreTidyAfter}
use Rattle.xml_trees.specs.Views.{nodes_view}
use Rattle.xml_trees.proofs.rule.+rule.Given as goal

-- those ahead are tidy just where all are
abbrev pub invariant-are_tidy-loop-node : goal.invariant-are_tidy-loop-node
invariant-are_tidy-loop-node l = AreTidyAfter l.after_text (nodes_view (drop l.node-index l.node-items)) ↔ AreTidy (nodes_view l.node-items)
