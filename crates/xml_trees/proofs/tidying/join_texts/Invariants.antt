use Rattle.std.proofs.Common.{◌≡◌, []}
use Rattle.std.specs.Vec.Iter.{into_iter_items}
use Rattle.xml_trees.specs.Runs.{HasNoEmptyText, run_text}
use Rattle.xml_trees.specs.Tidied.{texts_joined}
use Rattle.xml_trees.specs.Trees.{joined}
use Rattle.xml_trees.specs.Views.{nodes_view}
use Rattle.xml_trees.proofs.tidying.join_texts.Given as goal

-- what is kept, the text in hand, and what is left
abbrev pub invariant-loop-node : goal.invariant-loop-node
invariant-loop-node l = record {
  moved : joined (nodes_view l.kept.items) (texts_joined (run_text l.run) (nodes_view (into_iter_items l.node-iterator))) ≡ texts_joined [] (nodes_view (into_iter_items l.initial.node-iterator));
  full : HasNoEmptyText l.run;
}
