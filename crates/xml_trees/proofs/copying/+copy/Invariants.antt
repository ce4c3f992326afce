use Rattle.std.proofs.Common.{◌≡◌, take, map}
use Rattle.xml_trees.specs.Views.{node_view}
use Rattle.xml_trees.proofs.copying.+copy.Given as goal

-- what was copied so far
abbrev pub invariant-copied_children-loop-node : goal.invariant-copied_children-loop-node
invariant-copied_children-loop-node l = map node_view l.copies.items ≡ map node_view (take l.node-index l.node-items)
