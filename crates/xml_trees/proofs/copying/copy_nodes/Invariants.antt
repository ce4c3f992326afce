use Rattle.std.proofs.Common.{◌≡◌, take, map}
use Rattle.xml_trees.specs.Views.{node_view}
use Rattle.xml_trees.proofs.copying.copy_nodes.Given as goal

-- what was copied so far
abbrev pub invariant-loop-node : goal.invariant-loop-node
invariant-loop-node l = map node_view l.copies.items ≡ map node_view (take l.node-index l.nodes)
