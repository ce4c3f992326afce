use Rattle.std.proofs.Common.{◌≡◌, ◌≤◌, ◌++◌, drop, length}
use Rattle.xml_writer.specs.Canon.{written_nodes}
use Rattle.xml_trees.specs.Views.{nodes_view}
use Rattle.xml_writer.proofs.parts.put_all.Given as goal

-- what was put and what is left are the whole
abbrev pub invariant-loop-node : goal.invariant-loop-node
invariant-loop-node l = record {
  items : l.out.items ++ written_nodes l.default (nodes_view (drop l.node-index l.nodes)) ≡ l.fn.out.items ++ written_nodes l.default (nodes_view l.nodes);
  room : length (written_nodes l.default (nodes_view (drop l.node-index l.nodes))) ≤ l.out.spare;
}
