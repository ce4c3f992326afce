use Rattle.std.proofs.Common.{◌≡◌, ◌+◌, ◌≤◌, ◌++◌, drop, length}
use Rattle.xml_writer.specs.Canon.{written_nodes}
use Rattle.xml_trees.specs.Views.{nodes_view}
use Rattle.xml_writer.proofs.writing.+put.Given as goal

-- what was put and what is left are the whole
abbrev pub invariant-put_nodes-loop-node : goal.invariant-put_nodes-loop-node
invariant-put_nodes-loop-node l = record {
  items : l.out.items ++ written_nodes l.default (nodes_view (drop l.node-index l.node-items)) ≡ l.initial.out.items ++ written_nodes l.default (nodes_view l.node-items);
  spare : l.initial.out.spare + length (written_nodes l.default (nodes_view (drop l.node-index l.node-items))) ≤ l.out.spare + length (written_nodes l.default (nodes_view l.node-items));
  room : length (written_nodes l.default (nodes_view (drop l.node-index l.node-items))) ≤ l.out.spare;
}
