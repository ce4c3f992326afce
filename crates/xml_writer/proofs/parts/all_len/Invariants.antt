use Rattle.std.proofs.Common.{◌≡◌, ◌+◌, ◌-◌, ◌^◌, ◌≤◌, drop, length, min}
use Rattle.xml_writer.specs.Canon.{written_nodes}
use Rattle.xml_trees.specs.Views.{nodes_view}
use Rattle.xml_writer.proofs.parts.all_len.Given as goal

-- the length so far and that of what is left are the whole
abbrev pub invariant-loop-node : goal.invariant-loop-node
invariant-loop-node l = record {
  len : min (l.len + length (written_nodes l.default (nodes_view (drop l.node-index l.nodes)))) (2 ^ 64 - 1) ≡ min (length (written_nodes l.default (nodes_view l.nodes))) (2 ^ 64 - 1);
  most : l.len ≤ 2 ^ 64 - 1;
}
