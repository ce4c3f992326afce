use Rattle.std.proofs.Common.{◌≡◌, ◌+◌, ◌-◌, ◌^◌, ◌≤◌, drop, min}
use Rattle.xml_writer.specs.Weight.{nodes_weight}
use Rattle.xml_trees.specs.Views.{nodes_view}
use Rattle.xml_writer.proofs.weights.+weight.Given as goal

-- the weight so far and that of what is left are the whole
abbrev pub invariant-nodes_weight-loop-node : goal.invariant-nodes_weight-loop-node
invariant-nodes_weight-loop-node l = record {
  all : min (l.all + nodes_weight (nodes_view (drop l.node-index l.node-items))) (2 ^ 64 - 1) ≡ min (nodes_weight (nodes_view l.node-items)) (2 ^ 64 - 1);
  most : l.all ≤ 2 ^ 64 - 1;
}
