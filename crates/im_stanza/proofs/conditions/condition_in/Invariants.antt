use Rattle.std.proofs.Common.{◌≡◌, drop}
use Rattle.xml_trees.specs.Views.{nodes_view}
use Rattle.im_stanza.specs.Conditions.{condition_in}
use Rattle.im_stanza.proofs.conditions.condition_in.Given as goal

-- what is found lies ahead
abbrev pub invariant-loop-node : goal.invariant-loop-node
invariant-loop-node l = condition_in l.ns (nodes_view (drop l.node-index l.nodes)) ≡ condition_in l.ns (nodes_view l.nodes)
