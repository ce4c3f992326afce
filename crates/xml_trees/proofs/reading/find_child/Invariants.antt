use Rattle.std.proofs.Common.{◌≡◌, drop}
use Rattle.xml_trees.specs.Readers.{first_named}
use Rattle.xml_trees.specs.Views.{nodes_view}
use Rattle.xml_trees.proofs.reading.find_child.Given as goal

-- what is found lies ahead
abbrev pub invariant-loop-node : goal.invariant-loop-node
invariant-loop-node l = first_named l.ns l.name (nodes_view (drop l.node-index l.nodes)) ≡ first_named l.ns l.name (nodes_view l.nodes)
