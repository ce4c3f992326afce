use Rattle.std.proofs.Common.{◌≡◌, drop}
use Rattle.xml_trees.specs.Readers.{elements_of}
use Rattle.xml_trees.specs.Views.{nodes_view}
use Rattle.xml_trees.proofs.reading.next_element.Given as goal

-- the elements lie ahead
abbrev pub invariant-loop-i : goal.invariant-loop-i
invariant-loop-i l = elements_of (nodes_view (drop l.i l.nodes)) ≡ elements_of (nodes_view l.nodes)
