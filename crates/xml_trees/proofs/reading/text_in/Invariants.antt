use Rattle.std.proofs.Common.{◌≡◌, ◌++◌, drop, string_bytes}
use Rattle.xml_trees.specs.Readers.{text_of}
use Rattle.xml_trees.specs.Views.{nodes_view}
use Rattle.xml_trees.proofs.reading.text_in.Given as goal

-- the texts so far, and those ahead
abbrev pub invariant-loop-node : goal.invariant-loop-node
invariant-loop-node l = string_bytes l.all ++ text_of (nodes_view (drop l.node-index l.nodes)) ≡ text_of (nodes_view l.nodes)
