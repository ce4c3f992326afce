use Rattle.std.proofs.Common.{◌≡◌, drop}
use Rattle.cl_handlers.specs.MessageRows.{own_id}
use Rattle.xml_trees.specs.Readers.{elements_of}
use Rattle.xml_trees.specs.Views.{nodes_view}
use Rattle.cl_handlers.proofs.messages.own_id.Given as goal

-- it lies ahead
abbrev pub invariant-loop-node : goal.invariant-loop-node
invariant-loop-node l = own_id l.bare (elements_of (nodes_view (drop l.node-index l.nodes))) ≡ own_id l.bare (elements_of (nodes_view l.nodes))
