use Rattle.std.proofs.Common.{◌≡◌, drop, find}
use Rattle.im_extensions.specs.Carbons.{is_carbon}
use Rattle.xml_trees.specs.Readers.{elements_of}
use Rattle.xml_trees.specs.Views.{nodes_view}
use Rattle.cl_handlers.proofs.messages.find_carbon.Given as goal

-- it lies ahead
abbrev pub invariant-loop-node : goal.invariant-loop-node
invariant-loop-node l = find is_carbon (elements_of (nodes_view (drop l.node-index l.nodes))) ≡ find is_carbon (elements_of (nodes_view l.nodes))
