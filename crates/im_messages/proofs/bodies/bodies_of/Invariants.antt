use Rattle.std.proofs.Common.{◌≡◌, ◌++◌, drop}
use Rattle.im_messages.specs.Bodies.{bodies_of}
use Rattle.xml_trees.specs.Views.{nodes_view}
use Rattle.im_messages.proofs.bodies.bodies_of.Given as goal

-- the bodies so far, and those ahead
abbrev pub invariant-loop-node : goal.invariant-loop-node
invariant-loop-node l = l.bodies.items ++ bodies_of (nodes_view (drop l.node-index l.payload)) ≡ bodies_of (nodes_view l.payload)
