use Rattle.std.proofs.Common.{◌≡◌, drop}
use Rattle.im_forwarding.specs.Parts.{says_nothing}
use Rattle.im_messages.specs.Ids.{without_ids}
use Rattle.xml_trees.specs.Views.{nodes_view}
use Rattle.im_forwarding.proofs.passing.says_nothing.Given as goal

-- what is ahead decides
abbrev pub invariant-loop-node : goal.invariant-loop-node
invariant-loop-node l = says_nothing (without_ids l.by (nodes_view (drop l.node-index l.nodes))) ≡ says_nothing (without_ids l.by (nodes_view l.nodes))
