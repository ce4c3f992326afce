use Rattle.std.proofs.Common.{◌≡◌, drop}
use Rattle.std.specs.List.{list_any}
use Rattle.im_login.specs.Features.{is_scram}
use Rattle.xml_trees.specs.Readers.{elements_of}
use Rattle.xml_trees.specs.Views.{nodes_view}
use Rattle.im_login.proofs.features.has_scram.Given as goal

-- it lies ahead
abbrev pub invariant-loop-node : goal.invariant-loop-node
invariant-loop-node l = list_any is_scram (elements_of (nodes_view (drop l.node-index l.nodes))) ≡ list_any is_scram (elements_of (nodes_view l.nodes))
