use Rattle.std.proofs.Common.{◌≡◌, drop}
use Rattle.std.specs.List.{list_all}
use Rattle.im_mam.specs.ArchiveQuery.{is_known}
use Rattle.xml_trees.specs.Readers.{elements_of}
use Rattle.xml_trees.specs.Views.{nodes_view}
use Rattle.im_mam.proofs.archive_query.are_known.Given as goal

-- those so far are known
abbrev pub invariant-loop-node : goal.invariant-loop-node
invariant-loop-node l = list_all is_known (elements_of (nodes_view (drop l.node-index l.nodes))) ≡ list_all is_known (elements_of (nodes_view l.nodes))
