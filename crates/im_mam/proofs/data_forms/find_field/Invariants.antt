use Rattle.std.proofs.Common.{◌≡◌, drop, find}
use Rattle.im_mam.specs.DataForms.{is_field_of}
use Rattle.xml_trees.specs.Readers.{elements_of}
use Rattle.xml_trees.specs.Views.{nodes_view}
use Rattle.im_mam.proofs.data_forms.find_field.Given as goal

-- what is found lies ahead
abbrev pub invariant-loop-node : goal.invariant-loop-node
invariant-loop-node l = find (is_field_of l.name) (elements_of (nodes_view (drop l.node-index l.nodes))) ≡ find (is_field_of l.name) (elements_of (nodes_view l.nodes))
