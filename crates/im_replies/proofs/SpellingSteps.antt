-- One element among nodes is written as it is alone.
use Rattle.std.proofs.Common.{◌≡◌, append-nil}
use Rattle.xml_trees.specs.Trees.{Elem, no_nodes, child}
use Rattle.xml_writer.specs.Canon.{canon, client_namespace, written_nodes}

pub one_written : (e : Elem) → written_nodes client_namespace (child e no_nodes) ≡ canon e
one_written e = append-nil (canon e)
