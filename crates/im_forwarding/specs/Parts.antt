-- What the private code writes by: what is kept of a payload, as it is written in a message.
use Rattle.std.specs.Prelude.{ℕ, ◌==◌, Bool, true, false, ◌&&◌, List, length}
use Rattle.im_messages.specs.Ids.{without_ids}
use Rattle.im_stanza.specs.Names.{client_ns}
use Rattle.xml_trees.specs.Trees.{Nodes, no_nodes, child, text}
use Rattle.xml_writer.specs.Canon.{written_nodes}

-- nothing is written of nodes: they are empty texts
abbrev pub says_nothing : Nodes → Bool
says_nothing no_nodes = true
says_nothing (child e rest) = false
says_nothing (text t rest) = (length t == 0) && says_nothing rest

-- what is written of the nodes that are no ids by an address
abbrev pub kept_text : List ℕ → Nodes → List ℕ
kept_text by payload = written_nodes client_ns (without_ids by payload)
