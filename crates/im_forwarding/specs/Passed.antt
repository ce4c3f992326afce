-- A message as a server passes it on (RFC 6120, section 8.1.2.1; RFC 6121, section 8; XEP-0359, sections 3 and 5).
use Rattle.std.specs.Prelude.{ℕ, List, [], Option, Some, None}
use Rattle.mam_archive.specs.Ids.{id_of}
use Rattle.im_extensions.specs.Ids.{stanza_id_elem}
use Rattle.im_forwarding.specs.declared.passing.Addressed.{Addressed}
use Rattle.im_messages.specs.Ids.{without_ids}
use Rattle.im_stanza.specs.Views.{MessageView}
use Rattle.im_stanza.specs.Written.{message_elem}
use Rattle.xml_trees.specs.Tidied.{texts_joined}
use Rattle.xml_trees.specs.Trees.{Elem, Nodes, no_nodes, child, joined}
use Rattle.xml_writer.specs.Items.{ItemOut, Whole, written_item}

-- from the address of the session that sent it, and to the address that counts, whatever it came with
abbrev pub addressed : List ℕ → List ℕ → MessageView → MessageView
addressed from to m = record m { from = Some from; to = Some to }

-- the same of what the code is given
abbrev pub addressed_view : Addressed → MessageView
addressed_view a = addressed a.from.now a.to.now a.message.now

-- the id under which the archive of an account has the message, where it has it; the account is named by its bare address
abbrev pub id_node : List ℕ → Option ℕ → Nodes
id_node by None = no_nodes
id_node by (Some number) = child (stanza_id_elem (record { id = id_of number; by = by })) no_nodes

-- What the message contains for the sessions of an account: no id that somebody else gave in the account's name, and the
-- id of its archive after all else. A text before an id that is left out and one after it are one text.
abbrev pub passed_nodes : List ℕ → Option ℕ → Nodes → Nodes
passed_nodes by number payload = joined (texts_joined [] (without_ids by payload)) (id_node by number)

-- the message for the sessions of an account
abbrev pub passed_message : List ℕ → Option ℕ → MessageView → MessageView
passed_message by number m = record m { payload = passed_nodes by number m.payload }

abbrev pub passed_elem : List ℕ → Option ℕ → MessageView → Elem
passed_elem by number m = message_elem (passed_message by number m)

abbrev pub passed_item : List ℕ → Option ℕ → MessageView → ItemOut
passed_item by number m = Whole (passed_elem by number m)

abbrev pub passed_text : List ℕ → Option ℕ → MessageView → List ℕ
passed_text by number m = written_item (passed_item by number m)
