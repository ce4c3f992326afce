-- What an archive answers to a query: its entries one by one, and the end of a page (XEP-0313, sections 4.2 and 4.3).
use Rattle.std.specs.Prelude.{ℕ, Bool, true, false, List, [], ◌∷◌, Some, None, codes, if◌then◌else◌}
use Rattle.mam_archive.specs.Entries.{EntryView}
use Rattle.mam_archive.specs.Ids.{id_of}
use Rattle.mam_archive.specs.declared.entry.Body.{Body}
use Rattle.im_extensions.specs.Forwarding.{forwarded_elem}
use Rattle.im_extensions.specs.Ids.{origin_id_elem}
use Rattle.im_forwarding.specs.declared.results.Asker.{Asker}
use Rattle.im_mam.specs.ArchiveAnswers.{fin_elem, fin_elem_without_index, result_elem}
use Rattle.mam_pages.specs.Cuts.{CutView, fin_of}
use Rattle.im_replies.specs.Requests.{EnvelopeView, result_item}
use Rattle.im_stamp.specs.Dates.{stamp_at}
use Rattle.im_stanza.specs.Names.{client_ns, xml_ns}
use Rattle.im_stanza.specs.Views.{MessageView}
use Rattle.im_stanza.specs.Written.{attr_where, attrs_written, message_elem, unless_empty}
use Rattle.im_stanza.specs.declared.kinds.MessageKind.{MessageKind}
use Rattle.im_stanza.specs.declared.kinds.MessageKind.TheVariants.{Chat, Normal}
use Rattle.xml_trees.specs.Tidied.{text_node}
use Rattle.xml_trees.specs.Trees.{Elem, element, Nodes, no_nodes, child}
use Rattle.xml_writer.specs.Items.{ItemOut, Whole, written_item}

-- ---- an archived message

-- an archive tells messages of type `normal` from those of type `chat`
abbrev pub archived_kind : Bool → MessageKind
archived_kind true = Normal
archived_kind false = Chat

abbrev pub body_elem : Body → Elem
body_elem b = element client_ns (codes "body") (attr_where xml_ns (codes "lang") (unless_empty b.lang)) (text_node b.text)

abbrev pub origin_node : List ℕ → Nodes
origin_node [] = no_nodes
origin_node (c ∷ cs) = child (origin_id_elem (record { id = c ∷ cs })) no_nodes

-- the bodies, and then the sender's own id, where it gave one
abbrev pub entry_nodes : List Body → List ℕ → Nodes
entry_nodes [] origin = origin_node origin
entry_nodes (b ∷ bs) origin = child (body_elem b) (entry_nodes bs origin)

-- the message of an entry: what the archive kept of it
abbrev pub archived_message : EntryView → MessageView
archived_message e = record {
  from = unless_empty e.from;
  to = unless_empty e.to;
  id = e.id;
  kind = archived_kind e.normal;
  lang = [];
  payload = entry_nodes e.bodies e.origin;
}

abbrev pub archived_elem : EntryView → Elem
archived_elem e = message_elem (archived_message e)

-- ---- one result (XEP-0313, section 4.2)

-- who asked: the archive's account by its bare address, the session by its full one, and the id of the query, which is
-- empty where it has none
pub record AskerView : Type 0 where
  pub by : List ℕ
  pub full : List ℕ
  pub queryid : List ℕ

abbrev pub asker_view : Asker → AskerView
asker_view a = record { by = a.by.now; full = a.full.now; queryid = a.queryid.now }

abbrev pub archived_result : List ℕ → EntryView → Elem
archived_result queryid e = result_elem queryid (id_of e.number) (forwarded_elem (stamp_at e.stamp) (archived_elem e))

-- a message without a type, from the account whose archive it is
abbrev pub entry_elem : AskerView → EntryView → Elem
entry_elem a e = element client_ns (codes "message") (attrs_written (Some a.by) None (Some a.full) None None) (child (archived_result a.queryid e) no_nodes)

abbrev pub entry_item : AskerView → EntryView → ItemOut
entry_item a e = Whole (entry_elem a e)

abbrev pub entry_text : AskerView → EntryView → List ℕ
entry_text a e = written_item (entry_item a e)

-- ---- the end of a page (XEP-0313, section 4.3; XEP-0059, section 2.6)

-- The place of the first entry isn't told where the page was asked for backwards: it need not be, and a widely used client
-- ends its walk backwards where this place and the page's results add up to `count`.
abbrev pub end_elem : CutView → Elem
end_elem cut = if cut.backward then fin_elem_without_index (fin_of cut) else fin_elem (fin_of cut)

abbrev pub fin_item : EnvelopeView → CutView → ItemOut
fin_item a cut = result_item a (child (end_elem cut) no_nodes)

abbrev pub fin_text : EnvelopeView → CutView → List ℕ
fin_text a cut = written_item (fin_item a cut)
