-- What a client says to have a session (RFC 6120, section 7; XEP-0198, sections 3 and 5), and at its beginning (XEP-0280,
-- section 4; RFC 6121, section 4.2).
use Rattle.std.specs.Prelude.{ℕ, true, List, [], None, codes, pos}
use Rattle.im_extensions.specs.Bind.{bind_request_elem}
use Rattle.im_extensions.specs.Requests.{carbons_switch_elem}
use Rattle.im_extensions.specs.StreamManagement.{enable_elem, resume_elem}
use Rattle.im_stanza.specs.Written.{iq_elem, presence_elem}
use Rattle.im_stanza.specs.declared.kinds.IqKind.TheVariants.{Set}
use Rattle.im_stanza.specs.declared.kinds.PresenceKind.TheVariants.{Available}
use Rattle.xml_trees.specs.Trees.{Elem, Nodes, no_nodes, child}
use Rattle.xml_writer.specs.Items.{ItemOut, Whole, written_item}

-- something is to be set, which the server hears of by one element (RFC 6120, section 8.2.3)
abbrev pub setting_elem : List ℕ → Nodes → Elem
setting_elem id payload = iq_elem (record { from = None; to = None; id = id; kind = Set; payload = payload })

abbrev pub setting_item : List ℕ → Elem → ItemOut
setting_item id payload = Whole (setting_elem id (child payload no_nodes))

-- a resource is bound (RFC 6120, section 7.7.1); an empty one leaves the choice to the server
abbrev pub bind_item : List ℕ → ItemOut
bind_item resource = setting_item (codes "bind") (bind_request_elem (record { resource = resource }))

abbrev pub bind_text : List ℕ → List ℕ
bind_text resource = written_item (bind_item resource)

-- stanzas are acknowledged from now on, and the session can be resumed (XEP-0198, section 3)
abbrev pub enable_item : ItemOut
enable_item = Whole (enable_elem (record { resume = true }))

abbrev pub enable_text : List ℕ
enable_text = written_item enable_item

-- a session goes on, of which so many of the server's stanzas were handled (XEP-0198, section 5)
abbrev pub resume_item : List ℕ → ℕ → ItemOut
resume_item previd h = Whole (resume_elem (record { previd = previd; h = h }))

abbrev pub resume_text : List ℕ → ℕ → List ℕ
resume_text previd h = written_item (resume_item previd h)

-- copies of messages are wanted (XEP-0280, section 4)
abbrev pub carbons_item : ItemOut
carbons_item = setting_item (codes "carbons") (carbons_switch_elem (record { on = true }))

abbrev pub carbons_text : List ℕ
carbons_text = written_item carbons_item

-- the client is available (RFC 6121, section 4.2)
abbrev pub available_item : ItemOut
available_item = Whole (presence_elem (record { from = None; to = None; id = []; kind = Available; priority = pos 0 }))

abbrev pub available_text : List ℕ
available_text = written_item available_item
