-- What a client submits (RFC 6121, section 5.2; XEP-0359, section 3.2; XEP-0280, section 6) and what it asks of its archive
-- (XEP-0313, section 4; XEP-0059, section 2).
use Rattle.std.specs.Prelude.{ℕ, Bool, true, false, List, [], ◌++◌, Option, Some, None, codes}
use Rattle.std.specs.Fmt.{decimal}
use Rattle.im_extensions.specs.Ids.{origin_id_elem}
use Rattle.im_mam.specs.ArchiveQuery.{form_elem, limit_elem, query_elem}
use Rattle.mam_pages.specs.declared.query.PagePosition.{PagePosition}
use Rattle.mam_pages.specs.declared.query.PagePosition.TheVariants.{First, After}
use Rattle.im_payload.specs.Bare.{bare}
use Rattle.im_payload.specs.Names.{carbons}
use Rattle.im_requests.specs.Sessions.{setting_item}
use Rattle.im_stanza.specs.Names.{client_ns}
use Rattle.im_stanza.specs.Written.{message_elem}
use Rattle.im_stanza.specs.declared.kinds.MessageKind.TheVariants.{Chat}
use Rattle.xml_trees.specs.Tidied.{text_node}
use Rattle.xml_trees.specs.Trees.{Elem, element, Nodes, no_nodes, child}
use Rattle.xml_writer.specs.Items.{ItemOut, Whole, written_item}

-- ---- submissions

abbrev pub body_elem : List ℕ → Elem
body_elem text = element client_ns (codes "body") [] (text_node text)

-- one that no other client of the sender or of the recipient gets a copy of
abbrev pub private_nodes : Bool → Nodes
private_nodes true = child (bare carbons (codes "private")) no_nodes
private_nodes false = no_nodes

abbrev pub submission_nodes : List ℕ → List ℕ → Bool → Nodes
submission_nodes id text private = child (body_elem text) (child (origin_id_elem (record { id = id })) (private_nodes private))

abbrev pub chat_elem : List ℕ → List ℕ → Nodes → Elem
chat_elem id to payload = message_elem (record { from = None; to = Some to; id = id; kind = Chat; lang = []; payload = payload })

abbrev pub submission_item : List ℕ → List ℕ → List ℕ → Bool → ItemOut
submission_item id to text private = Whole (chat_elem id to (submission_nodes id text private))

abbrev pub submission_text : List ℕ → List ℕ → List ℕ → Bool → List ℕ
submission_text id to text private = written_item (submission_item id to text private)

-- ---- page requests

-- the id of a query, by its number
abbrev pub queryid_text : ℕ → List ℕ
queryid_text number = codes "q" ++ decimal number

abbrev pub position_after : Option (List ℕ) → PagePosition
position_after None = First
position_after (Some id) = After id

abbrev pub page_elem : List ℕ → Option (List ℕ) → ℕ → Elem
page_elem queryid after max = query_elem queryid (form_elem None None None) (limit_elem (position_after after) (Some max))

-- the page behind the entry of an id, or the first page, of so many results at most
abbrev pub page_item : List ℕ → Option (List ℕ) → ℕ → ItemOut
page_item queryid after max = setting_item queryid (page_elem queryid after max)

abbrev pub page_text : List ℕ → Option (List ℕ) → ℕ → List ℕ
page_text queryid after max = written_item (page_item queryid after max)
