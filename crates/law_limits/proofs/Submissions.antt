-- A message that a client submits.
use Rattle.std.proofs.Common.{ℕ, Bool, true, false, List, [], ◌∷◌, Some, None, codes, refl, arith}
use Rattle.im_extensions.specs.Ids.{origin_id_elem}
use Rattle.im_payload.specs.Bare.{bare}
use Rattle.im_payload.specs.Names.{carbons, stanza_ids}
use Rattle.im_stanza.proofs.WrittenAttrs.{attrs_stay}
use Rattle.im_stanza.specs.Kinds.{message_type}
use Rattle.im_stanza.specs.Names.{client_ns}
use Rattle.im_stanza.specs.Written.{message_elem, unless_empty}
use Rattle.im_stanza.specs.declared.kinds.MessageKind.TheVariants.{Chat}
use Rattle.xml_trees.specs.Attributes.{attribute}
use Rattle.xml_trees.specs.Tidied.{text_node}
use Rattle.xml_trees.specs.Trees.{Nodes, child, element, no_nodes}
use Rattle.law_limits.specs.Bounds.{IsTextWithin, most_address, most_text}
use Rattle.law_limits.proofs.RequestParts.{AreSmall, IsSmall, bare_small, child_small, element_small, fewer, none_small, one_attribute, only_child, text_small, wider, wider_nodes}
use Rattle.law_limits.proofs.Stanzas.{stanza_attributes}
use Rattle.law_limits.proofs.Texts.{literal, unless_empty_within}

abbrev private_nodes : Bool → Nodes
private_nodes true = child (bare carbons (codes "private")) no_nodes
private_nodes false = no_nodes

private_small : (private : Bool) → AreSmall (private_nodes private) 300 1
private_small true = wider_nodes _ _ _ _ _ (omega arith) (omega arith) (only_child (bare carbons (codes "private")) _ 1 (bare_small carbons (codes "private") no_nodes 0 0 refl (none_small 0)))
private_small false = wider_nodes _ _ _ _ _ (omega arith) (omega arith) (none_small 1)

-- ---- what it has in it

body_small : (text : List ℕ) → IsTextWithin most_text text → IsSmall (element client_ns (codes "body") [] (text_node text)) 30200 1
body_small text h = wider _ _ _ _ _ (omega arith) (omega arith) (bare_small client_ns (codes "body") (text_node text) _ 0 refl (text_small text most_text h))

-- an id is a part of an address, and two numbers of 64 bits with dots
abbrev pub most_origin : ℕ
most_origin = 1065

origin_small : (id : List ℕ) → IsTextWithin most_origin id → IsSmall (origin_id_elem (record { id = id })) 6600 1
origin_small id h =
    wider _ _ _ _ _ (omega arith) (omega arith)
    (element_small stanza_ids (codes "origin-id") (attribute [] (codes "id") id ∷ []) no_nodes 6400 0 0 refl refl
    (fewer _ _ 6400 _ 16 (omega arith) (omega arith) (one_attribute [] (codes "id") id most_origin refl h)) (none_small 0))

nodes_small : (id text : List ℕ) (private : Bool) → IsTextWithin most_origin id → IsTextWithin most_text text
    → AreSmall (child (element client_ns (codes "body") [] (text_node text)) (child (origin_id_elem (record { id = id })) (private_nodes private))) 37100 1
nodes_small id text private id_short text_short =
    wider_nodes _ _ _ _ _ (omega arith) (omega arith)
    (child_small _ _ 30200 _ 1 (body_small text text_short) (child_small _ _ 6600 300 1 (origin_small id id_short) (private_small private)))

pub submission_small : (id to text : List ℕ) (private : Bool) → IsTextWithin most_origin id → IsTextWithin most_address to → IsTextWithin most_text text
    → IsSmall (message_elem (record { from = None; to = Some to; id = id; kind = Chat; lang = []; payload = child (element client_ns (codes "body") [] (text_node text)) (child (origin_id_elem (record { id = id })) (private_nodes private)) })) 65536 32
submission_small id to text private id_short to_short text_short =
    wider _ _ _ _ _ (omega arith) (omega arith)
    (element_small client_ns (codes "message") _ _ 25000 37100 1 refl (attrs_stay None (unless_empty id) (Some to) (Some (message_type Chat)) None)
    (fewer _ _ 25000 _ 16 (omega arith) (omega arith)
    (stanza_attributes None (unless_empty id) (Some to) (Some (message_type Chat)) None 0 most_origin most_address 4 0 tt (unless_empty_within id most_origin id_short) to_short (literal (codes "chat") 4 refl refl) tt))
    (nodes_small id text private id_short text_short))
