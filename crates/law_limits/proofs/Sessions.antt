-- What a client says to have a session, and at its beginning.
use Rattle.std.proofs.Common.{ℕ, ◌+◌, ◌*◌, true, List, [], ◌∷◌, None, codes, refl, arith, pos}
use Rattle.im_extensions.specs.Bind.{bind_request_elem}
use Rattle.im_extensions.specs.Requests.{carbons_switch_elem}
use Rattle.im_payload.specs.Names.{binding, carbons}
use Rattle.im_payload.specs.Writing.{text_child_where}
use Rattle.im_stanza.specs.Names.{client_ns}
use Rattle.im_stanza.specs.Written.{iq_elem, presence_elem}
use Rattle.im_stanza.specs.declared.kinds.IqKind.TheVariants.{Set}
use Rattle.im_stanza.specs.declared.kinds.PresenceKind.TheVariants.{Available}
use Rattle.xml_trees.specs.Tidied.{text_node}
use Rattle.xml_trees.specs.Trees.{Elem, child, element, no_nodes}
use Rattle.law_limits.specs.Bounds.{IsTextWithin, most_part}
use Rattle.law_limits.proofs.RequestParts.{AreSmall, IsSmall, bare_small, element_small, fewer, none_small, only_child, text_small, wider, wider_nodes}
use Rattle.law_limits.proofs.Stanzas.{iq_small, stanza_attributes}
use Rattle.law_limits.proofs.Texts.{literal}

-- an `iq` that sets something by one element
pub setting_small : (id : List ℕ) (payload : Elem) (i most deep : ℕ) → IsTextWithin i id → IsSmall payload most deep
    → IsSmall (iq_elem (record { from = None; to = None; id = id; kind = Set; payload = child payload no_nodes })) (300 + 6 * i + most) (deep + 1)
setting_small id payload i most deep id_short inside =
    wider _ _ _ _ _ (omega arith) (omega arith) (iq_small None None id Set (child payload no_nodes) 0 i 0 _ deep tt tt id_short (only_child payload most deep inside))

-- ---- the binding of a resource

resource_small : (resource : List ℕ) → IsTextWithin most_part resource → AreSmall (text_child_where binding (codes "resource") resource) 6000 1
resource_small [] h = wider_nodes _ _ _ _ _ (omega arith) (omega arith) (none_small 0)
resource_small (c ∷ cs) h =
    wider_nodes _ _ _ _ _ (omega arith) (omega arith)
    (only_child (element binding (codes "resource") [] (text_node (c ∷ cs))) _ 1 (bare_small binding (codes "resource") (text_node (c ∷ cs)) _ 0 refl (text_small (c ∷ cs) most_part h)))

pub bind_small : (resource : List ℕ) → IsTextWithin most_part resource
    → IsSmall (iq_elem (record { from = None; to = None; id = codes "bind"; kind = Set; payload = child (bind_request_elem (record { resource = resource })) no_nodes })) 65536 32
bind_small resource h =
    wider _ _ _ _ _ (omega arith) (omega arith)
    (setting_small (codes "bind") (bind_request_elem (record { resource = resource })) 4 _ _ (literal (codes "bind") 4 refl refl)
    (bare_small binding (codes "bind") (text_child_where binding (codes "resource") resource) 6000 1 refl (resource_small resource h)))

-- ---- its beginning

pub carbons_small : IsSmall (iq_elem (record { from = None; to = None; id = codes "carbons"; kind = Set; payload = child (carbons_switch_elem (record { on = true })) no_nodes })) 65536 32
carbons_small =
    wider _ _ _ _ _ (omega arith) (omega arith)
    (setting_small (codes "carbons") (carbons_switch_elem (record { on = true })) 7 _ _ (literal (codes "carbons") 7 refl refl) (bare_small carbons (codes "enable") no_nodes 0 0 refl (none_small 0)))

pub available_small : IsSmall (presence_elem (record { from = None; to = None; id = []; kind = Available; priority = pos 0 })) 65536 32
available_small =
    wider _ _ _ _ _ (omega arith) (omega arith)
    (element_small client_ns (codes "presence") [] no_nodes 400 0 0 refl refl (fewer _ _ 400 _ 16 (omega arith) (omega arith) (stanza_attributes None None None None None 0 0 0 0 0 tt tt tt tt tt)) (none_small 0))
