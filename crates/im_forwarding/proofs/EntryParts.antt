-- Archived messages as they are written, part by part.
use Rattle.std.proofs.Common.{◌≡◌, true≢false, ℕ, Bool, true, false, ◌&&◌, List, [], ◌∷◌, ◌++◌, Some, length, refl, sym, ap, ◌∙◌, append_assoc, append-nil, codes}
use Rattle.std.specs.Prelude.{◌==◌}
use Rattle.mam_archive.specs.Entries.{EntryView}
use Rattle.mam_archive.specs.declared.entry.Body.{Body}
use Rattle.im_extensions.specs.Ids.{origin_id_elem}
use Rattle.im_forwarding.proofs.KeptNodes.{nothing_is, some_length}
use Rattle.im_forwarding.proofs.PartSteps.{client_inside, message_in_parts, one_written}
use Rattle.im_forwarding.specs.Results.{archived_elem, archived_message, body_elem, entry_nodes, origin_node}
use Rattle.im_stanza.specs.Names.{client_ns, xml_ns}
use Rattle.im_stanza.specs.Written.{attr_where, message_elem, unless_empty}
use Rattle.xml_tokens.specs.Spelling.{spelled_text}
use Rattle.xml_trees.specs.Attributes.{Attribute}
use Rattle.xml_trees.specs.Trees.{Nodes, child, element, no_nodes, text}
use Rattle.xml_writer.proofs.PartLaws.{in_parts}
use Rattle.xml_writer.specs.Canon.{has_nothing, written, written_end_tag, written_nodes, written_start_tag}

-- ---- a body, and the sender's own id

abbrev pub body_attrs : List ℕ → List Attribute
body_attrs lang = attr_where xml_ns (codes "lang") (unless_empty lang)

pub body_in_parts : (lang said : List ℕ) → false ≡ (length said == 0)
    → written client_ns (body_elem (record { lang = lang; text = said }))
    ≡ written_start_tag client_ns client_ns (codes "body") (body_attrs lang) ++ (spelled_text said ++ written_end_tag client_ns (codes "body"))
body_in_parts lang [] some = absurd (true≢false (sym some))
body_in_parts lang (c ∷ cs) some =
    let start = written_start_tag client_ns client_ns (codes "body") (body_attrs lang) in
    let end = written_end_tag client_ns (codes "body") in
    let inside = text (c ∷ cs) no_nodes in
    in_parts client_ns client_ns (codes "body") (body_attrs lang) inside refl
    ∙ ap (λ d. start ++ (written_nodes d inside ++ end)) (client_inside client_ns)
    ∙ ap (λ l. start ++ (l ++ end)) (append-nil (spelled_text (c ∷ cs)))

pub origin_written : (origin : List ℕ) → false ≡ (length origin == 0) → written_nodes client_ns (origin_node origin) ≡ written client_ns (origin_id_elem (record { id = origin }))
origin_written [] some = absurd (true≢false (sym some))
origin_written (c ∷ cs) some = one_written client_ns (origin_id_elem (record { id = c ∷ cs }))

-- ---- an archived message

nothing_in_origin : (origin : List ℕ) → has_nothing (origin_node origin) ≡ (length origin == 0)
nothing_in_origin [] = refl
nothing_in_origin (c ∷ cs) = sym (some_length c cs)

pub nothing_in_entry : (bodies : List Body) (origin : List ℕ) → has_nothing (entry_nodes bodies origin) ≡ (length bodies == 0) && (length origin == 0)
nothing_in_entry [] origin = nothing_in_origin origin
nothing_in_entry (b ∷ bs) origin = sym (ap (λ none. none && (length origin == 0)) (some_length b bs))

entries_written : (bodies : List Body) (origin : List ℕ) → written_nodes client_ns (entry_nodes bodies origin) ≡ written_nodes client_ns (entry_nodes bodies []) ++ written_nodes client_ns (origin_node origin)
entries_written [] origin = refl
entries_written (b ∷ bs) origin =
    ap (λ l. written client_ns (body_elem b) ++ l) (entries_written bs origin)
    ∙ sym (append_assoc (written client_ns (body_elem b)) (written_nodes client_ns (entry_nodes bs [])) (written_nodes client_ns (origin_node origin)))

pub entry_in_parts : (default : List ℕ) (attrs : List Attribute) (bodies : List Body) (origin : List ℕ) → has_nothing (entry_nodes bodies origin) ≡ false
    → written default (element client_ns (codes "message") attrs (entry_nodes bodies origin))
    ≡ written_start_tag default client_ns (codes "message") attrs
    ++ (written_nodes client_ns (entry_nodes bodies []) ++ (written_nodes client_ns (origin_node origin) ++ written_end_tag client_ns (codes "message")))
entry_in_parts default attrs bodies origin some =
    let start = written_start_tag default client_ns (codes "message") attrs in
    let end = written_end_tag client_ns (codes "message") in
    message_in_parts default attrs (entry_nodes bodies origin) some
    ∙ ap (λ l. start ++ (l ++ end)) (entries_written bodies origin)
    ∙ ap (λ l. start ++ l) (append_assoc (written_nodes client_ns (entry_nodes bodies [])) (written_nodes client_ns (origin_node origin)) end)

pub nothing_archived : (e : EntryView) → has_nothing (entry_nodes e.bodies e.origin) ≡ true → archived_elem e ≡ message_elem (record (archived_message e) { payload = no_nodes })
nothing_archived e none = ap (λ (ks : Nodes). message_elem (record (archived_message e) { payload = ks })) (nothing_is (entry_nodes e.bodies e.origin) none)
