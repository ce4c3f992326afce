-- What a server answers from an archive (XEP-0313), and what an archive keeps.
use Rattle.std.proofs.Common.{◌≡◌, ℕ, ◌+◌, ◌<◌, ◌≤◌, ◌^◌, Bool, true, false, List, [], ◌∷◌, Option, Some, None, IfSome, bytes_eq, codes, cond, if◌then◌else◌, map, refl, ap, arith, subst, sym, inl, inr, unwrap_or}
use Rattle.std.proofs.lemmas.Bool.{and_parts, cases_Bool}
use Rattle.std.proofs.lemmas.Option.{same_Some}
use Rattle.std.proofs.lemmas.Slice.Eq.{bytes_eq-Decides}
use Rattle.std.specs.Fmt.{decimal}
use Rattle.std.specs.List.{AllByRecursion}
use Rattle.std.specs.Option.{option_and_then, option_map}
use Rattle.mam_archive.specs.Entries.{EntryView, numbered}
use Rattle.mam_archive.specs.Ids.{id_of}
use Rattle.im_extensions.specs.Given.{origin_of}
use Rattle.im_extensions.specs.Ids.{origin_id_elem}
use Rattle.im_extensions.specs.Forwarding.{forwarded_elem}
use Rattle.im_forwarding.proofs.TreeLaws.{entry_IsTree}
use Rattle.im_forwarding.specs.Results.{AskerView, archived_elem, archived_kind, archived_result, body_elem, end_elem, entry_elem, entry_nodes, origin_node}
use Rattle.law_xml.specs.Plain.{ArePlainNodes, IsPlainAttribute, IsPlainElement}
use Rattle.im_mam.proofs.FinLaws.{fin_with_stays}
use Rattle.im_mam.specs.ArchiveAnswers.{fin_elem, fin_elem_with, fin_elem_without_index, first_item, first_item_where, page_elem, page_items}
use Rattle.im_mam.specs.ResultSets.{set_item, set_item_where}
use Rattle.im_messages.specs.Bodies.{bodies_of, body_of, is_body}
use Rattle.im_messages.specs.Entries.{entry_of}
use Rattle.mam_pages.specs.Cuts.{CutView, fin_of}
use Rattle.mam_pages.specs.declared.fin.Fin.{Fin}
use Rattle.im_payload.specs.Names.{archive, result_sets, stanza_ids}
use Rattle.im_payload.specs.Writing.{flag_text}
use Rattle.law_limits.proofs.PutParts.{attributes_joined, attributes_more, bounded_element, bounded_more, child_bounded, joined_bounded, language, no_attributes, no_nodes_bounded, nodes_more, one_attribute, only_child, other_space, reads, said_bounded, space, text_bounded, where_given, word}
use Rattle.law_limits.proofs.Passing.{forwarded_bounded}
use Rattle.law_limits.proofs.PutReplies.{with_none}
use Rattle.law_limits.proofs.Requests.{message_kind_said, stanza_bounded, unless_said}
use Rattle.law_limits.specs.Bounded.{AreBounded, BoundedAttributes, ClientReads, IsBounded}
use Rattle.law_limits.specs.Messages.{EntryFits, MessageFits}
use Rattle.law_limits.proofs.Characters.{characters_append, printable_characters, said_more, said_word}
use Rattle.law_limits.proofs.ElementSizes.{child_size, only_text, texts_size, value_and_nodes}
use Rattle.law_limits.proofs.Numerals.{said_decimal, said_hex}
use Rattle.law_limits.specs.Elements.{element_size, nodes_size}
use Rattle.law_limits.specs.Texts.{Said, text_size, value_size}
use Rattle.im_stamp.specs.Dates.{stamp_at}
use Rattle.im_stanza.specs.Errors.{trees_where}
use Rattle.im_stanza.specs.Kinds.{message_type}
use Rattle.im_stanza.specs.Names.{client_ns, xml_ns}
use Rattle.im_stanza.specs.Stanzas.{attr_named}
use Rattle.im_stanza.specs.Views.{MessageView}
use Rattle.im_stanza.specs.Written.{attr_where, unless_empty}
use Rattle.xml_tokens.specs.Lines.{IsCharacters}
use Rattle.xml_trees.specs.Attributes.{Attribute, attribute, found, has_name}
use Rattle.xml_trees.specs.Readers.{attr_of, first_named, is_named, text_of}
use Rattle.xml_trees.specs.Tidied.{text_node, tidied_nodes}
use Rattle.xml_trees.specs.Trees.{Elem, Nodes, child, element, joined, no_nodes, text}
use Rattle.xml_writer.specs.Canon.{default_inside}

-- ---- texts of plain elements

pub found_characters : (ns name : List ℕ) (attrs : List Attribute) (v : List ℕ) → AllByRecursion IsPlainAttribute attrs → option_map (λ (a : Attribute). a.value) (found ns name attrs) ≡ Some v → IsCharacters v
found_characters ns name [] v h is = absurd cc
found_characters ns name (a ∷ more) v h is =
    elim (cases_Bool (has_name ns name a)) [
      | inl here ↦ subst IsCharacters (same_Some a.value v (rw here at is)) h.0.value
      | inr other ↦ found_characters ns name more v h.1 (rw other at is)
    ]

pub attribute_characters : (ns name : List ℕ) (e : Elem) (v : List ℕ) → IsPlainElement e → attr_of ns name e ≡ Some v → IsCharacters v
attribute_characters ns name (element own called attrs kids) v h is = found_characters ns name attrs v h.1 is

pub text_characters : (ks : Nodes) → ArePlainNodes ks → IsCharacters (text_of ks)
text_characters no_nodes h = printable_characters [] refl
text_characters (child e rest) h = text_characters rest h.1
text_characters (text t rest) h = characters_append t (text_of rest) h.0 (text_characters rest h.1)

-- ---- bodies

pub le_self : (n : ℕ) → n ≤ n
le_self n = omega arith

language_bounded : (o : Option (List ℕ)) → IfSome o IsCharacters → (m : ℕ) × BoundedAttributes 1 m (attr_where xml_ns (codes "lang") (unless_empty (unwrap_or o [])))
language_bounded None h = (0, attributes_more 0 1 0 0 [] no_attributes (omega arith) (omega arith))
language_bounded (Some []) h = (0, attributes_more 0 1 0 0 [] no_attributes (omega arith) (omega arith))
language_bounded (Some (c ∷ cs)) h = (value_size (c ∷ cs) + 48, language (value_size (c ∷ cs)) (c ∷ cs) (record { characters = h; short = le_self (value_size (c ∷ cs)) }))

language_characters : (attrs : List Attribute) (o : Option (List ℕ)) → AllByRecursion IsPlainAttribute attrs → option_map (λ (a : Attribute). a.value) (found xml_ns (codes "lang") attrs) ≡ o → IfSome o IsCharacters
language_characters attrs None h is = tt
language_characters attrs (Some v) h is = found_characters xml_ns (codes "lang") attrs v h is

pub body_bounded : (e : Elem) → IsPlainElement e → is_body e ≡ true → IsBounded client_ns 1 (element_size client_ns e) (body_elem (body_of e))
body_bounded (element ns name attrs kids) h is =
    let lang = option_map (λ (a : Attribute). a.value) (found xml_ns (codes "lang") attrs) in
    let attributes = language_bounded lang (language_characters attrs lang h.1 refl) in
    let inner = default_inside client_ns client_ns in
    let inside = text_bounded inner (text_of kids) (text_size (text_of kids)) (text_characters kids h.2) (le_self (text_size (text_of kids))) in
    let given = attr_where xml_ns (codes "lang") (unless_empty (unwrap_or lang [])) in
    let bounded =
    bounded_element client_ns client_ns (codes "body") given (text_node (text_of kids)) 1 attributes.0 0 (text_size (text_of kids)) (space client_ns refl) (word (codes "body") refl) attributes.1 (omega arith) inside in
    let parts = and_parts (bytes_eq ns client_ns) (bytes_eq name (codes "body")) is in
    let own : ns ≡ client_ns = (bytes_eq-Decides ns client_ns).0 parts.0 in
    let called : name ≡ codes "body" = (bytes_eq-Decides name (codes "body")).0 parts.1 in
    let shorter = only_text client_ns (codes "body") lang attrs kids refl client_ns in
    let deep = bounded.shallow in
    record {
      plain = bounded.plain;
      tags = bounded.tags;
      shallow = omega (arith, deep);
      short = subst (λ n. element_size client_ns (body_elem (body_of (element ns name attrs kids))) ≤ element_size client_ns (element n name attrs kids)) (sym own)
          (subst (λ c. element_size client_ns (body_elem (body_of (element ns name attrs kids))) ≤ element_size client_ns (element client_ns c attrs kids)) (sym called) shorter);
    }

pub bodies_bounded : (ks : Nodes) (origin : List ℕ) (m : ℕ) → ArePlainNodes ks → AreBounded client_ns 1 m (origin_node origin) → AreBounded client_ns 1 (nodes_size client_ns ks + m) (entry_nodes (bodies_of ks) origin)
bodies_bounded no_nodes origin m h k = nodes_more client_ns 1 1 m (nodes_size client_ns no_nodes + m) (origin_node origin) k (omega arith) (omega arith)
bodies_bounded (child e rest) origin m h k =
    let ih = bodies_bounded rest origin m h.1 k in
    let whole = child_size client_ns e rest in
    elim (cases_Bool (is_body e)) [
      | inl here ↦
          rw here (nodes_more client_ns 1 1 (element_size client_ns e + (nodes_size client_ns rest + m)) (nodes_size client_ns (child e rest) + m) (child (body_elem (body_of e)) (entry_nodes (bodies_of rest) origin))
          (child_bounded client_ns 1 (element_size client_ns e) (nodes_size client_ns rest + m) (body_elem (body_of e)) (entry_nodes (bodies_of rest) origin) (body_bounded e h.0 here) ih) (omega arith) (omega (arith, whole)))
      | inr other ↦ rw other (nodes_more client_ns 1 1 (nodes_size client_ns rest + m) (nodes_size client_ns (child e rest) + m) (entry_nodes (bodies_of rest) origin) ih (omega arith) (omega (arith, whole)))
    ]
bodies_bounded (text t rest) origin m h k =
    let ih = bodies_bounded rest origin m h.1 k in
    let whole = texts_size client_ns t rest in
    nodes_more client_ns 1 1 (nodes_size client_ns rest + m) (nodes_size client_ns (text t rest) + m) (entry_nodes (bodies_of rest) origin) ih (omega arith) (omega (arith, whole))

-- ---- the sender's own id

pub child_said : (ns name called : List ℕ) (ks : Nodes) (v : List ℕ) → ArePlainNodes ks → option_and_then (attr_named called) (first_named ns name ks) ≡ Some v → Said (nodes_size client_ns ks) v
child_said ns name called no_nodes v h is = absurd cc
child_said ns name called (child e rest) v h is =
    let whole = child_size client_ns e rest in
    elim (cases_Bool (is_named ns name e)) [
      | inl here ↦
          let its : attr_named called e ≡ Some v = rw here at is in
          let size = value_and_nodes client_ns [] called e v its in
          record { characters = attribute_characters [] called e v h.0 its; short = omega (arith, whole, size) }
      | inr other ↦
          let ih = child_said ns name called rest v h.1 (rw other at is) in
          let short = ih.short in
          record { characters = ih.characters; short = omega (arith, whole, short) }
    ]
child_said ns name called (text t rest) v h is =
    let ih = child_said ns name called rest v h.1 is in
    let short = ih.short in
    let whole = texts_size client_ns t rest in
    record { characters = ih.characters; short = omega (arith, whole, short) }

origin_said : (ks : Nodes) (o : Option (List ℕ)) → ArePlainNodes ks → origin_of ks ≡ o → Said (nodes_size client_ns ks) (unwrap_or o [])
origin_said ks None h is = said_more 0 (nodes_size client_ns ks) [] (said_word 0 [] refl refl) (omega arith)
origin_said ks (Some v) h is = child_said stanza_ids (codes "origin-id") (codes "id") ks v h is

origin_bounded : (m : ℕ) (origin : List ℕ) → Said m origin → AreBounded client_ns 1 (m + 448) (origin_node origin)
origin_bounded m [] h = nodes_more client_ns 0 1 0 (m + 448) no_nodes (no_nodes_bounded client_ns) (omega arith) (omega arith)
origin_bounded m (c ∷ cs) h =
    only_child client_ns 1 (m + 448) (origin_id_elem (record { id = c ∷ cs }))
    (bounded_more client_ns 1 1 (m + 48 + 400) (m + 448) (origin_id_elem (record { id = c ∷ cs }))
    (with_none client_ns stanza_ids (codes "origin-id") (attribute [] (codes "id") (c ∷ cs) ∷ []) 1 (m + 48) (space stanza_ids refl) (word (codes "origin-id") refl) (one_attribute m (codes "id") (c ∷ cs) (word (codes "id") refl) h) (omega arith))
    (omega arith) (omega arith))

-- ---- the entry of a message

address_said : (o : Option (List ℕ)) → IfSome o (Said 18426) → Said 18426 (unwrap_or o [])
address_said None h = said_word 18426 [] refl refl
address_said (Some a) h = h

pub entry_fits : (number stamp : ℕ) (m : MessageView) → MessageFits m → EntryFits (entry_of number stamp m)
entry_fits number stamp m h =
    let size = h.payload.short in
    let within = h.within in
    let origin = unwrap_or (origin_of m.payload) [] in
    let total = nodes_size client_ns m.payload in
    record {
      from = address_said m.from h.from;
      to = address_said m.to h.to;
      id_bytes = h.id_bytes;
      payload_bytes = total + (total + 448);
      within = omega (arith, size, within);
      id = h.id;
      payload = bodies_bounded m.payload origin (total + 448) h.payload.plain (origin_bounded total origin (origin_said m.payload (origin_of m.payload) h.payload.plain refl));
    }

pub numbered_fits : (n : ℕ) (e : EntryView) → EntryFits e → EntryFits (numbered n e)
numbered_fits n e h = record { from = h.from; to = h.to; id_bytes = h.id_bytes; payload_bytes = h.payload_bytes; within = h.within; id = h.id; payload = h.payload }

-- ---- one result

archived_bounded : (default : List ℕ) (e : EntryView) → EntryFits e → IsBounded default 2 2140000 (archived_elem e)
archived_bounded default e h =
    let within = h.within in
    bounded_more default 2 2 (18426 + h.id_bytes + 18426 + 0 + h.payload_bytes + 700) 2140000 (archived_elem e)
    (stanza_bounded default (codes "message") (unless_empty e.from) (unless_empty e.id) (unless_empty e.to) (Some (message_type (archived_kind e.normal))) None (entry_nodes e.bodies e.origin) 18426 h.id_bytes 18426 0 1 h.payload_bytes
    (word (codes "message") refl) (unless_said 18426 e.from h.from) (unless_said h.id_bytes e.id h.id) (unless_said 18426 e.to h.to) (message_kind_said (archived_kind e.normal)) tt h.payload)
    (omega arith) (omega (arith, within))

pub entry_read : (a : AskerView) (e : EntryView) → Said 12282 a.by → Said 18426 a.full → Said 1048576 a.queryid → EntryFits e → ClientReads (entry_elem a e)
entry_read a e h k l fits =
    let outer = default_inside client_ns archive in
    let forwarded = forwarded_bounded outer e.stamp 2 2140000 (archived_elem e) (archived_bounded (default_inside outer (codes "urn:xmpp:forward:0")) e fits) (omega arith) in
    let attributes =
    attributes_joined 1 1 144 1048624 (attribute [] (codes "id") (id_of e.number) ∷ []) (attr_where [] (codes "queryid") (unless_empty a.queryid)) (one_attribute 96 (codes "id") (id_of e.number) (word (codes "id") refl) (said_hex e.number))
    (where_given 1048576 (codes "queryid") (unless_empty a.queryid) (word (codes "queryid") refl) (unless_said 1048576 a.queryid l)) in
    let result =
    bounded_element client_ns archive (codes "result") (attribute [] (codes "id") (id_of e.number) ∷ attr_where [] (codes "queryid") (unless_empty a.queryid)) (child (forwarded_elem (stamp_at e.stamp) (archived_elem e)) no_nodes) 2 (144 + 1048624) 3 2141000
    (space archive refl) (word (codes "result") refl) attributes (omega arith) (only_child outer 3 2141000 (forwarded_elem (stamp_at e.stamp) (archived_elem e)) forwarded) in
    let inside = only_child client_ns 4 (144 + 1048624 + 2141000 + 400) (archived_result a.queryid e) result in
    reads (entry_elem a e) 5 (12282 + 0 + 18426 + 0 + (144 + 1048624 + 2141000 + 400) + 700) (entry_IsTree a e)
    (stanza_bounded client_ns (codes "message") (Some a.by) None (Some a.full) None None (child (archived_result a.queryid e) no_nodes) 12282 0 18426 0 4 (144 + 1048624 + 2141000 + 400) (word (codes "message") refl) h tt k tt tt inside)
    (other_space client_ns (codes "message") refl) (omega arith) (omega arith)

-- ---- the end of a page

where_bounded : (default : List ℕ) (m : ℕ) (o : Option Elem) → IfSome o (IsBounded default 1 m) → AreBounded default 1 m (trees_where o)
where_bounded default m None h = nodes_more default 0 1 0 m no_nodes (no_nodes_bounded default) (omega arith) (omega arith)
where_bounded default m (Some e) h = only_child default 1 m e h

last_bounded : (default : List ℕ) (o : Option (List ℕ)) → IfSome o (Said 120) → IfSome (set_item_where (codes "last") o) (IsBounded default 1 520)
last_bounded default None h = tt
last_bounded default (Some given) h =
    bounded_element default result_sets (codes "last") [] (text_node given) 0 0 0 120 (space result_sets refl) (word (codes "last") refl) no_attributes (omega arith) (said_bounded (default_inside default result_sets) given 120 h)

index_said : (index : Option ℕ) → IfSome index (λ i. i < 2 ^ 64) → IfSome (option_map decimal index) (Said 120)
index_said None small = tt
index_said (Some i) small = said_decimal i small

first_bounded : (default : List ℕ) (o : Option (List ℕ)) (index : Option ℕ) → IfSome o (Said 120) → IfSome index (λ i. i < 2 ^ 64) → IfSome (first_item_where o index) (IsBounded default 1 700)
first_bounded default None index h small = tt
first_bounded default (Some given) index h small =
    bounded_more default 1 1 (168 + 120 + 400) 700 (first_item index given)
    (bounded_element default result_sets (codes "first") (attr_where [] (codes "index") (option_map decimal index)) (text_node given) 1 168 0 120 (space result_sets refl) (word (codes "first") refl)
    (where_given 120 (codes "index") (option_map decimal index) (word (codes "index") refl) (index_said index small)) (omega arith) (said_bounded (default_inside default result_sets) given 120 h))
    (omega arith) (omega arith)

page_bounded : (default : List ℕ) (index : Option ℕ) (v : Fin) → IfSome v.first (Said 120) → IfSome v.last (Said 120) → IfSome index (λ i. i < 2 ^ 64) → v.count < 2 ^ 64 → IsBounded default 2 2200 (page_elem index v)
page_bounded default index v a b c d =
    let inner = default_inside default result_sets in
    let first = where_bounded inner 700 (first_item_where v.first index) (first_bounded inner v.first index a c) in
    let last = where_bounded inner 520 (set_item_where (codes "last") v.last) (last_bounded inner v.last b) in
    let count =
    only_child inner 1 520 (set_item (codes "count") (decimal v.count))
    (bounded_element inner result_sets (codes "count") [] (text_node (decimal v.count)) 0 0 0 120 (space result_sets refl) (word (codes "count") refl) no_attributes (omega arith)
    (said_bounded (default_inside inner result_sets) (decimal v.count) 120 (said_decimal v.count d))) in
    let two = joined_bounded inner 1 700 520 (trees_where (first_item_where v.first index)) (trees_where (set_item_where (codes "last") v.last)) first last in
    let all =
    joined_bounded inner 1 (700 + 520) 520 (joined (trees_where (first_item_where v.first index)) (trees_where (set_item_where (codes "last") v.last))) (child (set_item (codes "count") (decimal v.count)) no_nodes) two count in
    bounded_more default 2 2 (0 + (700 + 520 + 520) + 400) 2200 (page_elem index v)
    (bounded_element default result_sets (codes "set") [] (page_items v.first index v.last v.count) 0 0 1 (700 + 520 + 520) (space result_sets refl) (word (codes "set") refl) no_attributes (omega arith) all) (omega arith) (omega arith)

flag_said : (b : Bool) → IfSome (flag_text b) (Said 60)
flag_said true = said_word 60 (codes "true") refl refl
flag_said false = tt

pub fin_bounded : (index : Option ℕ) (v : Fin) → IfSome v.first (Said 120) → IfSome v.last (Said 120) → IfSome index (λ i. i < 2 ^ 64) → v.count < 2 ^ 64 → AreBounded client_ns 3 3000 (child (fin_elem_with index v) no_nodes)
fin_bounded index v a b c d =
    let inner = default_inside client_ns archive in
    only_child client_ns 3 3000 (fin_elem_with index v)
    (bounded_more client_ns 3 3 (108 + 2200 + 400) 3000 (fin_elem_with index v)
    (bounded_element client_ns archive (codes "fin") (attr_where [] (codes "complete") (flag_text v.complete)) (child (page_elem index v) no_nodes) 1 108 2 2200 (space archive refl) (word (codes "fin") refl)
    (where_given 60 (codes "complete") (flag_text v.complete) (word (codes "complete") refl) (flag_said v.complete)) (omega arith) (only_child inner 2 2200 (page_elem index v) (page_bounded inner index v a b c d)))
    (omega arith) (omega arith))

-- the end of a page, whether or not it tells the place of the first entry
pub end_bounded : (cut : CutView) → IfSome (fin_of cut).first (Said 120) → IfSome (fin_of cut).last (Said 120) → cut.first_index < 2 ^ 64 → cut.count < 2 ^ 64 → AreBounded client_ns 3 3000 (child (end_elem cut) no_nodes)
end_bounded cut a b c d = by cut.backward
  where
    by : (backward : Bool) → AreBounded client_ns 3 3000 (child (if backward then fin_elem_without_index (fin_of cut) else fin_elem (fin_of cut)) no_nodes)
    by true = fin_bounded None (fin_of cut) a b tt d
    by false = fin_bounded (Some cut.first_index) (fin_of cut) a b c d

pub end_payload_stays : (cut : CutView) → tidied_nodes (child (end_elem cut) no_nodes) ≡ child (end_elem cut) no_nodes
end_payload_stays cut = by cut.backward
  where
    by : (backward : Bool) → tidied_nodes (child (if backward then fin_elem_without_index (fin_of cut) else fin_elem (fin_of cut)) no_nodes)
        ≡ child (if backward then fin_elem_without_index (fin_of cut) else fin_elem (fin_of cut)) no_nodes
    by true = ap (λ e. child e no_nodes) (fin_with_stays None (fin_of cut))
    by false = ap (λ e. child e no_nodes) (fin_with_stays (Some cut.first_index) (fin_of cut))
