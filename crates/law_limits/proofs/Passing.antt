-- What a server passes on: a message as it goes to sessions, and copies of it (XEP-0359, XEP-0280, XEP-0297).
use Rattle.std.proofs.Common.{◌≡◌, ℕ, ◌+◌, ◌≤◌, Bool, true, false, List, [], ◌∷◌, ◌++◌, Option, Some, None, codes, refl, arith, inl, inr}
use Rattle.std.proofs.lemmas.Bool.{cases_Bool}
use Rattle.mam_archive.specs.Ids.{id_of}
use Rattle.im_extensions.specs.Carbons.{carbon_elem}
use Rattle.im_extensions.specs.Forwarding.{delay_elem, forwarded_elem}
use Rattle.im_extensions.specs.Given.{is_given_by}
use Rattle.im_extensions.specs.Ids.{stanza_id_elem}
use Rattle.im_forwarding.proofs.TreeLaws.{copy_IsTree, passed_IsTree}
use Rattle.im_forwarding.specs.Copies.{CopyView, copied_elem, copy_elem}
use Rattle.im_forwarding.specs.Passed.{id_node, passed_elem, passed_nodes}
use Rattle.law_xml.specs.Fitting.{NodesFit}
use Rattle.law_xml.specs.Plain.{ArePlainNodes}
use Rattle.im_messages.specs.Ids.{without_ids}
use Rattle.im_payload.specs.Names.{carbons, delays, forwarding, stanza_ids}
use Rattle.law_limits.proofs.PutParts.{bounded_element, bounded_more, child_bounded, joined_bounded, no_attributes, no_nodes_bounded, nodes_more, one_attribute, only_child, other_space, reads, space, word}
use Rattle.law_limits.proofs.PutReplies.{bounded_around, two_attributes, with_none}
use Rattle.law_limits.proofs.Requests.{message_kind_said, stanza_bounded, unless_said}
use Rattle.law_limits.proofs.StampSizes.{stamp_said}
use Rattle.law_limits.specs.Bounded.{AreBounded, ClientReads, IsBounded, client_tags}
use Rattle.law_limits.specs.Messages.{MessageFits}
use Rattle.law_limits.proofs.Characters.{characters_append, printable_characters}
use Rattle.law_limits.proofs.ElementSizes.{child_size, texts_joined_size, texts_size}
use Rattle.law_limits.proofs.Numerals.{said_hex}
use Rattle.law_limits.proofs.TextSizes.{text_nothing}
use Rattle.law_limits.specs.Elements.{nodes_size}
use Rattle.law_limits.specs.Texts.{Said}
use Rattle.im_stamp.specs.Dates.{stamp_at}
use Rattle.im_stanza.specs.Kinds.{message_type}
use Rattle.im_stanza.specs.Names.{client_ns}
use Rattle.im_stanza.specs.Views.{MessageView}
use Rattle.im_stanza.specs.Written.{unless_empty}
use Rattle.xml_tokens.specs.Lines.{IsCharacters}
use Rattle.xml_trees.specs.Attributes.{attribute}
use Rattle.xml_trees.specs.Tidied.{text_node, texts_joined}
use Rattle.xml_trees.specs.Trees.{Elem, Nodes, child, depth_below, joined, no_nodes, text}
use Rattle.xml_writer.specs.Canon.{default_inside}
use Rattle.xml_trees.proofs.TidyReads.{depth_below-text_node as run_depth}
use Rattle.law_xml.proofs.PlainElements.{only_text_plain, text_plain}

-- ---- a payload without the ids that an address gave

kept_plain : (by : List ℕ) (ks : Nodes) → ArePlainNodes ks → ArePlainNodes (without_ids by ks)
kept_plain by no_nodes h = tt
kept_plain by (child e rest) h = elim (cases_Bool (is_given_by by e)) [ inl g ↦ rw g (kept_plain by rest h.1) | inr g ↦ rw g (h.0, kept_plain by rest h.1) ]
kept_plain by (text t rest) h = (h.0, kept_plain by rest h.1)

kept_tags : (default by : List ℕ) (ks : Nodes) → NodesFit client_tags default ks → NodesFit client_tags default (without_ids by ks)
kept_tags default by no_nodes h = tt
kept_tags default by (child e rest) h = elim (cases_Bool (is_given_by by e)) [ inl g ↦ rw g (kept_tags default by rest h.1) | inr g ↦ rw g (h.0, kept_tags default by rest h.1) ]
kept_tags default by (text t rest) h = kept_tags default by rest h

kept_depth : (by : List ℕ) (ks : Nodes) → depth_below (without_ids by ks) ≤ depth_below ks
kept_depth by no_nodes = omega arith
kept_depth by (child e rest) =
    let ih = kept_depth by rest in elim (cases_Bool (is_given_by by e)) [ inl g ↦ rw g (omega (arith, ih)) | inr g ↦ rw g (omega (arith, ih)) ]
kept_depth by (text t rest) = kept_depth by rest

kept_size : (default by : List ℕ) (ks : Nodes) → nodes_size default (without_ids by ks) ≤ nodes_size default ks
kept_size default by no_nodes = omega arith
kept_size default by (child e rest) =
    let ih = kept_size default by rest in
    let whole = child_size default e rest in
    elim (cases_Bool (is_given_by by e)) [
      | inl g ↦ rw g (omega (arith, ih, whole))
      | inr g ↦ rw g (omega (arith, ih, whole, child_size default e (without_ids by rest)))
    ]
kept_size default by (text t rest) = let ih = kept_size default by rest in omega (arith, ih, texts_size default t rest, texts_size default t (without_ids by rest))

pub kept_bounded : (default by : List ℕ) (levels m : ℕ) (ks : Nodes) → AreBounded default levels m ks → AreBounded default levels m (without_ids by ks)
kept_bounded default by levels m ks h =
    let a = h.shallow in
    let b = h.short in
    record { plain = kept_plain by ks h.plain; tags = kept_tags default by ks h.tags; shallow = omega (arith, a, kept_depth by ks); short = omega (arith, b, kept_size default by ks) }

-- ---- texts joined

run_tags : (default run : List ℕ) (more : Nodes) → NodesFit client_tags default more → NodesFit client_tags default (joined (text_node run) more)
run_tags default [] more k = k
run_tags default (c ∷ cs) more k = k

text_tags : (default run : List ℕ) → NodesFit client_tags default (text_node run)
text_tags default [] = tt
text_tags default (c ∷ cs) = tt

text_depth : (run : List ℕ) → depth_below (text_node run) ≡ 0
text_depth [] = refl
text_depth (c ∷ cs) = refl

no_run : IsCharacters []
no_run = printable_characters [] refl

one_plain : (run : List ℕ) (ks : Nodes) → IsCharacters run → ArePlainNodes ks → ArePlainNodes (texts_joined run ks)
one_plain run no_nodes h k = only_text_plain run h
one_plain run (child e rest) h k = text_plain run (child e (texts_joined [] rest)) h (k.0, one_plain [] rest no_run k.1)
one_plain run (text t rest) h k = one_plain (run ++ t) rest (characters_append run t h k.0) k.1

one_tags : (default run : List ℕ) (ks : Nodes) → NodesFit client_tags default ks → NodesFit client_tags default (texts_joined run ks)
one_tags default run no_nodes k = text_tags default run
one_tags default run (child e rest) k = run_tags default run (child e (texts_joined [] rest)) (k.0, one_tags default [] rest k.1)
one_tags default run (text t rest) k = one_tags default (run ++ t) rest k

one_depth : (run : List ℕ) (ks : Nodes) → depth_below (texts_joined run ks) ≤ depth_below ks
one_depth run no_nodes = let none = text_depth run in omega (arith, none)
one_depth run (child e rest) = let ih = one_depth [] rest in omega (arith, ih, run_depth run (child e (texts_joined [] rest)))
one_depth run (text t rest) = one_depth (run ++ t) rest

pub texts_bounded : (default : List ℕ) (levels m : ℕ) (ks : Nodes) → AreBounded default levels m ks → AreBounded default levels m (texts_joined [] ks)
texts_bounded default levels m ks h =
    let a = h.shallow in
    let b = h.short in
    let none = text_nothing in
    record { plain = one_plain [] ks no_run h.plain; tags = one_tags default [] ks h.tags; shallow = omega (arith, a, one_depth [] ks); short = omega (arith, b, none, texts_joined_size default [] ks) }

-- ---- the message for the sessions of an account

id_bounded : (by : List ℕ) (number : Option ℕ) → Said 12282 by → AreBounded client_ns 1 12900 (id_node by number)
id_bounded by None h = nodes_more client_ns 0 1 0 12900 no_nodes (no_nodes_bounded client_ns) (omega arith) (omega arith)
id_bounded by (Some n) h =
    only_child client_ns 1 12900 (stanza_id_elem (record { id = id_of n; by = by }))
    (bounded_more client_ns 1 1 12874 12900 (stanza_id_elem (record { id = id_of n; by = by }))
    (with_none client_ns stanza_ids (codes "stanza-id") (attribute [] (codes "by") by ∷ attribute [] (codes "id") (id_of n) ∷ []) 2 12474 (space stanza_ids refl) (word (codes "stanza-id") refl)
    (two_attributes 12282 96 (codes "by") by (codes "id") (id_of n) (word (codes "by") refl) h (word (codes "id") refl) (said_hex n)) (omega arith))
    (omega arith) (omega arith))

pub passed_nodes_bounded : (by : List ℕ) (number : Option ℕ) (m : ℕ) (ks : Nodes) → Said 12282 by → AreBounded client_ns 31 m ks → AreBounded client_ns 31 (m + 12900) (passed_nodes by number ks)
passed_nodes_bounded by number m ks h k =
    joined_bounded client_ns 31 m 12900 (texts_joined [] (without_ids by ks)) (id_node by number) (texts_bounded client_ns 31 m (without_ids by ks) (kept_bounded client_ns by 31 m ks k))
    (nodes_more client_ns 1 31 12900 12900 (id_node by number) (id_bounded by number h) (omega arith) (omega arith))

-- in whatever default namespace it is written
pub passed_bounded : (default by : List ℕ) (number : Option ℕ) (m : MessageView) → Said 12282 by → MessageFits m → IsBounded default 32 2200000 (passed_elem by number m)
passed_bounded default by number m h k =
    let within = k.within in
    bounded_more default 32 32 (18426 + k.id_bytes + 18426 + 1048576 + (k.payload_bytes + 12900) + 700) 2200000 (passed_elem by number m)
    (stanza_bounded default (codes "message") m.from (unless_empty m.id) m.to (Some (message_type m.kind)) (unless_empty m.lang) (passed_nodes by number m.payload) 18426 k.id_bytes 18426 1048576 31 (k.payload_bytes + 12900)
    (word (codes "message") refl) k.from (unless_said k.id_bytes m.id k.id) k.to (message_kind_said m.kind) (unless_said 1048576 m.lang k.lang) (passed_nodes_bounded by number k.payload_bytes m.payload h k.payload))
    (omega arith) (omega (arith, within))

pub passed_read : (by : List ℕ) (number : Option ℕ) (m : MessageView) → Said 12282 by → MessageFits m → ClientReads (passed_elem by number m)
passed_read by number m h k =
    reads (passed_elem by number m) 32 2200000 (passed_IsTree by number m k.tidy) (passed_bounded client_ns by number m h k) (other_space client_ns (codes "message") refl) (omega arith) (omega arith)

-- ---- forwarded, and copied

pub forwarded_bounded : (default : List ℕ) (ms levels m : ℕ) (e : Elem) → IsBounded (default_inside default forwarding) levels m e → 1 ≤ levels → IsBounded default (levels + 1) (m + 1000) (forwarded_elem (stamp_at ms) e)
forwarded_bounded default ms levels m e h some =
    let inner = default_inside default forwarding in
    let delay =
    with_none inner delays (codes "delay") (attribute [] (codes "stamp") (stamp_at ms) ∷ []) 1 192 (space delays refl) (word (codes "delay") refl) (one_attribute 144 (codes "stamp") (stamp_at ms) (word (codes "stamp") refl) (stamp_said ms))
    (omega arith) in
    let kids = child (delay_elem (stamp_at ms)) (child e no_nodes) in
    let inside = child_bounded inner levels 592 m (delay_elem (stamp_at ms)) (child e no_nodes) (bounded_more inner 1 levels 592 592 (delay_elem (stamp_at ms)) delay some (omega arith)) (only_child inner levels m e h) in
    bounded_more default (levels + 1) (levels + 1) (0 + (592 + m) + 400) (m + 1000) (forwarded_elem (stamp_at ms) e)
    (bounded_element default forwarding (codes "forwarded") [] kids 0 0 levels (592 + m) (space forwarding refl) (word (codes "forwarded") refl) no_attributes (omega arith) inside) (omega arith) (omega arith)

carbon_bounded : (default : List ℕ) (sent : Bool) (levels m : ℕ) (e : Elem) → IsBounded (default_inside default carbons) levels m e → IsBounded default (levels + 1) (m + 400) (carbon_elem sent e)
carbon_bounded default true levels m e h = bounded_around default carbons (codes "sent") levels m e (space carbons refl) (word (codes "sent") refl) h
carbon_bounded default false levels m e h = bounded_around default carbons (codes "received") levels m e (space carbons refl) (word (codes "received") refl) h

pub copy_read : (c : CopyView) (full : List ℕ) → Said 12282 c.by → Said 18426 full → MessageFits c.message → ClientReads (copy_elem c full)
copy_read c full h k l =
    let outer = default_inside client_ns carbons in
    let inner = default_inside outer forwarding in
    let message = passed_bounded inner c.by c.number c.message h l in
    let forwarded = forwarded_bounded outer c.moment 32 2200000 (passed_elem c.by c.number c.message) message (omega arith) in
    let inside = only_child client_ns 34 2201400 (copied_elem c) (carbon_bounded client_ns c.sent 33 2201000 (forwarded_elem (stamp_at c.moment) (passed_elem c.by c.number c.message)) forwarded) in
    reads (copy_elem c full) 35 (12282 + 0 + 18426 + 0 + 2201400 + 700) (copy_IsTree c full l.tidy)
    (stanza_bounded client_ns (codes "message") (Some c.by) None (Some full) (Some (message_type c.message.kind)) None (child (copied_elem c) no_nodes) 12282 0 18426 0 34 2201400 (word (codes "message") refl) h tt k
    (message_kind_said c.message.kind) tt inside)
    (other_space client_ns (codes "message") refl) (omega arith) (omega arith)
