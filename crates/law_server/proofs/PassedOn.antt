-- What is passed on of a message is the message, and a copy has it.
use Rattle.std.proofs.Common.{◌≡◌, ℕ, Bool, true, false, not, cond, List, [], ◌∷◌, ◌++◌, Option, Some, None, append-nil, append_assoc, codes, refl, sym, ap, ◌∙◌, inl, inr}
use Rattle.std.proofs.lemmas.Bool.{and_parts, cases_Bool, false≢true}
use Rattle.std.proofs.lemmas.List.Elements.{filter-append}
use Rattle.std.proofs.lemmas.Slice.Eq.{bytes_eq-Decides}
use Rattle.std.specs.List.{filter}
use Rattle.std.specs.Str.{bytes_eq}
use Rattle.im_extensions.specs.Given.{is_given_by}
use Rattle.im_extensions.specs.Ids.{is_stanza_id}
use Rattle.im_forwarding.specs.Passed.{id_node, passed_elem}
use Rattle.im_messages.specs.Ids.{without_ids}
use Rattle.im_payload.specs.Names.{stanza_ids}
use Rattle.im_stanza.proofs.WrittenAttrs.{from_written, id_written, lang_written, to_written, type_written}
use Rattle.im_stanza.specs.Kinds.{message_type}
use Rattle.im_stanza.specs.Names.{client_ns, xml_ns}
use Rattle.im_stanza.specs.Stanzas.{attr_named}
use Rattle.im_stanza.specs.Views.{MessageView}
use Rattle.im_stanza.specs.Written.{message_elem, unless_empty}
use Rattle.xml_trees.proofs.TidyReads.{elements_of-joined, text_of-joined, text_of-text_node}
use Rattle.xml_trees.specs.Readers.{attr_of, elements_of, is_named, text_of}
use Rattle.xml_trees.specs.Tidied.{text_node, texts_joined}
use Rattle.xml_trees.specs.Trees.{Elem, Nodes, child, joined, name_of, namespace_of, no_nodes, nodes_of, text}

-- ---- a message as it is written

module _ (m : MessageView) where
  pub has_from : attr_named (codes "from") (message_elem m) ≡ m.from
  has_from = from_written m.from (unless_empty m.id) m.to (Some (message_type m.kind)) (unless_empty m.lang)

  pub has_to : attr_named (codes "to") (message_elem m) ≡ m.to
  has_to = to_written m.from (unless_empty m.id) m.to (Some (message_type m.kind)) (unless_empty m.lang)

  pub has_id : attr_named (codes "id") (message_elem m) ≡ unless_empty m.id
  has_id = id_written m.from (unless_empty m.id) m.to (Some (message_type m.kind)) (unless_empty m.lang)

  pub has_kind : attr_named (codes "type") (message_elem m) ≡ Some (message_type m.kind)
  has_kind = type_written m.from (unless_empty m.id) m.to (Some (message_type m.kind)) (unless_empty m.lang)

  pub has_lang : attr_of xml_ns (codes "lang") (message_elem m) ≡ unless_empty m.lang
  has_lang = lang_written m.from (unless_empty m.id) m.to (Some (message_type m.kind)) (unless_empty m.lang)

-- ---- what it contains

-- the texts
texts_left : (run : List ℕ) (ks : Nodes) → text_of (texts_joined run ks) ≡ run ++ text_of ks
texts_left run no_nodes = text_of-text_node run ∙ sym (append-nil run)
texts_left run (child e rest) = text_of-joined (text_node run) (child e (texts_joined [] rest)) ∙ ap (λ t. t ++ text_of (texts_joined [] rest)) (text_of-text_node run) ∙ ap (λ t. run ++ t) (texts_left [] rest)
texts_left run (text t rest) = texts_left (run ++ t) rest ∙ append_assoc run t (text_of rest)

text_by : (given : Bool) (e : Elem) (kept : Nodes) (t : List ℕ) → text_of kept ≡ t → text_of (cond given kept (child e kept)) ≡ t
text_by true e kept t is = is
text_by false e kept t is = is

kept_texts : (by : List ℕ) (ks : Nodes) → text_of (without_ids by ks) ≡ text_of ks
kept_texts by no_nodes = refl
kept_texts by (child e rest) = text_by (is_given_by by e) e (without_ids by rest) (text_of rest) (kept_texts by rest)
kept_texts by (text t rest) = ap (λ (x : List ℕ). t ++ x) (kept_texts by rest)

id_texts : (by : List ℕ) (number : Option ℕ) → text_of (id_node by number) ≡ []
id_texts by None = refl
id_texts by (Some number) = refl

pub passed_texts : (by : List ℕ) (number : Option ℕ) (m : MessageView) → text_of (nodes_of (passed_elem by number m)) ≡ text_of m.payload
passed_texts by number m =
    text_of-joined (texts_joined [] (without_ids by m.payload)) (id_node by number)
    ∙ ap (λ (x : List ℕ). text_of (texts_joined [] (without_ids by m.payload)) ++ x) (id_texts by number)
    ∙ append-nil (text_of (texts_joined [] (without_ids by m.payload)))
    ∙ texts_left [] (without_ids by m.payload)
    ∙ kept_texts by m.payload

-- the elements
after_text : (run : List ℕ) (more : Nodes) → elements_of (joined (text_node run) more) ≡ elements_of more
after_text [] more = refl
after_text (c ∷ cs) more = refl

no_elements : (run : List ℕ) → elements_of (text_node run) ≡ []
no_elements [] = refl
no_elements (c ∷ cs) = refl

elements_left : (run : List ℕ) (ks : Nodes) → elements_of (texts_joined run ks) ≡ elements_of ks
elements_left run no_nodes = no_elements run
elements_left run (child e rest) = after_text run (child e (texts_joined [] rest)) ∙ ap (λ (es : List Elem). e ∷ es) (elements_left [] rest)
elements_left run (text t rest) = elements_left (run ++ t) rest

elements_by : (given : Bool) (e : Elem) (kept : Nodes) (es : List Elem) → elements_of kept ≡ es → elements_of (cond given kept (child e kept)) ≡ cond (not given) (e ∷ es) es
elements_by true e kept es is = is
elements_by false e kept es is = ap (λ (xs : List Elem). e ∷ xs) is

kept_elements : (by : List ℕ) (ks : Nodes) → elements_of (without_ids by ks) ≡ filter (λ e. not (is_given_by by e)) (elements_of ks)
kept_elements by no_nodes = refl
kept_elements by (child e rest) = elements_by (is_given_by by e) e (without_ids by rest) (filter (λ x. not (is_given_by by x)) (elements_of rest)) (kept_elements by rest)
kept_elements by (text t rest) = kept_elements by rest

pub passed_elements : (by : List ℕ) (number : Option ℕ) (m : MessageView) → elements_of (nodes_of (passed_elem by number m)) ≡ filter (λ e. not (is_given_by by e)) (elements_of m.payload) ++ elements_of (id_node by number)
passed_elements by number m =
    elements_of-joined (texts_joined [] (without_ids by m.payload)) (id_node by number)
    ∙ ap (λ (es : List Elem). es ++ elements_of (id_node by number)) (elements_left [] (without_ids by m.payload) ∙ kept_elements by m.payload)

-- ---- the bodies

abbrev is_body : Elem → Bool
is_body e = is_named client_ns (codes "body") e

-- a body is of another namespace than an id
body_no_id : (e : Elem) → is_body e ≡ true → is_stanza_id e ≡ false
body_no_id e body =
    elim (cases_Bool (is_stanza_id e)) [
      | inl id ↦
          let first = (and_parts (bytes_eq (namespace_of e) client_ns) (bytes_eq (name_of e) (codes "body")) body).0 in
          let second = (and_parts (bytes_eq (namespace_of e) stanza_ids) (bytes_eq (name_of e) (codes "stanza-id")) id).0 in
          let one : namespace_of e ≡ client_ns = (bytes_eq-Decides (namespace_of e) client_ns).0 first in
          let other : namespace_of e ≡ stanza_ids = (bytes_eq-Decides (namespace_of e) stanza_ids).0 second in
          absurd (false≢true ((bytes_eq-Decides client_ns stanza_ids).1 (sym one ∙ other)))
      | inr no_id ↦ no_id
    ]

body_no_given : (by : List ℕ) (e : Elem) → is_body e ≡ true → is_given_by by e ≡ false
body_no_given by e body = rw (body_no_id e body) refl

bodies_kept : (by : List ℕ) (es : List Elem) → filter is_body (filter (λ e. not (is_given_by by e)) es) ≡ filter is_body es
bodies_kept by [] = refl
bodies_kept by (e ∷ es) =
    elim (cases_Bool (is_body e)) [
      | inl body ↦ rw (body_no_given by e body, body) (ap (λ (xs : List Elem). e ∷ xs) (bodies_kept by es))
      | inr other ↦ rw other (elim (cases_Bool (is_given_by by e)) [ inl given ↦ rw given (bodies_kept by es) | inr kept ↦ rw (kept, other) (bodies_kept by es) ])
    ]

id_no_body : (by : List ℕ) (number : Option ℕ) → filter is_body (elements_of (id_node by number)) ≡ []
id_no_body by None = refl
id_no_body by (Some number) = refl

pub passed_bodies : (by : List ℕ) (number : Option ℕ) (m : MessageView) → filter is_body (elements_of (nodes_of (passed_elem by number m))) ≡ filter is_body (elements_of m.payload)
passed_bodies by number m =
    ap (filter is_body) (passed_elements by number m)
    ∙ filter-append is_body (filter (λ e. not (is_given_by by e)) (elements_of m.payload)) (elements_of (id_node by number))
    ∙ ap (λ (es : List Elem). filter is_body (filter (λ e. not (is_given_by by e)) (elements_of m.payload)) ++ es) (id_no_body by number)
    ∙ append-nil (filter is_body (filter (λ e. not (is_given_by by e)) (elements_of m.payload)))
    ∙ bodies_kept by (elements_of m.payload)
