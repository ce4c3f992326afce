-- Open elements, each with the bytes that spell it so far.
use Rattle.std.proofs.Common.{◌≡◌, ℕ, true, false, List, [], ◌∷◌, ◌++◌, map, refl, sym, ap, subst, ◌∙◌, append_assoc, append-nil}
use Rattle.xml_tokens.specs.Tags as tokens
use Rattle.xml_tokens.specs.Tags.{IsTag, end_tag}
use Rattle.xml_names.specs.Grammar.{IsStart, IsWithin}
use Rattle.xml_names.specs.Scopes.{Scope}
use Rattle.xml_names.specs.Starts.{Tag}
use Rattle.xml_trees.proofs.AttributeOrder.{sorted_attributes_IsAttrsOf}
use Rattle.xml_trees.proofs.Folds.{joined_assoc}
use Rattle.xml_trees.specs.Attributes.{sorted_attributes}
use Rattle.xml_framer.specs.Expanded.{attribute_of}
use Rattle.law_xml.proofs.WithinParts.{ContentIn, SpellsIn, element_in, empty_in, filled_in, text_in}
use Rattle.xml_framer.specs.States.{OpenElement, with_more, with_text}
use Rattle.xml_framer.specs.TagSteps.{element_from, scope_in, tag_limits}
use Rattle.law_xml.specs.Texts.{IsText}
use Rattle.xml_trees.specs.Tidied.{text_node}
use Rattle.xml_framer.specs.declared.limits.Limits.{Limits}
use Rattle.xml_trees.specs.Trees.{Elem, element, Nodes, no_nodes, child, joined, with_nodes}

-- ---- content so far

-- content up to the end of a tag, and these nodes in it
abbrev pub IsContent : Limits → Scope → List ℕ → Nodes → Type 0
IsContent limits scope bytes kids = (rest : List ℕ) (more : Nodes) → ContentIn limits scope rest more → ContentIn limits scope (bytes ++ rest) (joined kids more)

-- content up to an element that has begun
abbrev pub IsContentBefore : Limits → Scope → List ℕ → Nodes → Type 0
IsContentBefore limits scope bytes kids =
    ((middle rest : List ℕ) (e : Elem) (more : Nodes) → SpellsIn limits scope middle e → ContentIn limits scope rest more → ContentIn limits scope (bytes ++ (middle ++ rest)) (joined kids (child e more)))
    × ContentIn limits scope bytes kids

content_as : (limits : Limits) (scope : Scope) (a b : List ℕ) (k l : Nodes) → a ≡ b → k ≡ l → ContentIn limits scope a k → ContentIn limits scope b l
content_as limits scope a b k l e f h = subst (ContentIn limits scope b) f (subst (λ x. ContentIn limits scope x k) e h)

module _ (limits : Limits) (scope : Scope) (bytes : List ℕ) (kids : Nodes) where
  pub text_ends : (front says : List ℕ) → IsContent limits scope bytes kids → IsText front says → ContentIn limits scope (bytes ++ front) (joined kids (text_node says))
  text_ends front says h t = h front (text_node says) (text_in limits scope front (text_node says) says t refl)

  pub text_before : (front says : List ℕ) → IsContent limits scope bytes kids → IsText front says → IsContentBefore limits scope (bytes ++ front) (joined kids (text_node says))
  text_before front says h t = (
    λ middle rest e more inner outer.
        content_as limits scope (bytes ++ (front ++ (middle ++ rest))) _ (joined kids (joined (text_node says) (child e more))) _
        (sym (append_assoc bytes front (middle ++ rest))) (sym (joined_assoc kids (text_node says) (child e more)))
        (h (front ++ (middle ++ rest)) (joined (text_node says) (child e more))
        (element_in limits scope _ _ front says middle rest e more t inner outer refl refl)),
    text_ends front says h t,
  )

  pub element_after : (middle : List ℕ) (e : Elem) → IsContentBefore limits scope bytes kids → SpellsIn limits scope middle e → IsContent limits scope (bytes ++ middle) (joined kids (child e no_nodes))
  element_after middle e h inner rest more outer =
      content_as limits scope (bytes ++ (middle ++ rest)) _ (joined kids (child e more)) _
      (sym (append_assoc bytes middle rest)) (sym (joined_assoc kids (child e no_nodes) more))
      (h.0 middle rest e more inner outer)

-- ---- an open element

-- an open element: its start tag, and content so far
pub record Level (limits : Limits) (IsInside : Scope → List ℕ → Nodes → Type 0) (outer own : Scope) (o : OpenElement) (bytes : List ℕ) : Type 0 where
  pub raw : List tokens.Attribute
  pub tag : Tag
  pub start : List ℕ
  pub inside : List ℕ
  pub kids : Nodes
  pub is_start : IsStart outer start raw tag
  pub tag_in : IsWithin (tag_limits limits) raw tag
  pub not_empty : tag.empty ≡ false
  pub name_is : tag.spelled ≡ o.spelled
  pub own_is : tag.bindings ≡ own
  pub element_is : o.element ≡ element tag.ns tag.name (sorted_attributes (map attribute_of tag.attributes)) kids
  pub content : IsInside (tag.bindings ++ outer) inside kids
  pub bytes_are : bytes ≡ start ++ inside

abbrev pub OpenLevel : Limits → Scope → Scope → OpenElement → List ℕ → Type 0
OpenLevel limits = Level limits (IsContent limits)

abbrev pub CoveredLevel : Limits → Scope → Scope → OpenElement → List ℕ → Type 0
CoveredLevel limits = Level limits (IsContentBefore limits)

-- a start tag begins a level
pub level_begun : (limits : Limits) (outer : Scope) (bytes : List ℕ) (raw : List tokens.Attribute) (t : Tag) → IsStart outer bytes raw t → IsWithin (tag_limits limits) raw t → t.empty ≡ false → OpenLevel limits outer t.bindings (record { spelled = t.spelled; element = element_from t }) bytes
level_begun limits outer bytes raw t h within e = record {
  raw = raw;
  tag = t;
  start = bytes;
  inside = [];
  kids = no_nodes;
  is_start = h;
  tag_in = within;
  not_empty = e;
  name_is = refl;
  own_is = refl;
  element_is = refl;
  content = λ rest more c. c;
  bytes_are = sym (append-nil bytes);
}

-- a text joins it before another begins
pub level_covered : (limits : Limits) (outer own : Scope) (o : OpenElement) (bytes front says : List ℕ) → OpenLevel limits outer own o bytes → IsText front says → CoveredLevel limits outer own (with_text o says) (bytes ++ front)
level_covered limits outer own o bytes front says h t = record {
  raw = h.raw;
  tag = h.tag;
  start = h.start;
  inside = h.inside ++ front;
  kids = joined h.kids (text_node says);
  is_start = h.is_start;
  tag_in = h.tag_in;
  not_empty = h.not_empty;
  name_is = h.name_is;
  own_is = h.own_is;
  element_is = ap (λ e. with_nodes e (text_node says)) h.element_is;
  content = text_before limits (h.tag.bindings ++ outer) h.inside h.kids front says h.content t;
  bytes_are = ap (λ l. l ++ front) h.bytes_are ∙ append_assoc h.start h.inside front;
}

-- an element inside is whole
pub level_resumed : (limits : Limits) (outer own : Scope) (o : OpenElement) (bytes middle : List ℕ) (e : Elem) → CoveredLevel limits outer own o bytes → SpellsIn limits (own ++ outer) middle e → OpenLevel limits outer own (with_more o (child e no_nodes)) (bytes ++ middle)
level_resumed limits outer own o bytes middle e h inner = record {
  raw = h.raw;
  tag = h.tag;
  start = h.start;
  inside = h.inside ++ middle;
  kids = joined h.kids (child e no_nodes);
  is_start = h.is_start;
  tag_in = h.tag_in;
  not_empty = h.not_empty;
  name_is = h.name_is;
  own_is = h.own_is;
  element_is = ap (λ f. with_nodes f (child e no_nodes)) h.element_is;
  content = element_after limits (h.tag.bindings ++ outer) h.inside h.kids middle e h.content (subst (λ s. SpellsIn limits (s ++ outer) middle e) (sym h.own_is) inner);
  bytes_are = ap (λ l. l ++ middle) h.bytes_are ∙ append_assoc h.start h.inside middle;
}

-- its end tag
pub level_closed : (limits : Limits) (outer own : Scope) (o : OpenElement) (bytes front says close : List ℕ) → OpenLevel limits outer own o bytes → IsText front says → IsTag close (end_tag o.spelled) → SpellsIn limits outer (bytes ++ (front ++ close)) (with_text o says).element
level_closed limits outer own o bytes front says close h t end =
    filled_in limits outer (bytes ++ (front ++ close)) (with_text o says).element h.raw h.tag h.start (h.inside ++ front) close (joined h.kids (text_node says))
    h.is_start h.tag_in h.not_empty (text_ends limits (h.tag.bindings ++ outer) h.inside h.kids front says h.content t) (subst (λ n. IsTag close (end_tag n)) (sym h.name_is) end)
    (ap (λ l. l ++ (front ++ close)) h.bytes_are ∙ simp (append_assoc))
    (record { attributes = sorted_attributes (map attribute_of h.tag.attributes); sorted = sorted_attributes_IsAttrsOf (map attribute_of h.tag.attributes); is = ap (λ e. with_nodes e (text_node says)) h.element_is })

-- an empty element
pub leaf_spelled : (limits : Limits) (outer : Scope) (bytes : List ℕ) (raw : List tokens.Attribute) (t : Tag) → IsStart outer bytes raw t → IsWithin (tag_limits limits) raw t → t.empty ≡ true → SpellsIn limits outer bytes (element_from t)
leaf_spelled limits outer bytes raw t h within e =
    empty_in limits outer bytes (element_from t) raw t h within e (record { attributes = sorted_attributes (map attribute_of t.attributes); sorted = sorted_attributes_IsAttrsOf (map attribute_of t.attributes); is = refl })

-- ---- all open elements

-- the covered levels, the innermost first, down to the scopes that the header leaves
abbrev pub AreCovered : Limits → List Scope → List Scope → List OpenElement → List ℕ → Type 0
AreCovered limits base scopes [] bytes = (scopes ≡ base) × (bytes ≡ [])
AreCovered limits base [] (o ∷ os) bytes = ⊥
AreCovered limits base (own ∷ scopes) (o ∷ os) bytes =
    (outer : List ℕ) × (level : List ℕ) × AreCovered limits base scopes os outer × CoveredLevel limits (scope_in scopes) own o level × (bytes ≡ outer ++ level)
