-- Elements within bounds, put together of what they contain.
use Rattle.std.proofs.Common.{◌≡◌, ◌≢◌, ℕ, ◌+◌, ◌*◌, ◌≤◌, Bool, true, false, not, ◌&&◌, List, [], ◌∷◌, ◌++◌, length, codes, Option, Some, None, IfSome, bytes_eq, refl, sym, arith, length-append, subst, ◌⊎◌, inl, inr, ⊎_elim}
use Rattle.std.proofs.lemmas.Bool.{and_parts, false≢true, leb-true}
use Rattle.std.proofs.lemmas.Slice.Eq.{bytes_eq-Decides}
use Rattle.std.specs.List.{AllByRecursion, list_all}
use Rattle.std.specs.List.Sorted.{IsStrictlySortedBy}
use Rattle.std.specs.Prelude.{nat_le}
use Rattle.xml_names.proofs.SpelledLengths.{text_short, value_short}
use Rattle.xml_names.specs.Scopes.{xml_namespace, xmlns_namespace}
use Rattle.xml_names.specs.declared.limits.TagLimits.{TagLimits}
use Rattle.xml_tokens.specs.Characters.{is_named}
use Rattle.xml_tokens.specs.Lines.{IsCharacters}
use Rattle.xml_tokens.specs.Spelling.{spelled_text}
use Rattle.xml_trees.proofs.AttributeOrder.{sorted_attributes_IsAttrsOf}
use Rattle.xml_trees.specs.Attributes.{Attribute, attribute, name_order, sorted_attributes}
use Rattle.xml_trees.specs.Tidied.{text_node}
use Rattle.xml_trees.specs.Trees.{AreTidy, Elem, IsTree, Nodes, child, depth, depth_below, element, no_nodes}
use Rattle.xml_writer.specs.Canon.{after_attributes, default_inside, has_nothing, opened, spelled_name, tag_attributes, written, written_end_tag, written_nodes, assignments}
use Rattle.im_stanza.specs.Written.{attr_where}
use Rattle.law_limits.specs.Bounds.{IsTextWithin}
use Rattle.law_xml.specs.Fitting.{IsShortAttribute, NodesFit, TagFits, TagsFit}
use Rattle.law_xml.specs.Plain.{ArePlainNodes, HasPlainName, IsPlainAttribute, IsPlainElement, IsPlainName}
use Rattle.law_limits.proofs.Ascii.{is_printable, printable_IsCharacters}
use Rattle.law_limits.proofs.Spelled.{attributes_cost, is_calm, name_short, tag_short}

-- the limits of a server's framer on a tag
abbrev pub room : TagLimits
room = record { attributes = 64; namespace_bytes = 255 }

-- ---- names

abbrev pub is_word : List ℕ → Bool
is_word name = list_all is_printable name && is_named name

abbrev pub is_tag : List ℕ → List ℕ → Bool
is_tag ns name = (list_all is_printable ns && nat_le (length ns) 42) && (not (bytes_eq ns xmlns_namespace) && is_word name)

-- the name of an attribute without a namespace, or of the XML namespace
abbrev pub is_key : List ℕ → List ℕ → Bool
is_key ns name = is_calm ns && (not (bytes_eq name (codes "xmlns")) && is_word name)

word : (name : List ℕ) → is_word name ≡ true → IsPlainName name
word name h =
    let p = and_parts (list_all is_printable name) (is_named name) h in
    let c = printable_IsCharacters name p.0 in
    record { characters = c; is_name = rw (p.1, c.characters) refl }

pub differ : (xs ys : List ℕ) → not (bytes_eq xs ys) ≡ true → xs ≢ ys
differ xs ys h same = other (bytes_eq xs ys) h ((bytes_eq-Decides xs ys).1 same)
  where
    other : (b : Bool) → not b ≡ true → b ≡ true → ⊥
    other true h is = false≢true h
    other false h is = false≢true is

record IsNamedSo (ns name : List ℕ) : Type 0 where
  plain : HasPlainName ns name
  short : length ns ≤ 42

tag : (ns name : List ℕ) → is_tag ns name ≡ true → IsNamedSo ns name
tag ns name h =
    let p = and_parts (list_all is_printable ns && nat_le (length ns) 42) (not (bytes_eq ns xmlns_namespace) && is_word name) h in
    let q = and_parts (list_all is_printable ns) (nat_le (length ns) 42) p.0 in
    let r = and_parts (not (bytes_eq ns xmlns_namespace)) (is_word name) p.1 in
    record {
      plain = record { characters = printable_IsCharacters ns q.0; name_is = word name r.1; not_xmlns = differ ns xmlns_namespace r.0 };
      short = leb-true (length ns) 42 q.1;
    }

-- ---- attributes

pub record IsCalm (a : Attribute) : Type 0 where
  pub key : is_key a.ns a.name ≡ true
  pub value : IsCharacters a.value

calm_ns : (a : Attribute) → IsCalm a → is_calm a.ns ≡ true
calm_ns a h = (and_parts (is_calm a.ns) _ h.key).0

calm_cases : (ns : List ℕ) → is_calm ns ≡ true → (ns ≡ []) ⊎ (ns ≡ xml_namespace)
calm_cases [] h = inl refl
calm_cases (c ∷ cs) h = inr ((bytes_eq-Decides (c ∷ cs) xml_namespace).0 h)

plain_attribute : (a : Attribute) → IsCalm a → IsPlainAttribute a
plain_attribute a h = record {
  ns = ⊎_elim (λ e. subst IsCharacters (sym e) (printable_IsCharacters [] refl)) (λ e. subst IsCharacters (sym e) (printable_IsCharacters xml_namespace refl)) which;
  name = word a.name q.1;
  value = h.value;
  not_xmlns = ⊎_elim (λ e. subst (λ ns. ns ≢ xmlns_namespace) (sym e) (differ [] xmlns_namespace refl)) (λ e. subst (λ ns. ns ≢ xmlns_namespace) (sym e) (differ xml_namespace xmlns_namespace refl)) which;
  no_declaration = λ e. differ a.name (codes "xmlns") q.0;
}
  where
    which : (a.ns ≡ []) ⊎ (a.ns ≡ xml_namespace)
    which = calm_cases a.ns (calm_ns a h)

    q : (not (bytes_eq a.name (codes "xmlns")) ≡ true) × (is_word a.name ≡ true)
    q = and_parts (not (bytes_eq a.name (codes "xmlns"))) (is_word a.name) (and_parts (is_calm a.ns) _ h.key).1

none_foreign : (a : Attribute) → IsCalm a → IsShortAttribute room a
none_foreign a h foreign = absurd (other (is_calm a.ns) (calm_ns a h) foreign)
  where
    other : (b : Bool) → b ≡ true → not b ≡ true → ⊥
    other true is no_calm = false≢true no_calm
    other false is no_calm = false≢true is

all_plain : (attrs : List Attribute) → AllByRecursion IsCalm attrs → AllByRecursion IsPlainAttribute attrs
all_plain [] h = tt
all_plain (a ∷ more) h = (plain_attribute a h.0, all_plain more h.1)

all_short : (attrs : List Attribute) → AllByRecursion IsCalm attrs → AllByRecursion (IsShortAttribute room) attrs
all_short [] h = tt
all_short (a ∷ more) h = (none_foreign a h.0, all_short more h.1)

all_calm : (attrs : List Attribute) → AllByRecursion IsCalm attrs → AllByRecursion (λ (a : Attribute). is_calm a.ns ≡ true) attrs
all_calm [] h = tt
all_calm (a ∷ more) h = (calm_ns a h.0, all_calm more h.1)

-- so many attributes at most, which take so many bytes at most as they are written
pub record AreSmallAttributes (attrs : List Attribute) (most count : ℕ) : Type 0 where
  pub calm : AllByRecursion IsCalm attrs
  pub within : attributes_cost attrs ≤ most
  pub few : length attrs ≤ count

pub no_attributes : AreSmallAttributes [] 0 0
no_attributes = record { calm = tt; within = omega arith; few = omega arith }

pub one_attribute : (ns name value : List ℕ) (most : ℕ) → is_key ns name ≡ true → IsTextWithin most value → AreSmallAttributes (attribute ns name value ∷ []) (8 + length name + 6 * most) 1
one_attribute ns name value most key h =
    let short = h.short in
    record { calm = (record { key = key; value = h.characters }, tt); within = omega (arith, short); few = omega arith }

pub attribute_where : (ns name : List ℕ) (given : Option (List ℕ)) (most : ℕ) → is_key ns name ≡ true → IfSome given (IsTextWithin most) → AreSmallAttributes (attr_where ns name given) (8 + length name + 6 * most) 1
attribute_where ns name None most key h = record { calm = tt; within = omega arith; few = omega arith }
attribute_where ns name (Some value) most key h = one_attribute ns name value most key h

all_appended : (xs ys : List Attribute) → AllByRecursion IsCalm xs → AllByRecursion IsCalm ys → AllByRecursion IsCalm (xs ++ ys)
all_appended [] ys h k = k
all_appended (x ∷ xs) ys h k = (h.0, all_appended xs ys h.1 k)

cost_appended : (xs ys : List Attribute) → attributes_cost (xs ++ ys) ≡ attributes_cost xs + attributes_cost ys
cost_appended [] ys = omega arith
cost_appended (x ∷ xs) ys = omega (arith, cost_appended xs ys)

pub more_attributes : (xs ys : List Attribute) (m n c d : ℕ) → AreSmallAttributes xs m c → AreSmallAttributes ys n d → AreSmallAttributes (xs ++ ys) (m + n) (c + d)
more_attributes xs ys m n c d h k =
    let within_xs = h.within in
    let within_ys = k.within in
    let few_xs = h.few in
    let few_ys = k.few in
    record { calm = all_appended xs ys h.calm k.calm; within = omega (arith, cost_appended xs ys, within_xs, within_ys); few = omega (arith, length-append xs ys, few_xs, few_ys) }

-- ---- elements

-- As it is written, wherever it stands, it takes at most so many bytes, and is at most so deep.
pub record IsSmall (e : Elem) (most deep : ℕ) : Type 0 where
  pub tree : IsTree e
  pub plain : IsPlainElement e
  pub short : (default : List ℕ) → length (written default e) ≤ most
  pub shallow : depth e ≤ deep
  pub tags : (default : List ℕ) → TagsFit room default e

pub record AreSmall (ks : Nodes) (most deep : ℕ) : Type 0 where
  pub tidy : AreTidy ks
  pub plain : ArePlainNodes ks
  pub short : (default : List ℕ) → length (written_nodes default ks) ≤ most
  pub shallow : depth_below ks ≤ deep
  pub tags : (default : List ℕ) → NodesFit room default ks

pub none_small : (deep : ℕ) → AreSmall no_nodes 0 deep
none_small deep = record { tidy = tt; plain = tt; short = λ default. omega arith; shallow = omega arith; tags = λ default. tt }

pub text_small : (t : List ℕ) (most : ℕ) → IsTextWithin most t → AreSmall (text_node t) (5 * most) 0
text_small [] most h = record { tidy = tt; plain = tt; short = λ default. omega arith; shallow = omega arith; tags = λ default. tt }
text_small (c ∷ cs) most h =
    let short = h.short in
    record {
      tidy = ((λ e. absurd cc), tt, tt);
      plain = (h.characters, tt);
      short = λ default. omega (arith, length-append (spelled_text (c ∷ cs)) [], text_short (c ∷ cs), short);
      shallow = omega arith;
      tags = λ default. tt;
    }

pub child_small : (e : Elem) (rest : Nodes) (m n d : ℕ) → IsSmall e m d → AreSmall rest n d → AreSmall (child e rest) (m + n) d
child_small e rest m n d one others = record {
  tidy = (one.tree, others.tidy);
  plain = (one.plain, others.plain);
  short = λ default. omega (arith, length-append (written default e) (written_nodes default rest), one.short default, others.short default);
  shallow = omega (arith, one.shallow, others.shallow);
  tags = λ default. (one.tags default, others.tags default);
}

pub wider : (e : Elem) (m n d k : ℕ) → m ≤ n → d ≤ k → IsSmall e m d → IsSmall e n k
wider e m n d k more deep h = record { tree = h.tree; plain = h.plain; short = λ default. omega (arith, h.short default, more); shallow = omega (arith, h.shallow, deep); tags = h.tags }

pub wider_nodes : (ks : Nodes) (m n d k : ℕ) → m ≤ n → d ≤ k → AreSmall ks m d → AreSmall ks n k
wider_nodes ks m n d k more deep h = record { tidy = h.tidy; plain = h.plain; short = λ default. omega (arith, h.short default, more); shallow = omega (arith, h.shallow, deep); tags = h.tags }

end_long : (ns name inside : List ℕ) (nothing : Bool) (most : ℕ) → length inside ≤ most → length (after_attributes nothing ns name inside) ≤ 12 + length name + most
end_long ns name inside true most short = omega arith
end_long ns name inside false most short =
    let n = spelled_name ns name in
    omega (arith, length-append inside (written_end_tag ns name), length-append n (62 ∷ []), name_short ns name, short)

module _ (ns name : List ℕ) (attrs : List Attribute) (kids : Nodes) (cost most deep : ℕ) (named : is_tag ns name ≡ true) (ascending : sorted_attributes attrs ≡ attrs)
    (few : AreSmallAttributes attrs cost 16) (inside : AreSmall kids most deep) where
  written_short : (default : List ℕ) → length (written default (element ns name attrs kids)) ≤ 30 + 2 * length name + 6 * length ns + cost + most
  written_short default =
      let l = tag_attributes default ns attrs in
      let t = tag_short default ns attrs (all_calm attrs few.calm) in
      let body = written_nodes (default_inside default ns) kids in
      let within = few.within in
      omega (
        arith,
        length-append (opened default ns name attrs) (after_attributes (has_nothing kids) ns name body),
        length-append (spelled_name ns name) (assignments l),
        name_short ns name,
        t.bytes,
        within,
        end_long ns name body (has_nothing kids) most (inside.short (default_inside default ns)),
      )

  tag_fits : (default : List ℕ) → TagFits room default ns attrs
  tag_fits default =
      let t = tag_short default ns attrs (all_calm attrs few.calm) in
      let so = tag ns name named in
      record { attributes = omega (arith, t.count, few.few); declared = λ d. omega (arith, value_short ns, so.short); prefixed = all_short attrs few.calm }

  -- with what surrounds it
  pub element_small : IsSmall (element ns name attrs kids) (30 + 2 * length name + 6 * length ns + cost + most) (deep + 1)
  element_small = record {
    tree = (subst (IsStrictlySortedBy name_order) ascending (sorted_attributes_IsAttrsOf attrs).ascending, inside.tidy);
    plain = ((tag ns name named).plain, all_plain attrs few.calm, inside.plain);
    short = written_short;
    shallow = omega (arith, inside.shallow);
    tags = λ default. (tag_fits default, inside.tags (default_inside default ns));
  }

pub fewer : (attrs : List Attribute) (m n c d : ℕ) → m ≤ n → c ≤ d → AreSmallAttributes attrs m c → AreSmallAttributes attrs n d
fewer attrs m n c d more count h = record { calm = h.calm; within = omega (arith, h.within, more); few = omega (arith, h.few, count) }

-- an element without attributes, and one that contains nothing besides
pub bare_small : (ns name : List ℕ) (kids : Nodes) (most deep : ℕ) → is_tag ns name ≡ true → AreSmall kids most deep → IsSmall (element ns name [] kids) (30 + 2 * length name + 6 * length ns + 0 + most) (deep + 1)
bare_small ns name kids most deep named inside = element_small ns name [] kids 0 most deep named refl (fewer [] 0 0 0 16 (omega arith) (omega arith) no_attributes) inside

pub only_child : (e : Elem) (most deep : ℕ) → IsSmall e most deep → AreSmall (child e no_nodes) (most + 0) deep
only_child e most deep h = child_small e no_nodes most 0 deep h (none_small deep)
