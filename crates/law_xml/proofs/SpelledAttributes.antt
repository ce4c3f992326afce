-- The attributes that a tag is written with: they are xs the grammar has them, and bind and say what is due.
use Rattle.std.proofs.Common.{◌≡◌, ◌≢◌, ℕ, ◌+◌, ◌≤◌, ◌⊎◌, inl, inr, true, false, List, [], ◌∷◌, ◌++◌, map, codes, bytes_eq, Some, None, Less, is_eq, refl, sym, ap, subst, ◌∙◌, arith, ⊎_elim, append_assoc}
use Rattle.std.proofs.lemmas.Bool.{cases_Bool, and_from, false≢true, false_from_ne_true, cond-true, cond-false}
use Rattle.std.proofs.lemmas.List.Elements.{All-from_recursion}
use Rattle.std.proofs.lemmas.List.Kept.{AllPairs-cons}
use Rattle.std.proofs.lemmas.Slice.Eq.{bytes_eq-Decides}
use Rattle.std.specs.List.{AllByRecursion, AllPairs, AllZip}
use Rattle.std.specs.List.Sorted.{IsStrictlySortedBy}
use Rattle.xml_tokens.specs.Tags as tokens
use Rattle.xml_tokens.specs.Tags.{is_empty, is_qualified, names_of}
use Rattle.xml_names.proofs.NameLaws.{parts_of}
use Rattle.xml_names.specs.Declarations.{MayDeclare, bindings_of, others_of, declared_prefix, with_binding, unless_binding}
use Rattle.xml_names.specs.Grammar.{IsExpanded}
use Rattle.xml_names.specs.Names.{IsName, prefix_of, local_of}
use Rattle.xml_names.specs.Scopes.{Scope, bound, first_bound, xml_namespace}
use Rattle.xml_names.specs.declared.expansion.ExpandedAttribute.{ExpandedAttribute}
use Rattle.xml_trees.specs.Attributes.{Attribute, name_order}
use Rattle.xml_writer.specs.Canon.{next_number, spelled, spelled_attribute, spelled_attributes}
use Rattle.law_xml.specs.Plain.{IsPlainAttribute}
use Rattle.law_xml.specs.Spells.{bind}
use Rattle.xml_tokens.specs.Lines.{IsCharacters}
use Rattle.xml_trees.proofs.AttributeOrder.{has_name-order}
use Rattle.law_xml.proofs.SpelledNames.{apart_by_local, apart_by_prefix, name_no_colon, name_qualified, numbered_differ, numbered_plain, numbered_prefix, prefixed_qualified, xml_plain, xmlns_plain}
use Rattle.base_lemmas.proofs.Bytes.{other-from_bytes_eq}
use Rattle.xml_tokens.proofs.TagWords.{none-from_is_empty as empty_is, some-from_is_empty as some_is}

-- ---- attribute by attribute

abbrev pub declaration : ℕ → Attribute → tokens.Attribute
declaration n a = spelled (codes "xmlns:" ++ numbered_prefix n) a.ns

abbrev pub prefixed : ℕ → Attribute → tokens.Attribute
prefixed n a = spelled (numbered_prefix n ++ (58 ∷ a.name)) a.value

no_namespace : (n : ℕ) (a : Attribute) (more : List Attribute) → is_empty a.ns ≡ true → spelled_attributes n (a ∷ more) ≡ spelled a.name a.value ∷ spelled_attributes n more
unfolding spelled_attribute next_number
no_namespace n a more e = rw e refl

xml_attribute : (n : ℕ) (a : Attribute) (more : List Attribute) → is_empty a.ns ≡ false → bytes_eq a.ns xml_namespace ≡ true
    → spelled_attributes n (a ∷ more) ≡ spelled (codes "xml:" ++ a.name) a.value ∷ spelled_attributes n more
unfolding spelled_attribute next_number
xml_attribute n a more e x = rw (e, x) refl

foreign_attribute : (n : ℕ) (a : Attribute) (more : List Attribute) → is_empty a.ns ≡ false → bytes_eq a.ns xml_namespace ≡ false
    → spelled_attributes n (a ∷ more) ≡ declaration n a ∷ prefixed n a ∷ spelled_attributes (n + 1) more
unfolding spelled_attribute next_number
foreign_attribute n a more e x = rw (e, x) refl

pub by_attributes : (P : ℕ → List Attribute → List tokens.Attribute → Type 0)
    → ((n : ℕ) → P n [] [])
    → ((n : ℕ) (a : Attribute) (more : List Attribute) (xs : List tokens.Attribute) → a.ns ≡ [] → P n more xs → P n (a ∷ more) (spelled a.name a.value ∷ xs))
    → ((n : ℕ) (a : Attribute) (more : List Attribute) (xs : List tokens.Attribute) → a.ns ≡ xml_namespace → P n more xs → P n (a ∷ more) (spelled (codes "xml:" ++ a.name) a.value ∷ xs))
    → ((n : ℕ) (a : Attribute) (more : List Attribute) (xs : List tokens.Attribute) → a.ns ≢ [] → a.ns ≢ xml_namespace → P (n + 1) more xs → P n (a ∷ more) (declaration n a ∷ prefixed n a ∷ xs))
    → (n : ℕ) (attrs : List Attribute) → P n attrs (spelled_attributes n attrs)
by_attributes P done none xml foreign n [] = done n
by_attributes P done none xml foreign n (a ∷ more) =
    ⊎_elim
    (λ (e : is_empty a.ns ≡ true).
    subst (P n (a ∷ more)) (sym (no_namespace n a more e)) (none n a more (spelled_attributes n more) (empty_is a.ns e) (by_attributes P done none xml foreign n more)))
    (λ (e : is_empty a.ns ≡ false).
    ⊎_elim
    (λ (x : bytes_eq a.ns xml_namespace ≡ true).
    subst (P n (a ∷ more)) (sym (xml_attribute n a more e x))
    (xml n a more (spelled_attributes n more) ((bytes_eq-Decides a.ns xml_namespace).0 x) (by_attributes P done none xml foreign n more)))
    (λ (x : bytes_eq a.ns xml_namespace ≡ false).
    subst (P n (a ∷ more)) (sym (foreign_attribute n a more e x))
    (foreign n a more (spelled_attributes (n + 1) more) (some_is a.ns e) (other-from_bytes_eq a.ns xml_namespace x) (by_attributes P done none xml foreign (n + 1) more)))
    (cases_Bool (bytes_eq a.ns xml_namespace)))
    (cases_Bool (is_empty a.ns))

-- ---- each can be read

pub record Bounded (a : tokens.Attribute) : Type 0 where
  pub name : is_qualified a.name ≡ true
  pub value : IsCharacters a.value

abbrev pub ArePlain : List Attribute → Type 0
ArePlain attrs = AllByRecursion IsPlainAttribute attrs

pub all_bounded : (n : ℕ) (attrs : List Attribute) → ArePlain attrs → AllByRecursion Bounded (spelled_attributes n attrs)
all_bounded n attrs = by_attributes (λ n attrs xs. ArePlain attrs → AllByRecursion Bounded xs)
    (λ n h. tt)
    (λ n a more xs e ih h. (record { name = name_qualified a.name h.0.name; value = h.0.value }, ih h.1))
    (λ n a more xs e ih h. (record { name = prefixed_qualified (codes "xml") a.name xml_plain h.0.name; value = h.0.value }, ih h.1))
    (λ n a more xs e x ih h. (
      record { name = prefixed_qualified (codes "xmlns") (numbered_prefix n) xmlns_plain (numbered_plain n); value = h.0.ns },
      (record { name = prefixed_qualified (numbered_prefix n) a.name (numbered_plain n) h.0.name; value = h.0.value }, ih h.1),
    ))
    n attrs

-- ---- no name comes twice

abbrev pub Of : Attribute → List Attribute → Type 0
Of a [] = ⊥
Of a (b ∷ bs) = (a ≡ b) ⊎ Of a bs

at_each : (Q : Attribute → Type 0) (a : Attribute) (bs : List Attribute) → AllByRecursion Q bs → Of a bs → Q a
at_each Q a [] h m = absurd m
at_each Q a (b ∷ bs) h (inl e) = subst Q (sym e) h.0
at_each Q a (b ∷ bs) h (inr m) = at_each Q a bs h.1 m

-- how a name is spelled, of attributes from a number on
pub data Shape (n : ℕ) (attrs : List Attribute) (x : List ℕ) : Type 0 where
  of_none : (a : Attribute) → Of a attrs → a.ns ≡ [] → IsName x [] a.name → Shape n attrs x
  of_xml : (a : Attribute) → Of a attrs → a.ns ≡ xml_namespace → IsName x (codes "xml") a.name → Shape n attrs x
  declares : (m : ℕ) → n ≤ m → IsName x (codes "xmlns") (numbered_prefix m) → Shape n attrs x
  numbered : (m : ℕ) (local : List ℕ) → n ≤ m → IsName x (numbered_prefix m) local → Shape n attrs x

wider : (n m : ℕ) (a : Attribute) (more : List Attribute) (x : List ℕ) → n ≤ m → Shape m more x → Shape n (a ∷ more) x
wider n m a more x h (of_none b o e is) = of_none b (inr o) e is
wider n m a more x h (of_xml b o e is) = of_xml b (inr o) e is
wider n m a more x h (declares k le is) = declares k (omega (arith, h, le)) is
wider n m a more x h (numbered k l le is) = numbered k l (omega (arith, h, le)) is

pub each : {A : Type 0} (P Q : A → Type 0) → ((x : A) → P x → Q x) → (xs : List A) → AllByRecursion P xs → AllByRecursion Q xs
each P Q f [] h = tt
each P Q f (x ∷ xs) h = (f x h.0, each P Q f xs h.1)

unprefixed : (a : Attribute) → IsPlainAttribute a → IsName a.name [] a.name
unprefixed a h = inr (refl, refl, name_no_colon a.name h.name.is_name)

xml_name : (l : List ℕ) → IsName (codes "xml:" ++ l) (codes "xml") l
xml_name l = inl (refl, refl)

xmlns_name : (l : List ℕ) → IsName (codes "xmlns:" ++ l) (codes "xmlns") l
xmlns_name l = inl (refl, refl)

numbered_name : (n : ℕ) (l : List ℕ) → IsName (numbered_prefix n ++ (58 ∷ l)) (numbered_prefix n) l
numbered_name n l = inl (refl, name_no_colon (numbered_prefix n) (numbered_plain n).is_name)

pub shapes : (n : ℕ) (attrs : List Attribute) → ArePlain attrs → AllByRecursion (Shape n attrs) (names_of (spelled_attributes n attrs))
shapes n attrs = by_attributes (λ n attrs xs. ArePlain attrs → AllByRecursion (Shape n attrs) (names_of xs))
    (λ n h. tt)
    (λ n a more xs e ih h. (of_none a (inl refl) e (unprefixed a h.0), each (Shape n more) (Shape n (a ∷ more)) (λ x. wider n n a more x (omega arith)) (names_of xs) (ih h.1)))
    (λ n a more xs e ih h. (of_xml a (inl refl) e (xml_name a.name), each (Shape n more) (Shape n (a ∷ more)) (λ x. wider n n a more x (omega arith)) (names_of xs) (ih h.1)))
    (λ n a more xs e x ih h. (
      declares n (omega arith) (xmlns_name (numbered_prefix n)),
      (numbered n a.name (omega arith) (numbered_name n a.name), each (Shape (n + 1) more) (Shape n (a ∷ more)) (λ x. wider n (n + 1) a more x (omega arith)) (names_of xs) (ih h.1)),
    ))
    n attrs

pub name_differs : (a b : Attribute) → name_order a b ≡ Less → a.ns ≡ b.ns → a.name ≢ b.name
name_differs a b less same e =
    false≢true (sym (has_name-order b.ns b.name a ∙ ap is_eq less) ∙ and_from _ _ ((bytes_eq-Decides a.ns b.ns).1 same) ((bytes_eq-Decides a.name b.name).1 e))

abbrev pub Above : Attribute → List Attribute → Type 0
Above a more = AllByRecursion (λ b. name_order a b ≡ Less) more

none_apart : (n : ℕ) (a : Attribute) (more : List Attribute) (x y : List ℕ) → Above a more → a.ns ≡ [] → IsName x [] a.name → Shape n more y → x ≢ y
none_apart n a more x y above e is (of_none b o f js) =
    apart_by_local x y [] [] a.name b.name is js (name_differs a b (at_each (λ b. name_order a b ≡ Less) b more above o) (e ∙ sym f))
none_apart n a more x y above e is (of_xml b o f js) = apart_by_prefix x y [] (codes "xml") a.name b.name is js (other-from_bytes_eq [] (codes "xml") refl)
none_apart n a more x y above e is (declares m le js) = apart_by_prefix x y [] (codes "xmlns") a.name (numbered_prefix m) is js (other-from_bytes_eq [] (codes "xmlns") refl)
none_apart n a more x y above e is (numbered m l le js) = apart_by_prefix x y [] (numbered_prefix m) a.name l is js (other-from_bytes_eq [] (numbered_prefix m) refl)

xml_apart : (n : ℕ) (a : Attribute) (more : List Attribute) (x y : List ℕ) → Above a more → a.ns ≡ xml_namespace → IsName x (codes "xml") a.name → Shape n more y → x ≢ y
xml_apart n a more x y above e is (of_none b o f js) = apart_by_prefix x y (codes "xml") [] a.name b.name is js (other-from_bytes_eq (codes "xml") [] refl)
xml_apart n a more x y above e is (of_xml b o f js) =
    apart_by_local x y (codes "xml") (codes "xml") a.name b.name is js (name_differs a b (at_each (λ b. name_order a b ≡ Less) b more above o) (e ∙ sym f))
xml_apart n a more x y above e is (declares m le js) = apart_by_prefix x y (codes "xml") (codes "xmlns") a.name (numbered_prefix m) is js (other-from_bytes_eq (codes "xml") (codes "xmlns") refl)
xml_apart n a more x y above e is (numbered m l le js) = apart_by_prefix x y (codes "xml") (numbered_prefix m) a.name l is js (other-from_bytes_eq (codes "xml") (numbered_prefix m) refl)

declared_apart : (n : ℕ) (more : List Attribute) (x y : List ℕ) → IsName x (codes "xmlns") (numbered_prefix n) → Shape (n + 1) more y → x ≢ y
declared_apart n more x y is (of_none b o f js) = apart_by_prefix x y (codes "xmlns") [] (numbered_prefix n) b.name is js (other-from_bytes_eq (codes "xmlns") [] refl)
declared_apart n more x y is (of_xml b o f js) = apart_by_prefix x y (codes "xmlns") (codes "xml") (numbered_prefix n) b.name is js (other-from_bytes_eq (codes "xmlns") (codes "xml") refl)
declared_apart n more x y is (declares m le js) =
    apart_by_local x y (codes "xmlns") (codes "xmlns") (numbered_prefix n) (numbered_prefix m) is js (numbered_differ n m (λ same. omega (arith, same, le)))
declared_apart n more x y is (numbered m l le js) = apart_by_prefix x y (codes "xmlns") (numbered_prefix m) (numbered_prefix n) l is js (other-from_bytes_eq (codes "xmlns") (numbered_prefix m) refl)

numbered_apart : (n : ℕ) (more : List Attribute) (x y l : List ℕ) → IsName x (numbered_prefix n) l → Shape (n + 1) more y → x ≢ y
numbered_apart n more x y l is (of_none b o f js) = apart_by_prefix x y (numbered_prefix n) [] l b.name is js (other-from_bytes_eq (numbered_prefix n) [] refl)
numbered_apart n more x y l is (of_xml b o f js) = apart_by_prefix x y (numbered_prefix n) (codes "xml") l b.name is js (other-from_bytes_eq (numbered_prefix n) (codes "xml") refl)
numbered_apart n more x y l is (declares m le js) = apart_by_prefix x y (numbered_prefix n) (codes "xmlns") l (numbered_prefix m) is js (other-from_bytes_eq (numbered_prefix n) (codes "xmlns") refl)
numbered_apart n more x y l is (numbered m k le js) = apart_by_prefix x y (numbered_prefix n) (numbered_prefix m) l k is js (numbered_differ n m (λ same. omega (arith, same, le)))

abbrev pub Apart : List (List ℕ) → Type 0
Apart names = AllPairs (λ a b. a ≢ b) names

first_apart : (x : List ℕ) (names : List (List ℕ)) → AllByRecursion (λ y. x ≢ y) names → Apart names → Apart (x ∷ names)
first_apart x names h rest = AllPairs-cons (λ a b. a ≢ b) x names (All-from_recursion (λ y. x ≢ y) names h) rest

record Named (n : ℕ) (attrs : List Attribute) (xs : List tokens.Attribute) : Type 0 where
  shaped : AllByRecursion (Shape n attrs) (names_of xs)
  apart : IsStrictlySortedBy name_order attrs → Apart (names_of xs)

pub nothing_apart : Apart []
nothing_apart i j d less within = absurd (omega (arith, within))

all_named : (n : ℕ) (attrs : List Attribute) → ArePlain attrs → Named n attrs (spelled_attributes n attrs)
unfolding IsStrictlySortedBy
all_named n attrs = by_attributes (λ n attrs xs. ArePlain attrs → Named n attrs xs)
    (λ n h. record { shaped = tt; apart = λ s. nothing_apart })
    (λ n a more xs e ih h.
    let was = ih h.1 in
    record {
      shaped = (of_none a (inl refl) e (unprefixed a h.0), each (Shape n more) (Shape n (a ∷ more)) (λ x. wider n n a more x (omega arith)) (names_of xs) was.shaped);
      apart = λ s. first_apart a.name (names_of xs) (each (Shape n more) (λ y. a.name ≢ y) (λ y. none_apart n a more a.name y s.0 e (unprefixed a h.0)) (names_of xs) was.shaped) (was.apart s.1);
    })
    (λ n a more xs e ih h.
    let was = ih h.1 in
    let x = codes "xml:" ++ a.name in
    record {
      shaped = (of_xml a (inl refl) e (xml_name a.name), each (Shape n more) (Shape n (a ∷ more)) (λ x. wider n n a more x (omega arith)) (names_of xs) was.shaped);
      apart = λ s. first_apart x (names_of xs) (each (Shape n more) (λ y. x ≢ y) (λ y. xml_apart n a more x y s.0 e (xml_name a.name)) (names_of xs) was.shaped) (was.apart s.1);
    })
    (λ n a more xs e o ih h.
    let was = ih h.1 in
    let x = codes "xmlns:" ++ numbered_prefix n in
    let z = numbered_prefix n ++ (58 ∷ a.name) in
    let is = xmlns_name (numbered_prefix n) in
    let js = numbered_name n a.name in
    record {
      shaped = (declares n (omega arith) is, (numbered n a.name (omega arith) js, each (Shape (n + 1) more) (Shape n (a ∷ more)) (λ x. wider n (n + 1) a more x (omega arith)) (names_of xs) was.shaped));
      apart = λ s. first_apart x (z ∷ names_of xs)
          (apart_by_prefix x z (codes "xmlns") (numbered_prefix n) (numbered_prefix n) a.name is js (other-from_bytes_eq (codes "xmlns") (numbered_prefix n) refl), each (Shape (n + 1) more) (λ y. x ≢ y) (λ y. declared_apart n more x y is) (names_of xs) was.shaped)
          (first_apart z (names_of xs) (each (Shape (n + 1) more) (λ y. z ≢ y) (λ y. numbered_apart n more z y a.name js) (names_of xs) was.shaped) (was.apart s.1));
    })
    n attrs

pub names_apart : (n : ℕ) (attrs : List Attribute) → ArePlain attrs → IsStrictlySortedBy name_order attrs → Apart (names_of (spelled_attributes n attrs))
names_apart n attrs h = (all_named n attrs h).apart

-- behind the declaration of a default namespace
default_apart : (n : ℕ) (attrs : List Attribute) (y : List ℕ) → ArePlain attrs → Shape n attrs y → codes "xmlns" ≢ y
default_apart n attrs y h (of_none b o f js) =
    apart_by_local (codes "xmlns") y [] [] (codes "xmlns") b.name (inr (refl, refl, refl)) js (λ e. (at_each IsPlainAttribute b attrs h o).no_declaration f (sym e))
default_apart n attrs y h (of_xml b o f js) = apart_by_prefix (codes "xmlns") y [] (codes "xml") (codes "xmlns") b.name (inr (refl, refl, refl)) js (other-from_bytes_eq [] (codes "xml") refl)
default_apart n attrs y h (declares m le js) = apart_by_prefix (codes "xmlns") y [] (codes "xmlns") (codes "xmlns") (numbered_prefix m) (inr (refl, refl, refl)) js (other-from_bytes_eq [] (codes "xmlns") refl)
default_apart n attrs y h (numbered m l le js) = apart_by_prefix (codes "xmlns") y [] (numbered_prefix m) (codes "xmlns") l (inr (refl, refl, refl)) js (other-from_bytes_eq [] (numbered_prefix m) refl)

pub default_first : (n : ℕ) (attrs : List Attribute) → ArePlain attrs → IsStrictlySortedBy name_order attrs → Apart (codes "xmlns" ∷ names_of (spelled_attributes n attrs))
default_first n attrs h s =
    let names = names_of (spelled_attributes n attrs) in
    first_apart (codes "xmlns") names (each (Shape n attrs) (λ y. codes "xmlns" ≢ y) (λ y. default_apart n attrs y h) names (shapes n attrs h)) (names_apart n attrs h s)

-- ---- what they bind

undeclared : (x p l : List ℕ) → IsName x p l → x ≢ codes "xmlns" → p ≢ codes "xmlns" → declared_prefix x ≡ None
unfolding declared_prefix
undeclared x p l is not_default not_prefix =
    let f : bytes_eq x (codes "xmlns") ≡ false = false_from_ne_true _ (λ t. not_default ((bytes_eq-Decides x (codes "xmlns")).0 t)) in
    let g : bytes_eq (prefix_of x) (codes "xmlns") ≡ false = false_from_ne_true _ (λ t. not_prefix (sym (parts_of x p l is).0 ∙ (bytes_eq-Decides (prefix_of x) (codes "xmlns")).0 t)) in
    rw (f, g) refl

pub declared : (l : List ℕ) → declared_prefix (codes "xmlns:" ++ l) ≡ Some l
unfolding declared_prefix
declared l =
    let x = codes "xmlns:" ++ l in
    let parts = parts_of x (codes "xmlns") l (xmlns_name l) in
    let f : bytes_eq x (codes "xmlns") ≡ false = refl in
    let g : bytes_eq (prefix_of x) (codes "xmlns") ≡ true = (bytes_eq-Decides (prefix_of x) (codes "xmlns")).1 parts.0 in
    cond-false (bytes_eq x (codes "xmlns")) (Some []) _ f ∙ cond-true (bytes_eq (prefix_of x) (codes "xmlns")) (Some (local_of x)) None g ∙ ap Some parts.1

pub other_name : (a : Attribute) → IsPlainAttribute a → a.ns ≡ [] → declared_prefix a.name ≡ None
other_name a h e = undeclared a.name [] a.name (unprefixed a h) (h.no_declaration e) (other-from_bytes_eq [] (codes "xmlns") refl)

pub other_xml : (l : List ℕ) → declared_prefix (codes "xml:" ++ l) ≡ None
other_xml l = undeclared (codes "xml:" ++ l) (codes "xml") l (xml_name l) (other-from_bytes_eq (codes "xml:" ++ l) (codes "xmlns") refl) (other-from_bytes_eq (codes "xml") (codes "xmlns") refl)

other_numbered : (n : ℕ) (l : List ℕ) → declared_prefix (numbered_prefix n ++ (58 ∷ l)) ≡ None
other_numbered n l =
    undeclared (numbered_prefix n ++ (58 ∷ l)) (numbered_prefix n) l (numbered_name n l) (other-from_bytes_eq (numbered_prefix n ++ (58 ∷ l)) (codes "xmlns") refl) (other-from_bytes_eq (numbered_prefix n) (codes "xmlns") refl)

pub binds_nothing : (a : tokens.Attribute) (xs : List tokens.Attribute) → declared_prefix a.name ≡ None → bindings_of (a ∷ xs) ≡ bindings_of xs
binds_nothing a xs e = ap (λ p. with_binding p a.value (bindings_of xs)) e

is_other : (a : tokens.Attribute) (xs : List tokens.Attribute) → declared_prefix a.name ≡ None → others_of (a ∷ xs) ≡ a ∷ others_of xs
is_other a xs e = ap (λ p. unless_binding p a (others_of xs)) e

pub binds_one : (a : tokens.Attribute) (xs : List tokens.Attribute) (p : List ℕ) → declared_prefix a.name ≡ Some p → bindings_of (a ∷ xs) ≡ bind p a.value ∷ bindings_of xs
binds_one a xs p e = ap (λ p. with_binding p a.value (bindings_of xs)) e

pub is_no_other : (a : tokens.Attribute) (xs : List tokens.Attribute) (p : List ℕ) → declared_prefix a.name ≡ Some p → others_of (a ∷ xs) ≡ others_of xs
is_no_other a xs p e = ap (λ p. unless_binding p a (others_of xs)) e

pub foreign_bindings : (n : ℕ) (a : Attribute) (xs : List tokens.Attribute) → bindings_of (declaration n a ∷ prefixed n a ∷ xs) ≡ bind (numbered_prefix n) a.ns ∷ bindings_of xs
foreign_bindings n a xs =
    binds_one (declaration n a) (prefixed n a ∷ xs) (numbered_prefix n) (declared (numbered_prefix n)) ∙ ap (λ bs. bind (numbered_prefix n) a.ns ∷ bs) (binds_nothing (prefixed n a) xs (other_numbered n a.name))

foreign_others : (n : ℕ) (a : Attribute) (xs : List tokens.Attribute) → others_of (declaration n a ∷ prefixed n a ∷ xs) ≡ prefixed n a ∷ others_of xs
foreign_others n a xs =
    is_no_other (declaration n a) (prefixed n a ∷ xs) (numbered_prefix n) (declared (numbered_prefix n)) ∙ is_other (prefixed n a) xs (other_numbered n a.name)

numbered_may : (n : ℕ) (a : Attribute) → IsPlainAttribute a → a.ns ≢ [] → a.ns ≢ xml_namespace → MayDeclare (bind (numbered_prefix n) a.ns)
numbered_may n a h some other = record {
  xml_alone = (λ e. absurd (other-from_bytes_eq (numbered_prefix n) (codes "xml") refl e), λ e. absurd (other e));
  not_xmlns = other-from_bytes_eq (numbered_prefix n) (codes "xmlns") refl;
  not_its_name = h.not_xmlns;
  not_undeclared = λ e. absurd (some e);
}

pub all_may : (n : ℕ) (attrs : List Attribute) → ArePlain attrs → AllByRecursion MayDeclare (bindings_of (spelled_attributes n attrs))
all_may n attrs = by_attributes (λ n attrs xs. ArePlain attrs → AllByRecursion MayDeclare (bindings_of xs))
    (λ n h. tt)
    (λ n a more xs e ih h. subst (AllByRecursion MayDeclare) (sym (binds_nothing (spelled a.name a.value) xs (other_name a h.0 e))) (ih h.1))
    (λ n a more xs e ih h. subst (AllByRecursion MayDeclare) (sym (binds_nothing (spelled (codes "xml:" ++ a.name) a.value) xs (other_xml a.name))) (ih h.1))
    (λ n a more xs e x ih h. subst (AllByRecursion MayDeclare) (sym (foreign_bindings n a xs)) (numbered_may n a h.0 e x, ih h.1))
    n attrs

other_bound : (p q ns : List ℕ) (outer : Scope) → q ≢ p → first_bound (bind p ns ∷ outer) q ≡ first_bound outer q
other_bound p q ns outer other =
    cond-false (bytes_eq p q) (Some ns) (first_bound outer q) (false_from_ne_true _ (λ t. other (sym ((bytes_eq-Decides p q).0 t))))

pub here_bound : (p ns : List ℕ) (outer : Scope) → first_bound (bind p ns ∷ outer) p ≡ Some ns
here_bound p ns outer = cond-true (bytes_eq p p) (Some ns) (first_bound outer p) ((bytes_eq-Decides p p).1 refl)

-- a prefix that isn't numbered means what it means outside
pub outer_bound : (n : ℕ) (attrs : List Attribute) → ArePlain attrs → (q : List ℕ) (outer : Scope) → ((m : ℕ) → q ≢ numbered_prefix m)
    → first_bound (bindings_of (spelled_attributes n attrs) ++ outer) q ≡ first_bound outer q
outer_bound n attrs = by_attributes
    (λ n attrs xs. ArePlain attrs → (q : List ℕ) (outer : Scope) → ((m : ℕ) → q ≢ numbered_prefix m) → first_bound (bindings_of xs ++ outer) q ≡ first_bound outer q)
    (λ n h q outer other. refl)
    (λ n a more xs e ih h q outer other. ap (λ bs. first_bound (bs ++ outer) q) (binds_nothing (spelled a.name a.value) xs (other_name a h.0 e)) ∙ ih h.1 q outer other)
    (λ n a more xs e ih h q outer other. ap (λ bs. first_bound (bs ++ outer) q) (binds_nothing (spelled (codes "xml:" ++ a.name) a.value) xs (other_xml a.name)) ∙ ih h.1 q outer other)
    (λ n a more xs e x ih h q outer other.
    ap (λ bs. first_bound (bs ++ outer) q) (foreign_bindings n a xs) ∙ other_bound (numbered_prefix n) q a.ns (bindings_of xs ++ outer) (other n) ∙ ih h.1 q outer other)
    n attrs

-- ---- what they say

abbrev pub expanded : Attribute → ExpandedAttribute
expanded a = record { ns = a.ns; name = a.name; value = a.value }

-- the bindings in front leave the prefixes from a number on
abbrev pub Passes : ℕ → Scope → Type 0
Passes n front = (m : ℕ) → n ≤ m → (outer : Scope) → first_bound (front ++ outer) (numbered_prefix m) ≡ first_bound outer (numbered_prefix m)

abbrev pub Say : ℕ → List Attribute → List tokens.Attribute → Type 0
Say n attrs xs = ArePlain attrs → (front outer : Scope) → Passes n front → AllZip (IsExpanded (front ++ (bindings_of xs ++ outer))) (others_of xs) (map expanded attrs)

says_none : (scope : Scope) (a : Attribute) → IsPlainAttribute a → a.ns ≡ [] → IsExpanded scope (spelled a.name a.value) (expanded a)
says_none scope a h e = ([], unprefixed a h, inl (refl, e), refl)

says_xml : (scope : Scope) (a : Attribute) → a.ns ≡ xml_namespace → IsExpanded scope (spelled (codes "xml:" ++ a.name) a.value) (expanded a)
unfolding bound
says_xml scope a e = (codes "xml", xml_name a.name, inr (other-from_bytes_eq (codes "xml") [] refl, ap Some (sym e)), refl)

says_numbered : (scope : Scope) (n : ℕ) (a : Attribute) → first_bound scope (numbered_prefix n) ≡ Some a.ns → IsExpanded scope (prefixed n a) (expanded a)
unfolding bound
says_numbered scope n a e = (numbered_prefix n, numbered_name n a.name, inr (other-from_bytes_eq (numbered_prefix n) [] refl, e), refl)

pass_one : (n : ℕ) (front : Scope) (ns : List ℕ) → Passes n front → Passes (n + 1) (front ++ bind (numbered_prefix n) ns ∷ [])
pass_one n front ns h m le outer =
    ap (λ s. first_bound s (numbered_prefix m)) (append_assoc front (bind (numbered_prefix n) ns ∷ []) outer)
    ∙ h m (omega (arith, le)) (bind (numbered_prefix n) ns ∷ outer) ∙ other_bound (numbered_prefix n) (numbered_prefix m) ns outer (numbered_differ m n (λ same. omega (arith, same, le)))

pub all_said : (n : ℕ) (attrs : List Attribute) → Say n attrs (spelled_attributes n attrs)
all_said n attrs = by_attributes Say
    (λ n h front outer p. tt)
    (λ n a more xs e ih h front outer p.
    let b = sym (binds_nothing (spelled a.name a.value) xs (other_name a h.0 e)) in
    let o = sym (is_other (spelled a.name a.value) xs (other_name a h.0 e)) in
    subst (λ bs. AllZip (IsExpanded (front ++ (bs ++ outer))) (others_of (spelled a.name a.value ∷ xs)) (map expanded (a ∷ more))) b
    (subst (λ os. AllZip (IsExpanded (front ++ (bindings_of xs ++ outer))) os (map expanded (a ∷ more))) o
    (says_none (front ++ (bindings_of xs ++ outer)) a h.0 e, ih h.1 front outer p)))
    (λ n a more xs e ih h front outer p.
    let x = spelled (codes "xml:" ++ a.name) a.value in
    let b = sym (binds_nothing x xs (other_xml a.name)) in
    let o = sym (is_other x xs (other_xml a.name)) in
    subst (λ bs. AllZip (IsExpanded (front ++ (bs ++ outer))) (others_of (x ∷ xs)) (map expanded (a ∷ more))) b
    (subst (λ os. AllZip (IsExpanded (front ++ (bindings_of xs ++ outer))) os (map expanded (a ∷ more))) o
    (says_xml (front ++ (bindings_of xs ++ outer)) a e, ih h.1 front outer p)))
    (λ n a more xs e x ih h front outer p.
    let one = bind (numbered_prefix n) a.ns in
    let b = sym (foreign_bindings n a xs) in
    let o = sym (foreign_others n a xs) in
    let here : first_bound (front ++ (one ∷ (bindings_of xs ++ outer))) (numbered_prefix n) ≡ Some a.ns =
    p n (omega arith) (one ∷ (bindings_of xs ++ outer)) ∙ here_bound (numbered_prefix n) a.ns (bindings_of xs ++ outer) in
    subst (λ bs. AllZip (IsExpanded (front ++ (bs ++ outer))) (others_of (declaration n a ∷ prefixed n a ∷ xs)) (map expanded (a ∷ more))) b
    (subst (λ os. AllZip (IsExpanded (front ++ (one ∷ (bindings_of xs ++ outer)))) os (map expanded (a ∷ more))) o (
      says_numbered (front ++ (one ∷ (bindings_of xs ++ outer))) n a here,
      subst (λ s. AllZip (IsExpanded s) (others_of xs) (map expanded more)) (append_assoc front (one ∷ []) (bindings_of xs ++ outer)) (ih h.1 (front ++ one ∷ []) outer (pass_one n front a.ns p)),
    )))
    n attrs
