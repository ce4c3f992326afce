-- The tests of names, declarations and expansions are what the grammar says.
use Rattle.std.proofs.Common.{◌≡◌, ◌≢◌, ℕ, ◌+◌, ◌<◌, inl, inr, ⊎_elim, Bool, true, false, cond, eqb, not, ◌&&◌, ◌||◌, List, [], ◌∷◌, ◌++◌, Option, Some, None, length, take, drop, get_or, slice_index, codes, bytes_eq, refl, sym, ap, subst, ◌∙◌, arith}
use Rattle.std.proofs.lemmas.Bool.{cases_Bool, and_parts, and_from, false≢true, not-true, not_from_false, false_from_ne_true, cond-true, cond-false, eqb-true, ltb-true}
use Rattle.std.proofs.lemmas.Bool.Decides.{nat_tests}
use Rattle.std.proofs.lemmas.List.{length-append}
use Rattle.std.proofs.lemmas.List.Sums.{passes_at_first, split_at_first}
use Rattle.std.proofs.Math.Seq.{take-length, take-append_seam, drop-append-add}
use Rattle.std.proofs.lemmas.Slice.Eq.{bytes_eq-Decides}
use Rattle.std.specs.List.{AllZip, position_or_len, before_first, after_first}
use Rattle.std.specs.Option.{option_map, option_and_then}
use Rattle.xml_tokens.proofs.Splits.{take_prefix, front_passes, prefix_within}
use Rattle.xml_tokens.specs.Tags.{Attribute, is_empty}
use Rattle.xml_names.specs.Declarations.{MayDeclare, declared_prefix, may_declare}
use Rattle.xml_names.specs.Expansion.{attribute_ns, element_ns, expanded_attribute, expanded_attributes, expanded_name, in_front, name_with, with_value}
use Rattle.xml_names.specs.Grammar.{IsElementIn, IsAttributeIn, IsExpanded}
use Rattle.xml_names.specs.Names.{IsName, has_colon, is_colon, local_of, no_colon, prefix_of}
use Rattle.xml_names.specs.Scopes.{Scope, bound, xml_namespace, xmlns_namespace}
use Rattle.xml_names.specs.declared.expansion.ExpandedAttribute.{ExpandedAttribute}
use Rattle.xml_names.specs.declared.scopes.Binding.{Binding}

-- ---- names

-- where the first colon is
with_colon : (p l : List ℕ) → no_colon p ≡ true → position_or_len is_colon (p ++ 58 ∷ l) ≡ length p
with_colon [] l h = refl
with_colon (x ∷ p) l h =
    let q = and_parts (not (eqb x 58)) (no_colon p) h in
    let ih = with_colon p l q.1 in
    rw q.0 (omega (arith, ih))

without_colon : (l : List ℕ) → no_colon l ≡ true → position_or_len is_colon l ≡ length l
without_colon [] h = refl
without_colon (x ∷ l) h =
    let q = and_parts (not (eqb x 58)) (no_colon l) h in
    let ih = without_colon l q.1 in
    rw q.0 (omega (arith, ih))

colon_there : (p l : List ℕ) → no_colon p ≡ true → has_colon (p ++ 58 ∷ l) ≡ true
colon_there p l h = let at = with_colon p l h in let n = length-append p (58 ∷ l) in rw (at, n) (grind (arith, nat_tests))

no_colon_there : (l : List ℕ) → no_colon l ≡ true → has_colon l ≡ false
no_colon_there l h = let at = without_colon l h in rw at (grind (arith, nat_tests))

pub parts_of : (name p l : List ℕ) → IsName name p l → (prefix_of name ≡ p) × (local_of name ≡ l)
unfolding prefix_of local_of
parts_of name p l (inl (is, plain)) =
    let t : has_colon name ≡ true = ap has_colon is ∙ colon_there p l plain in
    let at : position_or_len is_colon name ≡ length p = ap (position_or_len is_colon) is ∙ with_colon p l plain in (
      cond-true (has_colon name) (before_first is_colon name) [] t ∙ ap (λ n. take n name) at ∙ ap (take (length p)) is ∙ take-append_seam p (58 ∷ l),
      cond-true (has_colon name) (after_first is_colon name) name t ∙ ap (λ n. drop (n + 1) name) at ∙ ap (drop (length p + 1)) is ∙ drop-append-add p (58 ∷ l) 1,
    )
parts_of name p l (inr (is, none, plain)) =
    let f : has_colon name ≡ false = ap has_colon is ∙ no_colon_there l plain in
    (cond-false (has_colon name) (before_first is_colon name) [] f ∙ sym none, cond-false (has_colon name) (after_first is_colon name) name f ∙ is)

before_plain : (name : List ℕ) → no_colon (before_first is_colon name) ≡ true
before_plain name = ap no_colon (take_prefix (λ b. not (is_colon b)) name) ∙ front_passes (λ b. not (is_colon b)) name

all_plain : (name : List ℕ) → has_colon name ≡ false → no_colon name ≡ true
all_plain name f =
    let most = prefix_within (λ b. not (is_colon b)) name in
    let whole : position_or_len is_colon name ≡ length name = grind (arith, nat_tests) in
    ap no_colon (sym (ap (λ n. take n name) whole ∙ take-length name)) ∙ before_plain name

pub is_name_of : (name : List ℕ) → IsName name (prefix_of name) (local_of name)
unfolding prefix_of local_of
is_name_of name =
    ⊎_elim
    (λ (t : has_colon name ≡ true).
    let within : position_or_len is_colon name < length name = ltb-true _ _ t in
    let first = eqb-true (get_or name (position_or_len is_colon name) 0) 58 (passes_at_first is_colon name 0 within) in
    let p = cond-true (has_colon name) (before_first is_colon name) [] t in
    let l = cond-true (has_colon name) (after_first is_colon name) name t in
    inl (
      split_at_first is_colon name 0 within ∙ ap (λ x. before_first is_colon name ++ x ∷ after_first is_colon name) first ∙ ap (λ x. x ++ 58 ∷ after_first is_colon name) (sym p) ∙ ap (λ x. cond (has_colon name) (before_first is_colon name) [] ++ 58 ∷ x) (sym l),
      ap no_colon p ∙ before_plain name,
    ))
    (λ (f : has_colon name ≡ false).
    let l = cond-false (has_colon name) (after_first is_colon name) name f in
    inr (sym l, cond-false (has_colon name) (before_first is_colon name) [] f, ap no_colon l ∙ all_plain name f))
    (cases_Bool (has_colon name))

-- ---- declarations

begins : (name p l : List ℕ) → IsName name p l → p ≡ codes "xmlns" → slice_index name 0 ≡ 120
begins name p l (inl (is, plain)) e = ap (λ n. slice_index n 0) (is ∙ ap (λ q. q ++ 58 ∷ l) e)
begins name p l (inr (is, none, plain)) e = let never : [] ≡ codes "xmlns" = sym none ∙ e in absurd cc

neither : (a b : Bool) (o p : Option (List ℕ)) → a ≡ false → b ≡ false → None ≡ cond a o (cond b p None)
neither false false o p e f = refl
neither false true o p e f = absurd (false≢true (sym f))
neither true b o p e f = absurd (false≢true (sym e))

pub declares_nothing : (name : List ℕ) → eqb (slice_index name 0) 120 ≡ false → None ≡ declared_prefix name
unfolding declared_prefix
declares_nothing name h =
    let other : slice_index name 0 ≡ 120 → ⊥ = λ e. false≢true (sym h ∙ ap (λ x. eqb x 120) e) in
    neither (bytes_eq name (codes "xmlns")) (bytes_eq (prefix_of name) (codes "xmlns")) (Some []) (Some (local_of name))
    (false_from_ne_true _ (λ t. other (ap (λ n. slice_index n 0) ((bytes_eq-Decides name (codes "xmlns")).0 t))))
    (false_from_ne_true _ (λ t. other (begins name (prefix_of name) (local_of name) (is_name_of name) ((bytes_eq-Decides (prefix_of name) (codes "xmlns")).0 t))))

undeclared : (prefix ns : List ℕ) → (is_empty prefix || not (is_empty ns)) ≡ true → ns ≡ [] → prefix ≡ []
undeclared [] ns h e = refl
undeclared (x ∷ xs) [] h e = absurd (false≢true h)
undeclared (x ∷ xs) (y ∷ ys) h e = absurd cc

declared : (prefix ns : List ℕ) → (ns ≡ [] → prefix ≡ []) → (is_empty prefix || not (is_empty ns)) ≡ true
declared [] ns h = refl
declared (x ∷ xs) [] h = let e = h refl in absurd cc
declared (x ∷ xs) (y ∷ ys) h = refl

differ : (a b : List ℕ) → bytes_eq a b ≡ false → a ≡ b → ⊥
differ a b f e = false≢true (sym f ∙ (bytes_eq-Decides a b).1 e)

is_different : (a b : List ℕ) → (a ≡ b → ⊥) → not (bytes_eq a b) ≡ true
is_different a b h = not_from_false _ (false_from_ne_true (bytes_eq a b) (λ e. h ((bytes_eq-Decides a b).0 e)))

abbrev others_may : Binding → Bool
others_may b = not (bytes_eq b.prefix (codes "xmlns")) && (not (bytes_eq b.ns xml_namespace) && (not (bytes_eq b.ns xmlns_namespace) && (is_empty b.prefix || not (is_empty b.ns))))

pub may_from_test : (b : Binding) → may_declare b ≡ true → MayDeclare b
unfolding may_declare
may_from_test b h =
    ⊎_elim
    (λ (t : bytes_eq b.prefix (codes "xml") ≡ true).
    let p : b.prefix ≡ codes "xml" = (bytes_eq-Decides b.prefix (codes "xml")).0 t in
    let n : b.ns ≡ xml_namespace = (bytes_eq-Decides b.ns xml_namespace).0 (sym (cond-true (bytes_eq b.prefix (codes "xml")) (bytes_eq b.ns xml_namespace) (others_may b) t) ∙ h) in
    let r : MayDeclare b = record {
      xml_alone = (λ _. n, λ _. p);
      not_xmlns = λ e. differ (codes "xml") (codes "xmlns") refl (sym p ∙ e);
      not_its_name = λ e. differ xml_namespace xmlns_namespace refl (sym n ∙ e);
      not_undeclared = λ e. absurd (differ xml_namespace [] refl (sym n ∙ e));
    } in r)
    (λ (f : bytes_eq b.prefix (codes "xml") ≡ false).
    let q = and_parts (not (bytes_eq b.prefix (codes "xmlns"))) _ (sym (cond-false (bytes_eq b.prefix (codes "xml")) (bytes_eq b.ns xml_namespace) (others_may b) f) ∙ h) in
    let r = and_parts (not (bytes_eq b.ns xml_namespace)) _ q.1 in
    let s = and_parts (not (bytes_eq b.ns xmlns_namespace)) _ r.1 in
    let all : MayDeclare b = record {
      xml_alone = (λ e. absurd (differ b.prefix (codes "xml") f e), λ e. absurd (differ b.ns xml_namespace (not-true _ r.0) e));
      not_xmlns = λ e. differ b.prefix (codes "xmlns") (not-true _ q.0) e;
      not_its_name = λ e. differ b.ns xmlns_namespace (not-true _ s.0) e;
      not_undeclared = undeclared b.prefix b.ns s.1;
    } in all)
    (cases_Bool (bytes_eq b.prefix (codes "xml")))

pub test_from_may : (b : Binding) → MayDeclare b → may_declare b ≡ true
unfolding may_declare
test_from_may b h =
    ⊎_elim
    (λ (t : bytes_eq b.prefix (codes "xml") ≡ true).
    cond-true (bytes_eq b.prefix (codes "xml")) (bytes_eq b.ns xml_namespace) (others_may b) t ∙ (bytes_eq-Decides b.ns xml_namespace).1 (h.xml_alone.0 ((bytes_eq-Decides b.prefix (codes "xml")).0 t)))
    (λ (f : bytes_eq b.prefix (codes "xml") ≡ false).
    cond-false (bytes_eq b.prefix (codes "xml")) (bytes_eq b.ns xml_namespace) (others_may b) f
    ∙ and_from (not (bytes_eq b.prefix (codes "xmlns"))) _ (is_different b.prefix (codes "xmlns") h.not_xmlns)
    (and_from (not (bytes_eq b.ns xml_namespace)) _ (is_different b.ns xml_namespace (λ e. differ b.prefix (codes "xml") f (h.xml_alone.1 e)))
    (and_from (not (bytes_eq b.ns xmlns_namespace)) _ (is_different b.ns xmlns_namespace h.not_its_name) (declared b.prefix b.ns h.not_undeclared))))
    (cases_Bool (bytes_eq b.prefix (codes "xml")))

-- ---- expansion

some_prefix : (x : ℕ) (xs : List ℕ) → x ∷ xs ≢ []
some_prefix x xs e = absurd cc

pub element_from : (scope : Scope) (prefix ns : List ℕ) → element_ns scope prefix ≡ Some ns → IsElementIn scope prefix ns
unfolding element_ns
element_from scope [] ns e = inl (refl, cc)
element_from scope (x ∷ xs) ns e =
    ⊎_elim
    (λ (t : bytes_eq (x ∷ xs) (codes "xmlns") ≡ true). let never : None ≡ Some ns = sym (cond-true (bytes_eq (x ∷ xs) (codes "xmlns")) None (bound scope (x ∷ xs)) t) ∙ e in absurd cc)
    (λ (f : bytes_eq (x ∷ xs) (codes "xmlns") ≡ false). inr (some_prefix x xs, differ (x ∷ xs) (codes "xmlns") f, sym (cond-false (bytes_eq (x ∷ xs) (codes "xmlns")) None (bound scope (x ∷ xs)) f) ∙ e))
    (cases_Bool (bytes_eq (x ∷ xs) (codes "xmlns")))

pub element_to : (scope : Scope) (prefix ns : List ℕ) → IsElementIn scope prefix ns → element_ns scope prefix ≡ Some ns
unfolding element_ns
element_to scope [] ns (inl (p, n)) = ap Some (sym n)
element_to scope (x ∷ xs) ns (inl (p, n)) = absurd (some_prefix x xs p)
element_to scope [] ns (inr (p, o, n)) = absurd (p refl)
element_to scope (x ∷ xs) ns (inr (p, o, n)) =
    cond-false (bytes_eq (x ∷ xs) (codes "xmlns")) None (bound scope (x ∷ xs)) (not-true _ (is_different (x ∷ xs) (codes "xmlns") o)) ∙ n

attribute_from : (scope : Scope) (prefix ns : List ℕ) → attribute_ns scope prefix ≡ Some ns → IsAttributeIn scope prefix ns
unfolding attribute_ns
attribute_from scope [] ns e = inl (refl, cc)
attribute_from scope (x ∷ xs) ns e = inr (some_prefix x xs, e)

attribute_to : (scope : Scope) (prefix ns : List ℕ) → IsAttributeIn scope prefix ns → attribute_ns scope prefix ≡ Some ns
unfolding attribute_ns
attribute_to scope [] ns (inl (p, n)) = ap Some (sym n)
attribute_to scope (x ∷ xs) ns (inl (p, n)) = absurd (some_prefix x xs p)
attribute_to scope [] ns (inr (p, n)) = absurd (p refl)
attribute_to scope (x ∷ xs) ns (inr (p, n)) = n

abbrev made : List ℕ → List ℕ → List ℕ → ExpandedAttribute
made ns name value = record { ns = ns; name = name; value = value }

expansion_parts : (o : Option (List ℕ)) (name value : List ℕ) (e : ExpandedAttribute) → option_map (with_value value) (option_map (name_with name) o) ≡ Some e → (o ≡ Some e.ns) × (e.name ≡ local_of name) × (e.value ≡ value)
expansion_parts None name value e h = absurd cc
expansion_parts (Some ns) name value e h =
    let same : made ns (local_of name) value ≡ e = cc in
    (ap (λ (x : ExpandedAttribute). Some x.ns) same, ap (λ (x : ExpandedAttribute). x.name) (sym same), ap (λ (x : ExpandedAttribute). x.value) (sym same))

expansion_from : (scope : Scope) (a : Attribute) (e : ExpandedAttribute) → expanded_attribute scope a ≡ Some e → IsExpanded scope a e
unfolding expanded_name
expansion_from scope a e h =
    let p = expansion_parts (attribute_ns scope (prefix_of a.name)) a.name a.value e h in
    (prefix_of a.name, subst (IsName a.name (prefix_of a.name)) (sym p.1) (is_name_of a.name), attribute_from scope (prefix_of a.name) e.ns p.0, p.2)

expansion_to : (scope : Scope) (a : Attribute) (e : ExpandedAttribute) → IsExpanded scope a e → expanded_attribute scope a ≡ Some e
unfolding expanded_name
expansion_to scope a e h =
    let p = parts_of a.name h.0 e.name h.1 in
    let ns = ap (attribute_ns scope) p.0 ∙ attribute_to scope h.0 e.ns h.2 in
    ap (λ o. option_map (with_value a.value) (option_map (name_with a.name) o)) ns
    ∙ ap (λ n. Some (made e.ns n a.value)) p.1 ∙ ap (λ v. Some (made e.ns e.name v)) (sym h.3)

abbrev joins : Option ExpandedAttribute → Option (List ExpandedAttribute) → Option (List ExpandedAttribute)
joins o r = option_and_then (λ e. in_front (e ∷ []) r) o

none_first : (o : Option ExpandedAttribute) (r : Option (List ExpandedAttribute)) → joins o r ≡ Some [] → ⊥
none_first None r h = absurd cc
none_first (Some e) None h = absurd cc
none_first (Some e) (Some es) h = let never : e ∷ es ≡ [] = cc in absurd cc

join_parts : (o : Option ExpandedAttribute) (r : Option (List ExpandedAttribute)) (f : ExpandedAttribute) (fs : List ExpandedAttribute) → joins o r ≡ Some (f ∷ fs) → (o ≡ Some f) × (r ≡ Some fs)
join_parts None r f fs h = absurd cc
join_parts (Some e) None f fs h = absurd cc
join_parts (Some e) (Some es) f fs h =
    let same : e ∷ es ≡ f ∷ fs = cc in let first : e ≡ f = cc in let others : es ≡ fs = cc in (ap Some first, ap Some others)

pub attributes_from : (scope : Scope) (xs : List Attribute) (es : List ExpandedAttribute) → expanded_attributes scope xs ≡ Some es → AllZip (IsExpanded scope) xs es
attributes_from scope [] [] h = tt
attributes_from scope [] (e ∷ es) h = let never : [] ≡ e ∷ es = cc in absurd cc
attributes_from scope (a ∷ xs) [] h = absurd (none_first (expanded_attribute scope a) (expanded_attributes scope xs) h)
attributes_from scope (a ∷ xs) (e ∷ es) h =
    let p = join_parts (expanded_attribute scope a) (expanded_attributes scope xs) e es h in
    (expansion_from scope a e p.0, attributes_from scope xs es p.1)

pub attributes_to : (scope : Scope) (xs : List Attribute) (es : List ExpandedAttribute) → AllZip (IsExpanded scope) xs es → expanded_attributes scope xs ≡ Some es
attributes_to scope [] [] h = refl
attributes_to scope [] (e ∷ es) h = absurd h
attributes_to scope (a ∷ xs) [] h = absurd h
attributes_to scope (a ∷ xs) (e ∷ es) h =
    ap (λ r. joins (expanded_attribute scope a) r) (attributes_to scope xs es h.1) ∙ ap (λ o. joins o (Some es)) (expansion_to scope a e h.0)
