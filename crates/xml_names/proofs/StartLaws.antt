-- What bytes come to as a start tag is what the grammar says, and each refusal is told exactly where it is due.
use Rattle.std.proofs.Common.{◌≡◌, ◌↔◌, ℕ, ◌<◌, ◌≤◌, ◌⊎◌, inl, inr, ⊎_elim, Bool, true, false, cond, ltb, not, List, [], ◌∷◌, ◌++◌, Option, Some, None, Result, Ok, Err, map, length, get_or, refl, sym, ap, subst, ◌∙◌, arith}
use Rattle.std.proofs.lemmas.Bool.{cases_Bool, and_parts, false≢true, cond-true, cond-false, ltb-true, ltb-false, false_from_ne_true, or_parts, not-true}
use Rattle.std.proofs.lemmas.Bool.Decides.{nat_tests}
use Rattle.std.proofs.lemmas.List.Sums.{AllPass-from_list_all, list_all-from_AllPass}
use Rattle.std.proofs.lemmas.Option.{none-some}
use Rattle.std.specs.List.{list_all, list_any}
use Rattle.std.specs.Option.{option_and_then}
use Rattle.std.specs.Prelude.{All}
use Rattle.xml_tokens.proofs.TagOutcomes.{tags_are_read, what_is_read_is_a_tag, unknown_names_are_restricted}
use Rattle.xml_tokens.specs.Spelling.{spelled_value}
use Rattle.xml_tokens.specs.Tags.{Attribute, start_tag, end_tag, tag_of, tag_at, is_restricted}
use Rattle.xml_tokens.specs.Tags as tokens
use Rattle.xml_tokens.specs.declared.fault.TagWhy.{TagWhy}
use Rattle.xml_tokens.specs.declared.fault.TagWhy.TheVariants as spelling
use Rattle.xml_names.proofs.NameLaws.{parts_of, is_name_of, may_from_test, test_from_may, element_from, element_to, attributes_from, attributes_to}
use Rattle.base_lemmas.proofs.DistinctItems.{AllPairs-from_test, test-from_AllPairs}
use Rattle.xml_names.proofs.SameNames.{is_same-Decides}
use Rattle.xml_names.specs.Declarations.{MayDeclare, may_declare, bindings_of, others_of}
use Rattle.xml_names.specs.Expansion.{are_distinct, is_same, element_ns, expanded_attributes, name_of}
use Rattle.xml_names.specs.Grammar.{IsStart, IsShort, IsWithin}
use Rattle.xml_names.specs.Names.{prefix_of}
use Rattle.xml_names.specs.Scopes.{Scope}
use Rattle.xml_names.specs.Starts.{Tag, attributes_in, if_distinct, is_long, limited, or_fault, parted_tag, past_limits, start_after, start_of, tag_from, tag_with}
use Rattle.xml_names.specs.declared.expansion.ExpandedAttribute.{ExpandedAttribute}
use Rattle.xml_names.specs.declared.fault.StartWhy.{StartWhy}
use Rattle.xml_names.specs.declared.fault.StartWhy.TheVariants.{Restricted, NotWellFormed, TooManyAttributes, LongNamespace}
use Rattle.xml_names.specs.declared.limits.TagLimits.{TagLimits}

-- ---- a tag of its parts

-- what a tag that parts say is
record Parts (scope : Scope) (name : List ℕ) (own : Scope) (others : List Attribute) (empty : Bool) (t : Tag) : Type 0 where
  may : list_all may_declare own ≡ true
  ns : List ℕ
  ns_is : element_ns (own ++ scope) (prefix_of name) ≡ Some ns
  es : List ExpandedAttribute
  es_are : expanded_attributes (own ++ scope) others ≡ Some es
  differ : are_distinct (map name_of es) ≡ true
  tag_is : tag_from name own empty ns es ≡ t

distinct_parts : (o : Option (List ExpandedAttribute)) (es : List ExpandedAttribute) → option_and_then if_distinct o ≡ Some es → (o ≡ Some es) × (are_distinct (map name_of es) ≡ true)
distinct_parts None es e = absurd cc
distinct_parts (Some xs) es e =
    ⊎_elim
    (λ (t : are_distinct (map name_of xs) ≡ true).
    let some : Some xs ≡ Some es = sym (cond-true (are_distinct (map name_of xs)) (Some xs) None t) ∙ e in
    let same : xs ≡ es = cc in (some, ap (λ l. are_distinct (map name_of l)) (sym same) ∙ t))
    (λ (f : are_distinct (map name_of xs) ≡ false).
    let never : None ≡ Some es = sym (cond-false (are_distinct (map name_of xs)) (Some xs) None f) ∙ e in absurd cc)
    (cases_Bool (are_distinct (map name_of xs)))

record Whole (name : List ℕ) (own : Scope) (empty : Bool) (o : Option (List ℕ)) (a : Option (List ExpandedAttribute)) (t : Tag) : Type 0 where
  ns : List ℕ
  ns_is : o ≡ Some ns
  es : List ExpandedAttribute
  es_are : a ≡ Some es
  tag_is : tag_from name own empty ns es ≡ t

whole_parts : (name : List ℕ) (own : Scope) (empty : Bool) (o : Option (List ℕ)) (a : Option (List ExpandedAttribute)) (t : Tag) → tag_with name own empty o a ≡ Some t → Whole name own empty o a t
whole_parts name own empty None a t e = absurd cc
whole_parts name own empty (Some n) None t e = absurd cc
whole_parts name own empty (Some n) (Some es) t e =
    let same : tag_from name own empty n es ≡ t = cc in record { ns = n; ns_is = refl; es = es; es_are = refl; tag_is = same }

parts_from : (scope : Scope) (name : List ℕ) (own : Scope) (others : List Attribute) (empty : Bool) (t : Tag) → parted_tag scope name own others empty ≡ Some t → Parts scope name own others empty t
unfolding parted_tag attributes_in
parts_from scope name own others empty t e =
    let o = element_ns (own ++ scope) (prefix_of name) in
    let a = attributes_in (own ++ scope) others in
    ⊎_elim
    (λ (m : list_all may_declare own ≡ true).
    let w = whole_parts name own empty o a t (sym (cond-true (list_all may_declare own) (tag_with name own empty o a) None m) ∙ e) in
    let d = distinct_parts (expanded_attributes (own ++ scope) others) w.es w.es_are in
    let p : Parts scope name own others empty t = record { may = m; ns = w.ns; ns_is = w.ns_is; es = w.es; es_are = d.0; differ = d.1; tag_is = w.tag_is } in p)
    (λ (f : list_all may_declare own ≡ false).
    let never : None ≡ Some t = sym (cond-false (list_all may_declare own) (tag_with name own empty o a) None f) ∙ e in absurd cc)
    (cases_Bool (list_all may_declare own))

all_may : (bs : Scope) → list_all may_declare bs ≡ true → All MayDeclare bs
all_may bs h k d less = may_from_test (get_or bs k d) (AllPass-from_list_all may_declare bs h k d less)

may_all : (bs : Scope) → All MayDeclare bs → list_all may_declare bs ≡ true
may_all bs h = list_all-from_AllPass may_declare bs (λ k d less. test_from_may (get_or bs k d) (h k d less))

start_from_parts : (scope : Scope) (bytes name : List ℕ) (xs : List Attribute) (empty : Bool) (t : Tag) → tag_of bytes ≡ Ok (start_tag name xs empty) → parted_tag scope name (bindings_of xs) (others_of xs) empty ≡ Some t → IsStart scope bytes xs t
start_from_parts scope bytes name xs empty t read e =
    let own = bindings_of xs in
    let p = parts_from scope name own (others_of xs) empty t e in
    let made : IsStart scope bytes xs (tag_from name own empty p.ns p.es) = record {
      spelled = what_is_read_is_a_tag bytes (start_tag name xs empty) read;
      declarations = refl;
      may_be_made = all_may own p.may;
      prefix = prefix_of name;
      name_is = is_name_of name;
      element = element_from (own ++ scope) (prefix_of name) p.ns p.ns_is;
      others = attributes_from (own ++ scope) (others_of xs) p.es p.es_are;
      distinct = AllPairs-from_test is_same is_same-Decides (map name_of p.es) p.differ;
    } in
    subst (λ u. IsStart scope bytes xs u) p.tag_is made

parts_from_start : (scope : Scope) (bytes : List ℕ) (xs : List Attribute) (t : Tag) → IsStart scope bytes xs t → parted_tag scope t.spelled (bindings_of xs) (others_of xs) t.empty ≡ Some t
unfolding parted_tag attributes_in
parts_from_start scope bytes xs t h =
    let own = t.bindings in
    let name = t.spelled in
    let parts = parts_of name h.prefix t.name h.name_is in
    let o = element_ns (own ++ scope) (prefix_of name) in
    let a = option_and_then if_distinct (expanded_attributes (own ++ scope) (others_of xs)) in
    let o_is : o ≡ Some t.ns = ap (element_ns (own ++ scope)) parts.0 ∙ element_to (own ++ scope) h.prefix t.ns h.element in
    let a_is : a ≡ Some t.attributes = ap (option_and_then if_distinct) (attributes_to (own ++ scope) (others_of xs) t.attributes h.others) ∙ cond-true (are_distinct (map name_of t.attributes)) (Some t.attributes) None (test-from_AllPairs is_same is_same-Decides (map name_of t.attributes) h.distinct) in
    let named : List ℕ → Tag = λ n. record { spelled = t.spelled; ns = t.ns; name = n; attributes = t.attributes; bindings = t.bindings; empty = t.empty } in
    ap (λ (bs : Scope). parted_tag scope name bs (others_of xs) t.empty) (sym h.declarations)
    ∙ cond-true (list_all may_declare own) (tag_with name own t.empty o a) None (may_all own h.may_be_made)
    ∙ ap (λ x. tag_with name own t.empty x a) o_is ∙ ap (tag_with name own t.empty (Some t.ns)) a_is ∙ ap (λ n. Some (named n)) parts.1

-- ---- the limits

no_long : (most : ℕ) (bs : Scope) → list_any (is_long most) bs ≡ false → list_all (λ b. not (is_long most b)) bs ≡ true
no_long most [] h = refl
no_long most (b ∷ bs) h = let p = or_parts (is_long most b) _ h in rw p.0 (no_long most bs p.1)

some_long : (most : ℕ) (bs : Scope) → list_all (λ b. not (is_long most b)) bs ≡ true → list_any (is_long most) bs ≡ false
some_long most [] h = refl
some_long most (b ∷ bs) h = let p = and_parts (not (is_long most b)) _ h in rw (not-true (is_long most b) p.0) (some_long most bs p.1)

all_short : (most : ℕ) (bs : Scope) → list_any (is_long most) bs ≡ false → All (IsShort most) bs
all_short most bs h k d less = ltb-false _ _ (not-true _ (AllPass-from_list_all (λ b. not (is_long most b)) bs (no_long most bs h) k d less))

none_long : (most : ℕ) (bs : Scope) → All (IsShort most) bs → list_any (is_long most) bs ≡ false
none_long most bs h =
    some_long most bs (list_all-from_AllPass (λ b. not (is_long most b)) bs (λ k d less. let short : length (spelled_value (get_or bs k d).ns) ≤ most = h k d less in grind (arith, nat_tests)))

abbrev IsPast : TagLimits → ℕ → Scope → Type 0
IsPast limits count bs =
    ((past_limits limits count bs ≡ Some TooManyAttributes) × (limits.attributes < count))
    ⊎ (((past_limits limits count bs ≡ Some LongNamespace) × (count ≤ limits.attributes) × (All (IsShort limits.namespace_bytes) bs → ⊥))
    ⊎ ((past_limits limits count bs ≡ None) × (count ≤ limits.attributes) × All (IsShort limits.namespace_bytes) bs))

abbrev long_or_not : TagLimits → Scope → Option StartWhy
long_or_not limits bs = cond (list_any (is_long limits.namespace_bytes) bs) (Some LongNamespace) None

past_cases : (limits : TagLimits) (count : ℕ) (bs : Scope) → IsPast limits count bs
unfolding past_limits
past_cases limits count bs =
    ⊎_elim
    (λ (many : ltb limits.attributes count ≡ true). inl (cond-true (ltb limits.attributes count) (Some TooManyAttributes) (long_or_not limits bs) many, ltb-true _ _ many))
    (λ (few : ltb limits.attributes count ≡ false).
    let rest = cond-false (ltb limits.attributes count) (Some TooManyAttributes) (long_or_not limits bs) few in
    let long = list_any (is_long limits.namespace_bytes) bs in
    ⊎_elim
    (λ (l : long ≡ true). inr (inl (rest ∙ cond-true long (Some LongNamespace) None l, ltb-false _ _ few, λ h. false≢true (sym (none_long limits.namespace_bytes bs h) ∙ l))))
    (λ (s : long ≡ false). inr (inr (rest ∙ cond-false long (Some LongNamespace) None s, ltb-false _ _ few, all_short limits.namespace_bytes bs s)))
    (cases_Bool long))
    (cases_Bool (ltb limits.attributes count))

-- ---- what bytes come to

-- what a raw start tag says, or nothing for an end tag
abbrev parted_as : Scope → tokens.Tag → Option Tag
parted_as scope (start_tag name xs empty) = parted_tag scope name (bindings_of xs) (others_of xs) empty
parted_as scope (end_tag name) = None

comes_to : (limits : TagLimits) (scope : Scope) (bytes : List ℕ) (xs : List Attribute) (t : Tag) → IsStart scope bytes xs t → start_of limits scope bytes ≡ or_fault (past_limits limits (length xs) t.bindings) t
unfolding start_of
comes_to limits scope bytes xs t h =
    ap (start_after limits scope) (tags_are_read bytes (start_tag t.spelled xs t.empty) h.spelled)
    ∙ ap (limited limits (length xs) (bindings_of xs)) (parts_from_start scope bytes xs t h)
    ∙ ap (λ bs. or_fault (past_limits limits (length xs) bs) t) (sym h.declarations)

abbrev Unspelled : TagLimits → Scope → List ℕ → Type 0
Unspelled limits scope bytes = (start_of limits scope bytes ≡ Err NotWellFormed) × (is_restricted bytes ≡ false) × ((xs : List Attribute) (t : Tag) → IsStart scope bytes xs t → ⊥)

abbrev Outcome : TagLimits → Scope → List ℕ → Type 0
Outcome limits scope bytes =
    ((xs : List Attribute) × (t : Tag) × IsStart scope bytes xs t)
    ⊎ (Unspelled limits scope bytes ⊎ ((start_of limits scope bytes ≡ Err Restricted) × (is_restricted bytes ≡ true)))

unrestricted : (bytes : List ℕ) → (tag_of bytes ≡ Err spelling.Restricted → ⊥) → is_restricted bytes ≡ false
unrestricted bytes h = false_from_ne_true (is_restricted bytes) (λ e. h ((unknown_names_are_restricted bytes).1 e))

abbrev read_as : tokens.Tag → Result tokens.Tag TagWhy
read_as t = Ok t

same_tag : (a b : tokens.Tag) → read_as a ≡ read_as b → a ≡ b
same_tag a b e = cc

abbrev start_as : Tag → Result Tag StartWhy
start_as t = Ok t

same_start : (a b : Tag) → start_as a ≡ start_as b → a ≡ b
same_start a b e = cc

module _ (limits : TagLimits) (scope : Scope) (bytes : List ℕ) where
  started : (name : List ℕ) (xs : List Attribute) (empty : Bool) (o : Option Tag) → tag_of bytes ≡ Ok (start_tag name xs empty) → parted_tag scope name (bindings_of xs) (others_of xs) empty ≡ o → Outcome limits scope bytes
  unfolding start_of
  started name xs empty (Some t) read e = inl (xs, t, start_from_parts scope bytes name xs empty t read e)
  started name xs empty None read e =
      inr (inl (
        ap (start_after limits scope) read ∙ ap (limited limits (length xs) (bindings_of xs)) e,
        unrestricted bytes (λ r. let never : Ok (start_tag name xs empty) ≡ Err spelling.Restricted = sym read ∙ r in absurd cc),
        λ ys t h. let other : start_tag name xs empty ≡ start_tag t.spelled ys t.empty = same_tag _ _ (sym read ∙ tags_are_read bytes (start_tag t.spelled ys t.empty) h.spelled) in
            none-some t (sym e ∙ ap (parted_as scope) other ∙ parts_from_start scope bytes ys t h),
      ))

  outcome : (r : Result tokens.Tag TagWhy) → tag_of bytes ≡ r → Outcome limits scope bytes
  unfolding start_of
  outcome (Err spelling.Restricted) e = inr (inr (ap (start_after limits scope) e, (unknown_names_are_restricted bytes).0 e))
  outcome (Err spelling.NotWellFormed) e =
      inr (inl (
        ap (start_after limits scope) e,
        unrestricted bytes (λ r. let never : Err spelling.NotWellFormed ≡ Err spelling.Restricted = sym e ∙ r in absurd cc),
        λ ys t h. let never : Err spelling.NotWellFormed ≡ Ok (start_tag t.spelled ys t.empty) = sym e ∙ tags_are_read bytes (start_tag t.spelled ys t.empty) h.spelled in absurd cc,
      ))
  outcome (Ok (end_tag n)) e =
      inr (inl (
        ap (start_after limits scope) e,
        unrestricted bytes (λ r. let never : Ok (end_tag n) ≡ Err spelling.Restricted = sym e ∙ r in absurd cc),
        λ ys t h. let never : Ok (end_tag n) ≡ Ok (start_tag t.spelled ys t.empty) = sym e ∙ tags_are_read bytes (start_tag t.spelled ys t.empty) h.spelled in absurd cc,
      ))
  outcome (Ok (start_tag name xs empty)) e = started name xs empty (parted_tag scope name (bindings_of xs) (others_of xs) empty) e refl

  all : Outcome limits scope bytes
  all = outcome (tag_of bytes) refl

  abbrev come : Result Tag StartWhy
  come = start_of limits scope bytes

  -- the answer for a tag, by its limits
  within : (xs : List Attribute) (t : Tag) → IsStart scope bytes xs t → past_limits limits (length xs) t.bindings ≡ None → come ≡ Ok t
  within xs t h e = comes_to limits scope bytes xs t h ∙ ap (λ f. or_fault f t) e

  past : (xs : List Attribute) (t : Tag) (f : StartWhy) → IsStart scope bytes xs t → past_limits limits (length xs) t.bindings ≡ Some f → come ≡ Err f
  past xs t f h e = comes_to limits scope bytes xs t h ∙ ap (λ g. or_fault g t) e

  abbrev Verdict : Type 0
  Verdict =
      ((xs : List Attribute) × (t : Tag) × IsStart scope bytes xs t × IsWithin limits xs t × (come ≡ Ok t))
      ⊎ (((xs : List Attribute) × (t : Tag) × IsStart scope bytes xs t × (limits.attributes < length xs) × (come ≡ Err TooManyAttributes))
      ⊎ (((xs : List Attribute) × (t : Tag) × IsStart scope bytes xs t × (length xs ≤ limits.attributes) × (All (IsShort limits.namespace_bytes) t.bindings → ⊥) × (come ≡ Err LongNamespace))
      ⊎ (Unspelled limits scope bytes ⊎ ((come ≡ Err Restricted) × (is_restricted bytes ≡ true)))))

  judged : (xs : List Attribute) (t : Tag) → IsStart scope bytes xs t → IsPast limits (length xs) t.bindings → Verdict
  judged xs t h (inl (p, many)) = inr (inl (xs, t, h, many, past xs t TooManyAttributes h p))
  judged xs t h (inr (inl (p, few, long))) = inr (inr (inl (xs, t, h, few, long, past xs t LongNamespace h p)))
  judged xs t h (inr (inr (p, few, short))) = inl (xs, t, h, (few, short), within xs t h p)

  verdict_of : Outcome limits scope bytes → Verdict
  verdict_of (inl (xs, t, h)) = judged xs t h (past_cases limits (length xs) t.bindings)
  verdict_of (inr (inl u)) = inr (inr (inr (inl u)))
  verdict_of (inr (inr r)) = inr (inr (inr (inr r)))

  verdict : Verdict
  verdict = verdict_of all

  -- no two answers
  one : (a b : Result Tag StartWhy) → come ≡ a → come ≡ b → a ≡ b
  one a b x y = sym x ∙ y

  read_to : (t : Tag) → Verdict → come ≡ Ok t → (xs : List Attribute) × IsStart scope bytes xs t × IsWithin limits xs t
  read_to t (inl (xs, u, h, w, c)) e =
      let same : u ≡ t = same_start u t (one (Ok u) (Ok t) c e) in
      subst (λ v. (ys : List Attribute) × IsStart scope bytes ys v × IsWithin limits ys v) same (xs, h, w)
  read_to t (inr (inl (xs, u, h, m, c))) e = let never : Err TooManyAttributes ≡ Ok t = one (Err TooManyAttributes) (Ok t) c e in absurd cc
  read_to t (inr (inr (inl (xs, u, h, f, l, c)))) e = let never : Err LongNamespace ≡ Ok t = one (Err LongNamespace) (Ok t) c e in absurd cc
  read_to t (inr (inr (inr (inl u)))) e = let never : Err NotWellFormed ≡ Ok t = one (Err NotWellFormed) (Ok t) u.0 e in absurd cc
  read_to t (inr (inr (inr (inr u)))) e = let never : Err Restricted ≡ Ok t = one (Err Restricted) (Ok t) u.0 e in absurd cc

  read_from : (xs : List Attribute) (t : Tag) → IsStart scope bytes xs t → IsWithin limits xs t → IsPast limits (length xs) t.bindings → come ≡ Ok t
  read_from xs t h w (inl (p, m)) = let few = w.0 in absurd (omega (arith, m, few))
  read_from xs t h w (inr (inl (p, few, long))) = absurd (long w.1)
  read_from xs t h w (inr (inr (p, few, short))) = within xs t h p

  pub read : (t : Tag) → ((come ≡ Ok t) ↔ ((xs : List Attribute) × IsStart scope bytes xs t × IsWithin limits xs t))
  read t = (read_to t verdict, λ h. read_from h.0 t h.1 h.2 (past_cases limits (length h.0) t.bindings))

  is_fault : (f g : StartWhy) → come ≡ Err f → come ≡ Err g → f ≡ g
  is_fault f g x y = let both : Err f ≡ Err g = one (Err f) (Err g) x y in cc

  is_tag : (t : Tag) (f : StartWhy) → come ≡ Ok t → come ≡ Err f → ⊥
  is_tag t f x y = let both : Ok t ≡ Err f = one (Ok t) (Err f) x y in absurd cc

  restricted_to : Verdict → come ≡ Err Restricted → is_restricted bytes ≡ true
  restricted_to (inl (xs, u, h, w, c)) e = absurd (is_tag u Restricted c e)
  restricted_to (inr (inl (xs, u, h, m, c))) e = let never = is_fault TooManyAttributes Restricted c e in absurd cc
  restricted_to (inr (inr (inl (xs, u, h, f, l, c)))) e = let never = is_fault LongNamespace Restricted c e in absurd cc
  restricted_to (inr (inr (inr (inl u)))) e = let never = is_fault NotWellFormed Restricted u.0 e in absurd cc
  restricted_to (inr (inr (inr (inr u)))) e = u.1

  restricted_from : is_restricted bytes ≡ true → come ≡ Err Restricted
  unfolding start_of
  restricted_from h = ap (start_after limits scope) ((unknown_names_are_restricted bytes).1 h)

  pub restricted : (come ≡ Err Restricted) ↔ (is_restricted bytes ≡ true)
  restricted = (restricted_to verdict, restricted_from)

  malformed_to : Verdict → come ≡ Err NotWellFormed → (is_restricted bytes ≡ false) × ((xs : List Attribute) (t : Tag) → IsStart scope bytes xs t → ⊥)
  malformed_to (inl (xs, u, h, w, c)) e = absurd (is_tag u NotWellFormed c e)
  malformed_to (inr (inl (xs, u, h, m, c))) e = let never = is_fault TooManyAttributes NotWellFormed c e in absurd cc
  malformed_to (inr (inr (inl (xs, u, h, f, l, c)))) e = let never = is_fault LongNamespace NotWellFormed c e in absurd cc
  malformed_to (inr (inr (inr (inl u)))) e = (u.1, u.2)
  malformed_to (inr (inr (inr (inr u)))) e = let never = is_fault Restricted NotWellFormed u.0 e in absurd cc

  malformed_from : Verdict → is_restricted bytes ≡ false → ((xs : List Attribute) (t : Tag) → IsStart scope bytes xs t → ⊥) → come ≡ Err NotWellFormed
  malformed_from (inl (xs, u, h, w, c)) r none = absurd (none xs u h)
  malformed_from (inr (inl (xs, u, h, m, c))) r none = absurd (none xs u h)
  malformed_from (inr (inr (inl (xs, u, h, f, l, c)))) r none = absurd (none xs u h)
  malformed_from (inr (inr (inr (inl u)))) r none = u.0
  malformed_from (inr (inr (inr (inr u)))) r none = absurd (false≢true (sym r ∙ u.1))

  pub malformed : (come ≡ Err NotWellFormed) ↔ ((is_restricted bytes ≡ false) × ((xs : List Attribute) (t : Tag) → IsStart scope bytes xs t → ⊥))
  malformed = (malformed_to verdict, λ h. malformed_from verdict h.0 h.1)

  many_to : Verdict → come ≡ Err TooManyAttributes → (xs : List Attribute) × (t : Tag) × IsStart scope bytes xs t × (limits.attributes < length xs)
  many_to (inl (xs, u, h, w, c)) e = absurd (is_tag u TooManyAttributes c e)
  many_to (inr (inl (xs, u, h, m, c))) e = (xs, u, h, m)
  many_to (inr (inr (inl (xs, u, h, f, l, c)))) e = let never = is_fault LongNamespace TooManyAttributes c e in absurd cc
  many_to (inr (inr (inr (inl u)))) e = let never = is_fault NotWellFormed TooManyAttributes u.0 e in absurd cc
  many_to (inr (inr (inr (inr u)))) e = let never = is_fault Restricted TooManyAttributes u.0 e in absurd cc

  many_from : (xs : List Attribute) (t : Tag) → IsStart scope bytes xs t → limits.attributes < length xs → IsPast limits (length xs) t.bindings → come ≡ Err TooManyAttributes
  many_from xs t h m (inl (p, n)) = past xs t TooManyAttributes h p
  many_from xs t h m (inr (inl (p, few, long))) = absurd (omega (arith, m, few))
  many_from xs t h m (inr (inr (p, few, short))) = absurd (omega (arith, m, few))

  pub many : (come ≡ Err TooManyAttributes) ↔ ((xs : List Attribute) × (t : Tag) × IsStart scope bytes xs t × (limits.attributes < length xs))
  many = (many_to verdict, λ h. many_from h.0 h.1 h.2 h.3 (past_cases limits (length h.0) h.1.bindings))

  long_to : Verdict → come ≡ Err LongNamespace → (xs : List Attribute) × (t : Tag) × IsStart scope bytes xs t × (length xs ≤ limits.attributes) × (All (IsShort limits.namespace_bytes) t.bindings → ⊥)
  long_to (inl (xs, u, h, w, c)) e = absurd (is_tag u LongNamespace c e)
  long_to (inr (inl (xs, u, h, m, c))) e = let never = is_fault TooManyAttributes LongNamespace c e in absurd cc
  long_to (inr (inr (inl (xs, u, h, f, l, c)))) e = (xs, u, h, f, l)
  long_to (inr (inr (inr (inl u)))) e = let never = is_fault NotWellFormed LongNamespace u.0 e in absurd cc
  long_to (inr (inr (inr (inr u)))) e = let never = is_fault Restricted LongNamespace u.0 e in absurd cc

  long_from : (xs : List Attribute) (t : Tag) → IsStart scope bytes xs t → length xs ≤ limits.attributes → (All (IsShort limits.namespace_bytes) t.bindings → ⊥) → IsPast limits (length xs) t.bindings → come ≡ Err LongNamespace
  long_from xs t h f l (inl (p, m)) = absurd (omega (arith, m, f))
  long_from xs t h f l (inr (inl (p, few, long))) = past xs t LongNamespace h p
  long_from xs t h f l (inr (inr (p, few, short))) = absurd (l short)

  pub long : (come ≡ Err LongNamespace) ↔ ((xs : List Attribute) × (t : Tag) × IsStart scope bytes xs t × (length xs ≤ limits.attributes) × (All (IsShort limits.namespace_bytes) t.bindings → ⊥))
  long = (long_to verdict, λ h. long_from h.0 h.1 h.2 h.3 h.4 (past_cases limits (length h.0) h.1.bindings))
