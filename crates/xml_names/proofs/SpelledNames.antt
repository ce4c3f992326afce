-- Attributes without a prefix: their expanded names are distinct where the spelled ones are.
use Rattle.std.proofs.Common.{◌≡◌, ℕ, Bool, true, false, cond, not, ◌&&◌, ◌||◌, List, [], ◌∷◌, Option, Some, None, Ok, map, bytes_eq, refl, sym, ap, ◌∙◌, ◌++◌}
use Rattle.std.proofs.lemmas.Bool.{and_parts, and_from, false≢true, not-true, not_from_false, or_parts, or_from}
use Rattle.std.proofs.Math.Bool.{and-true}
use Rattle.std.proofs.lemmas.List.{map_push}
use Rattle.std.proofs.lemmas.Slice.Eq.{bytes_eq-Decides}
use Rattle.std.specs.List.{list_any, before_first, after_first}
use Rattle.std.specs.Option.{option_map, option_and_then, is_some}
use Rattle.base_lemmas.proofs.DistinctItems.{test-from_AllPairs}
use Rattle.xml_tokens.proofs.TagOutcomes.{what_is_read_is_a_tag}
use Rattle.xml_tokens.specs.RawTags.{attribute_of}
use Rattle.xml_tokens.specs.Tags.{Attribute, is_empty, names_of, start_tag, tag_of}
use Rattle.xml_tokens.specs.Tags as spelled
use Rattle.xml_tokens.specs.declared.raw_tags.RawAttribute.{RawAttribute}
use Rattle.xml_names.proofs.Parted.{names_tell}
use Rattle.xml_names.specs.Declarations.{declared_prefix, others_of, unless_binding}
use Rattle.xml_names.specs.Expansion.{Name, are_distinct, attribute_ns, expanded_attribute, expanded_attributes, expanded_name, expanded_names, in_front, is_same, plain_attribute, with_value}
use Rattle.xml_names.specs.Names.{has_colon, is_colon, local_of, prefix_of}
use Rattle.xml_names.specs.Scopes.{Scope, bound}
use Rattle.xml_names.specs.Starts.{attributes_in}
use Rattle.xml_names.specs.declared.expansion.ExpandedAttribute.{ExpandedAttribute}

-- ---- a tag's attributes have spelled names of their own, and so have those that are no declarations

pub distinct_read : (bytes name : List ℕ) (xs : List Attribute) (empty : Bool) → tag_of bytes ≡ Ok (start_tag name xs empty) → spelled.are_distinct (names_of xs) ≡ true
distinct_read bytes name xs empty e = test-from_AllPairs bytes_eq bytes_eq-Decides (names_of xs) (what_is_read_is_a_tag bytes (start_tag name xs empty) e).distinct

none_kept : (n : List ℕ) (o : Option (List ℕ)) (a : Attribute) (xs : List Attribute) → bytes_eq n a.name ≡ false → list_any (bytes_eq n) (names_of xs) ≡ false → list_any (bytes_eq n) (names_of (unless_binding o a xs)) ≡ false
none_kept n None a xs e h = or_from (bytes_eq n a.name) _ e h
none_kept n (Some p) a xs e h = h

none_other : (n : List ℕ) (xs : List Attribute) → list_any (bytes_eq n) (names_of xs) ≡ false → list_any (bytes_eq n) (names_of (others_of xs)) ≡ false
none_other n [] h = refl
none_other n (a ∷ xs) h =
    let p = or_parts (bytes_eq n a.name) _ h in
    none_kept n (declared_prefix a.name) a (others_of xs) p.0 (none_other n xs p.1)

distinct_kept : (o : Option (List ℕ)) (a : Attribute) (xs : List Attribute) → list_any (bytes_eq a.name) (names_of xs) ≡ false → spelled.are_distinct (names_of xs) ≡ true → spelled.are_distinct (names_of (unless_binding o a xs)) ≡ true
distinct_kept None a xs e h = and_from (not (list_any (bytes_eq a.name) (names_of xs))) _ (not_from_false _ e) h
distinct_kept (Some p) a xs e h = h

pub distinct_others : (xs : List Attribute) → spelled.are_distinct (names_of xs) ≡ true → spelled.are_distinct (names_of (others_of xs)) ≡ true
distinct_others [] h = refl
distinct_others (a ∷ xs) h =
    let p = and_parts (not (list_any (bytes_eq a.name) (names_of xs))) _ h in
    distinct_kept (declared_prefix a.name) a (others_of xs) (none_other a.name xs (not-true _ p.0)) (distinct_others xs p.1)

-- ---- names without a prefix

abbrev plain : List ℕ → Name
plain name = record { ns = []; name = name }

plain_if : (b : Bool) (scope : Scope) (name before after : List ℕ) → b ≡ false
    → option_map (λ ns. record { ns = ns; name = cond b after name }) (cond (is_empty (cond b before [])) (Some []) (bound scope (cond b before []))) ≡ Some (plain name)
plain_if true scope name before after h = absurd (false≢true (sym h))
plain_if false scope name before after h = refl

plain_name : (scope : Scope) (name : List ℕ) → has_colon name ≡ false → expanded_name scope name ≡ Some (plain name)
unfolding expanded_name attribute_ns prefix_of local_of
plain_name scope name h = plain_if (has_colon name) scope name (before_first is_colon name) (after_first is_colon name) h

plain_names : (scope : Scope) (xs : List RawAttribute) → list_any (λ a. has_colon a.name.now) xs ≡ false → expanded_names scope (names_of (map attribute_of xs)) ≡ Some (map plain (names_of (map attribute_of xs)))
plain_names scope [] h = refl
plain_names scope (a ∷ xs) h =
    let p = or_parts (has_colon a.name.now) _ h in
    ap (λ o. option_and_then (λ e. in_front (e ∷ []) (expanded_names scope (names_of (map attribute_of xs)))) o) (plain_name scope a.name.now p.0)
    ∙ ap (in_front (plain a.name.now ∷ [])) (plain_names scope xs p.1)

any_plain : (n : List ℕ) (ns : List (List ℕ)) → list_any (is_same (plain n)) (map plain ns) ≡ list_any (bytes_eq n) ns
any_plain n [] = refl
any_plain n (m ∷ ns) = ap (λ b. b || list_any (is_same (plain n)) (map plain ns)) (and-true (bytes_eq n m)) ∙ ap (λ b. bytes_eq n m || b) (any_plain n ns)

distinct_plain : (ns : List (List ℕ)) → are_distinct (map plain ns) ≡ spelled.are_distinct ns
distinct_plain [] = refl
distinct_plain (n ∷ ns) = ap (λ b. not b && are_distinct (map plain ns)) (any_plain n ns) ∙ ap (λ b. not (list_any (bytes_eq n) ns) && b) (distinct_plain ns)

pub plain_tell : (scope : Scope) (xs : List RawAttribute) → list_any (λ a. has_colon a.name.now) xs ≡ false → spelled.are_distinct (names_of (map attribute_of xs)) ≡ true → true ≡ is_some (attributes_in scope (map attribute_of xs))
plain_tell scope xs h d =
    let ns = names_of (map attribute_of xs) in
    names_tell scope (map attribute_of xs) (map plain ns) true (plain_names scope xs h) (sym (distinct_plain ns ∙ d))

-- ---- attributes without a prefix

abbrev plain_of : RawAttribute → ExpandedAttribute
plain_of a = plain_attribute (attribute_of a)

plain_one : (scope : Scope) (a : RawAttribute) → has_colon a.name.now ≡ false → expanded_attribute scope (attribute_of a) ≡ Some (plain_of a)
plain_one scope a h = ap (option_map (with_value a.value)) (plain_name scope a.name.now h)

pub plain_expanded : (scope : Scope) (xs : List RawAttribute) → list_any (λ a. has_colon a.name.now) xs ≡ false → expanded_attributes scope (map attribute_of xs) ≡ Some (map (λ a. plain_attribute (attribute_of a)) xs)
plain_expanded scope [] h = refl
plain_expanded scope (a ∷ xs) h =
    let p = or_parts (has_colon a.name.now) _ h in
    ap (λ o. option_and_then (λ e. in_front (e ∷ []) (expanded_attributes scope (map attribute_of xs))) o) (plain_one scope a p.0)
    ∙ ap (in_front (plain_of a ∷ [])) (plain_expanded scope xs p.1)

pub plain_next : (seen : List RawAttribute) (a : RawAttribute) (old new : List ExpandedAttribute) (ns name : List ℕ) → ns ≡ [] → name ≡ a.name.now → old ≡ map (λ x. plain_attribute (attribute_of x)) seen
    → new ≡ old ++ record { ns = ns; name = name; value = a.value } ∷ [] → new ≡ map (λ x. plain_attribute (attribute_of x)) (seen ++ a ∷ [])
plain_next seen a old new ns name n m o is =
    let made : List ℕ → List ℕ → List ExpandedAttribute = λ s l. record { ns = s; name = l; value = a.value } ∷ [] in
    is ∙ ap (λ l. l ++ made ns name) o ∙ ap (λ s. map plain_of seen ++ made s name) n ∙ ap (λ l. map plain_of seen ++ made [] l) m ∙ sym (map_push plain_of seen a)
