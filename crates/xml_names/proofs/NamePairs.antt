-- Names of attributes that are compared in pairs.
use Rattle.std.proofs.Common.{◌≡◌, ℕ, ◌+◌, ◌-◌, ◌<◌, ◌≤◌, Bool, true, false, not, ◌&&◌, ◌||◌, List, [], ◌∷◌, Option, Some, None, map, length, get_or, take, drop, refl, sym, ap, ◌∙◌}
use Rattle.std.proofs.Math.ListN.{drop_of_length-le}
use Rattle.std.proofs.lemmas.List.{drop_more, take_rest}
use Rattle.std.specs.List.{list_any}
use Rattle.std.specs.Option.{option_map, option_and_then, is_some}
use Rattle.xml_tokens.specs.RawTags.{attribute_of}
use Rattle.xml_tokens.specs.Tags.{Attribute, names_of}
use Rattle.xml_tokens.specs.declared.raw_tags.RawAttribute.{RawAttribute}
use Rattle.xml_names.proofs.Parted.{names_mean, some_if}
use Rattle.xml_names.specs.Expansion.{Name, are_distinct, expanded_attributes, expanded_name, expanded_names, in_front, is_same, is_same_if, name_of}
use Rattle.xml_names.specs.Scopes.{Scope}
use Rattle.xml_names.specs.Starts.{attributes_in, if_distinct}
use Rattle.xml_names.specs.declared.expansion.ExpandedAttribute.{ExpandedAttribute}

abbrev are_distinct_if : Option (List Name) → Bool
are_distinct_if None = false
are_distinct_if (Some ns) = are_distinct ns

told : (o : Option (List ExpandedAttribute)) → is_some (option_and_then if_distinct o) ≡ are_distinct_if (option_map (map name_of) o)
told None = refl
told (Some es) = sym (some_if (are_distinct (map name_of es)) es)

tells : (scope : Scope) (xs : List Attribute) → is_some (attributes_in scope xs) ≡ are_distinct_if (expanded_names scope (names_of xs))
unfolding attributes_in
tells scope xs = told (expanded_attributes scope xs) ∙ ap are_distinct_if (sym (names_mean scope xs))

-- ---- whether a name is among others

abbrev IsAmong : Name → Option (List Name) → Bool → Type 0
IsAmong n r b = (ms : List Name) → r ≡ Some ms → b ≡ list_any (is_same n) ms

among_next : (n : Name) (o : Option Name) (r : Option (List Name)) (b : Bool) → IsAmong n r b → IsAmong n (option_and_then (λ e. in_front (e ∷ []) r) o) (is_same_if n o || b)
among_next n None r b f ns h = absurd cc
among_next n (Some m) None b f ns h = absurd cc
among_next n (Some m) (Some ms) b f ns h = let same : m ∷ ms ≡ ns = cc in ap (λ x. is_same n m || x) (f ms refl) ∙ ap (list_any (is_same n)) same

abbrev among : Scope → Name → List RawAttribute → Bool
among scope n xs = list_any (λ a. is_same_if n (expanded_name scope a.name.now)) xs

is_among : (scope : Scope) (n : Name) (xs : List RawAttribute) → IsAmong n (expanded_names scope (names_of (map attribute_of xs))) (among scope n xs)
is_among scope n [] [] h = refl
is_among scope n [] (m ∷ ms) h = let never : [] ≡ m ∷ ms = cc in absurd cc
is_among scope n (a ∷ xs) ms h = among_next n (expanded_name scope a.name.now) (expanded_names scope (names_of (map attribute_of xs))) (among scope n xs) (is_among scope n xs) ms h

other_first : (n : Name) (r : Option (List Name)) (b : Bool) → IsAmong n r b → b ≡ false → are_distinct_if (in_front (n ∷ []) r) ≡ are_distinct_if r
other_first n None b f h = refl
other_first n (Some ms) b f h = ap (λ x. not x && are_distinct ms) (sym (f ms refl) ∙ h)

same_first : (n : Name) (r : Option (List Name)) (b : Bool) → IsAmong n r b → b ≡ true → are_distinct_if (in_front (n ∷ []) r) ≡ false
same_first n None b f h = refl
same_first n (Some ms) b f h = ap (λ x. not x && are_distinct ms) (sym (f ms refl) ∙ h)

-- ---- one attribute after another

abbrev have_names : Scope → List RawAttribute → Bool
have_names scope xs = is_some (attributes_in scope (map attribute_of xs))

none_there : (scope : Scope) → have_names scope [] ≡ true
none_there scope = tells scope []

first_tells : (scope : Scope) (a : RawAttribute) (xs : List RawAttribute) (o : Option Name) → expanded_name scope a.name.now ≡ o
    → have_names scope (a ∷ xs) ≡ are_distinct_if (option_and_then (λ e. in_front (e ∷ []) (expanded_names scope (names_of (map attribute_of xs)))) o)
first_tells scope a xs o e = tells scope (map attribute_of (a ∷ xs)) ∙ ap (λ p. are_distinct_if (option_and_then (λ n. in_front (n ∷ []) (expanded_names scope (names_of (map attribute_of xs)))) p)) e

module _ (scope : Scope) (all : List RawAttribute) (i : ℕ) (within : i < length all) (d : RawAttribute) where
  abbrev a : RawAttribute
  a = get_or all i d

  left : drop i all ≡ a ∷ drop (i + 1) all
  left = drop_more all i d within

  pub other_next : (n : Name) → Some n ≡ expanded_name scope a.name.now → among scope n (take (length all - (i + 1)) (drop (i + 1) all)) ≡ false → have_names scope (drop (i + 1) all) ≡ have_names scope (drop i all)
  other_next n e h =
      let rest = drop (i + 1) all in
      tells scope (map attribute_of rest)
      ∙ sym (ap (have_names scope) left ∙ first_tells scope a rest (Some n) (sym e)
      ∙ other_first n (expanded_names scope (names_of (map attribute_of rest))) (among scope n rest) (is_among scope n rest) (ap (among scope n) (sym (take_rest all (i + 1))) ∙ h))

  pub same_next : (n : Name) → Some n ≡ expanded_name scope a.name.now → among scope n (take (length all - (i + 1)) (drop (i + 1) all)) ≡ true → false ≡ have_names scope (drop i all)
  same_next n e h =
      let rest = drop (i + 1) all in
      sym (ap (have_names scope) left ∙ first_tells scope a rest (Some n) (sym e)
      ∙ same_first n (expanded_names scope (names_of (map attribute_of rest))) (among scope n rest) (is_among scope n rest) (ap (among scope n) (sym (take_rest all (i + 1))) ∙ h))

  pub unnamed_next : None ≡ expanded_name scope a.name.now → false ≡ have_names scope (drop i all)
  unnamed_next e = sym (ap (have_names scope) left ∙ first_tells scope a (drop (i + 1) all) None (sym e))

pub none_left : (scope : Scope) (all : List RawAttribute) (i : ℕ) → length all ≤ i → true ≡ have_names scope (drop i all)
none_left scope all i h = sym (ap (have_names scope) (drop_of_length-le all h) ∙ none_there scope)
