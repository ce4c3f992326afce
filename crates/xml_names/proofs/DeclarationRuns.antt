-- Declarations and other attributes of a list with one more at its end.
use Rattle.std.proofs.Common.{◌≡◌, ℕ, false, List, [], ◌∷◌, ◌++◌, Option, Some, None, map, refl, sym, ap, ◌∙◌, append-nil}
use Rattle.std.proofs.lemmas.Bool.{false≢true, or_parts}
use Rattle.std.proofs.lemmas.List.{map_push}
use Rattle.std.specs.List.{list_any}
use Rattle.std.specs.Option.{is_some}
use Rattle.xml_tokens.specs.RawTags.{attribute_of}
use Rattle.xml_tokens.specs.declared.raw_tags.RawAttribute.{RawAttribute}
use Rattle.xml_tokens.specs.Tags.{Attribute}
use Rattle.xml_names.specs.Declarations.{declared_prefix, with_binding, unless_binding, bindings_of, others_of}
use Rattle.xml_names.specs.Scopes.{Scope}

with_more : (o : Option (List ℕ)) (ns : List ℕ) (xs ys zs : Scope) → xs ≡ ys ++ zs → with_binding o ns xs ≡ with_binding o ns ys ++ zs
with_more None ns xs ys zs e = e
with_more (Some p) ns xs ys zs e = ap (λ l. record { prefix = p; ns = ns } ∷ l) e

unless_more : (o : Option (List ℕ)) (a : Attribute) (xs ys zs : List Attribute) → xs ≡ ys ++ zs → unless_binding o a xs ≡ unless_binding o a ys ++ zs
unless_more None a xs ys zs e = ap (λ l. a ∷ l) e
unless_more (Some p) a xs ys zs e = e

pub bindings_push : (xs : List Attribute) (a : Attribute) → bindings_of (xs ++ a ∷ []) ≡ bindings_of xs ++ with_binding (declared_prefix a.name) a.value []
bindings_push [] a = refl
bindings_push (x ∷ xs) a = with_more (declared_prefix x.name) x.value (bindings_of (xs ++ a ∷ [])) (bindings_of xs) (with_binding (declared_prefix a.name) a.value []) (bindings_push xs a)

pub others_push : (xs : List Attribute) (a : Attribute) → others_of (xs ++ a ∷ []) ≡ others_of xs ++ unless_binding (declared_prefix a.name) a []
others_push [] a = refl
others_push (x ∷ xs) a = unless_more (declared_prefix x.name) x (others_of (xs ++ a ∷ [])) (others_of xs) (unless_binding (declared_prefix a.name) a []) (others_push xs a)

-- ---- a list of attributes that grows

module _ (seen : List RawAttribute) (a : RawAttribute) where
  bindings_next : bindings_of (map attribute_of (seen ++ a ∷ [])) ≡ bindings_of (map attribute_of seen) ++ with_binding (declared_prefix a.name.now) a.value []
  bindings_next = ap bindings_of (map_push attribute_of seen a) ∙ bindings_push (map attribute_of seen) (attribute_of a)

  others_next : others_of (map attribute_of (seen ++ a ∷ [])) ≡ others_of (map attribute_of seen) ++ unless_binding (declared_prefix a.name.now) (attribute_of a) []
  others_next = ap others_of (map_push attribute_of seen a) ∙ others_push (map attribute_of seen) (attribute_of a)

pub declared_next : (seen : List RawAttribute) (a : RawAttribute) (p : List ℕ) (old new : Scope) → declared_prefix a.name.now ≡ Some p → old ≡ bindings_of (map attribute_of seen) → new ≡ old ++ record { prefix = p; ns = a.value } ∷ [] → new ≡ bindings_of (map attribute_of (seen ++ a ∷ []))
declared_next seen a p old new e o n =
    n ∙ ap (λ (s : Scope). s ++ record { prefix = p; ns = a.value } ∷ []) o ∙ sym (bindings_next seen a ∙ ap (λ q. bindings_of (map attribute_of seen) ++ with_binding q a.value []) e)

pub declared_kept : (seen : List RawAttribute) (a : RawAttribute) (p : List ℕ) (old : List Attribute) → declared_prefix a.name.now ≡ Some p → old ≡ others_of (map attribute_of seen) → old ≡ others_of (map attribute_of (seen ++ a ∷ []))
declared_kept seen a p old e o =
    o ∙ sym (others_next seen a ∙ ap (λ q. others_of (map attribute_of seen) ++ unless_binding q (attribute_of a) []) e ∙ append-nil (others_of (map attribute_of seen)))

pub other_kept : (seen : List RawAttribute) (a : RawAttribute) (old : Scope) → declared_prefix a.name.now ≡ None → old ≡ bindings_of (map attribute_of seen) → old ≡ bindings_of (map attribute_of (seen ++ a ∷ []))
other_kept seen a old e o =
    o ∙ sym (bindings_next seen a ∙ ap (λ q. bindings_of (map attribute_of seen) ++ with_binding q a.value []) e ∙ append-nil (bindings_of (map attribute_of seen)))

pub other_next : (seen : List RawAttribute) (a : RawAttribute) (old new : List RawAttribute) → declared_prefix a.name.now ≡ None → map attribute_of old ≡ others_of (map attribute_of seen) → new ≡ old ++ a ∷ [] → map attribute_of new ≡ others_of (map attribute_of (seen ++ a ∷ []))
other_next seen a old new e o n =
    ap (map attribute_of) n ∙ map_push attribute_of old a ∙ ap (λ l. l ++ attribute_of a ∷ []) o ∙ sym (others_next seen a ∙ ap (λ q. others_of (map attribute_of seen) ++ unless_binding q (attribute_of a) []) e)

-- ---- no declaration

kept_first : (a : RawAttribute) (o : Option (List ℕ)) (xs ys : List Attribute) (zs : Scope) → is_some o ≡ false → [] ≡ zs → xs ≡ ys → ([] ≡ with_binding o a.value zs) × (attribute_of a ∷ xs ≡ unless_binding o (attribute_of a) ys)
kept_first a None xs ys zs h z e = (z, ap (λ l. attribute_of a ∷ l) e)
kept_first a (Some p) xs ys zs h z e = absurd (false≢true (sym h))

pub undeclared : (xs : List RawAttribute) → list_any (λ a. is_some (declared_prefix a.name.now)) xs ≡ false → ([] ≡ bindings_of (map attribute_of xs)) × (map attribute_of xs ≡ others_of (map attribute_of xs))
undeclared [] h = (refl, refl)
undeclared (a ∷ xs) h =
    let p = or_parts (is_some (declared_prefix a.name.now)) _ h in
    let ih = undeclared xs p.1 in
    kept_first a (declared_prefix a.name.now) (map attribute_of xs) (others_of (map attribute_of xs)) (bindings_of (map attribute_of xs)) p.0 ih.0 ih.1
