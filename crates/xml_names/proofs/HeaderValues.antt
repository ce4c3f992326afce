-- The values of a header's attributes, put in their places from the last to the first.
use Rattle.std.proofs.Common.{◌≡◌, ℕ, Bool, true, false, cond, List, [], ◌∷◌, ◌++◌, Option, Some, codes, refl, ap, sym, ◌∙◌, ⊎_elim}
use Rattle.std.proofs.lemmas.Bool.{cases_Bool}
use Rattle.std.proofs.lemmas.Slice.Eq.{bytes_eq-Decides}
use Rattle.std.specs.Str.{bytes_eq}
use Rattle.xml_names.specs.Headers.{all_put, plain_put, put, value_in, values_of}
use Rattle.xml_names.specs.Scopes.{xml_namespace}
use Rattle.xml_names.specs.declared.expansion.ExpandedAttribute.{ExpandedAttribute}
use Rattle.xml_names.specs.declared.headers.HeaderValues.{HeaderValues}

-- the last one is put first
pub last_put : (front : List ExpandedAttribute) (a : ExpandedAttribute) (v : HeaderValues) → all_put (front ++ a ∷ []) v ≡ all_put front (put v a)
last_put [] a v = refl
last_put (b ∷ front) a v = ap (λ w. put w b) (last_put front a v)

-- a name that is one word is no other
is_no_other : (name word other : List ℕ) → bytes_eq name word ≡ true → bytes_eq word other ≡ false → bytes_eq name other ≡ false
is_no_other name word other is differs = ap (λ n. bytes_eq n other) ((bytes_eq-Decides name word).0 is) ∙ differs

module _ (name value : List ℕ) (to from id version lang : Option (List ℕ)) where
  abbrev or_value : List ℕ → Option (List ℕ) → Option (List ℕ)
  or_value word o = cond (bytes_eq name word) (Some value) o

  abbrev together : Option (List ℕ) → Option (List ℕ) → Option (List ℕ) → Option (List ℕ) → HeaderValues
  together a b c d = record { to = a; from = b; id = c; version = d; lang = lang }

  abbrev positions : HeaderValues
  positions = together (or_value (codes "to") to) (or_value (codes "from") from) (or_value (codes "id") id) (or_value (codes "version") version)

  versions : bytes_eq name (codes "to") ≡ false → bytes_eq name (codes "from") ≡ false → bytes_eq name (codes "id") ≡ false → positions ≡ plain_put (together to from id version) name value
  versions t f i =
      ⊎_elim
      (λ (is : bytes_eq name (codes "version") ≡ true). rw (t, f, i, is) refl)
      (λ (other : bytes_eq name (codes "version") ≡ false). rw (t, f, i, other) refl)
      (cases_Bool (bytes_eq name (codes "version")))

  ids : bytes_eq name (codes "to") ≡ false → bytes_eq name (codes "from") ≡ false → positions ≡ plain_put (together to from id version) name value
  ids t f =
      ⊎_elim
      (λ (is : bytes_eq name (codes "id") ≡ true). rw (t, f, is, is_no_other name (codes "id") (codes "version") is refl) refl)
      (λ (other : bytes_eq name (codes "id") ≡ false). versions t f other)
      (cases_Bool (bytes_eq name (codes "id")))

  froms : bytes_eq name (codes "to") ≡ false → positions ≡ plain_put (together to from id version) name value
  froms t =
      ⊎_elim
      (λ (is : bytes_eq name (codes "from") ≡ true). rw (t, is, is_no_other name (codes "from") (codes "id") is refl, is_no_other name (codes "from") (codes "version") is refl) refl)
      (λ (other : bytes_eq name (codes "from") ≡ false). ids t other)
      (cases_Bool (bytes_eq name (codes "from")))

  placed : positions ≡ plain_put (together to from id version) name value
  placed =
      ⊎_elim
      (λ (is : bytes_eq name (codes "to") ≡ true).
      rw (is, is_no_other name (codes "to") (codes "from") is refl, is_no_other name (codes "to") (codes "id") is refl, is_no_other name (codes "to") (codes "version") is refl) refl)
      (λ (other : bytes_eq name (codes "to") ≡ false). froms other)
      (cases_Bool (bytes_eq name (codes "to")))

langs : (b : Bool) (value : List ℕ) (v : HeaderValues) → record v { lang = cond b (Some value) v.lang } ≡ cond b (record v { lang = Some value }) v
langs true value v = refl
langs false value v = refl

one_more : (ns name value : List ℕ) (more : List ExpandedAttribute) → values_of (record { ns = ns; name = name; value = value } ∷ more) ≡ put (values_of more) (record { ns = ns; name = name; value = value })
one_more [] name value more =
    placed name value (value_in more [] (codes "to")) (value_in more [] (codes "from")) (value_in more [] (codes "id")) (value_in more [] (codes "version")) (value_in more xml_namespace (codes "lang"))
one_more (n ∷ ns) name value more = langs _ value (values_of more)

pub all_are_put : (xs : List ExpandedAttribute) (v : HeaderValues) → v ≡ values_of [] → all_put xs v ≡ values_of xs
all_are_put [] v e = e
all_are_put (a ∷ xs) v e = ap (λ w. put w a) (all_are_put xs v e) ∙ sym (one_more a.ns a.name a.value xs)
