-- The attributes of a written stanza: each is found again, and they stand in the order of a tree.
use Rattle.std.proofs.Common.{◌≡◌, ℕ, true, false, ◌&&◌, List, [], ◌++◌, Option, Some, None, refl, ◌∙◌, ap, append_assoc, append-nil, codes}
use Rattle.std.specs.List.{AllByRecursion}
use Rattle.std.specs.List.Sorted.{IsStrictlySortedBy}
use Rattle.std.specs.Option.{option_map, option_or}
use Rattle.std.specs.Str.{bytes_eq}
use Rattle.std.specs.declared.cmp.Ordering.TheVariants.{Less}
use Rattle.std.proofs.lemmas.List.Folds.{find-append}
use Rattle.xml_trees.specs.Attributes.{Attribute, found, has_name, name_order, sorted_attributes}
use Rattle.xml_trees.specs.Readers.{attr_of}
use Rattle.xml_trees.specs.Tidied.{tidied}
use Rattle.xml_trees.specs.Trees.{Elem, element}
use Rattle.xml_trees.proofs.AttributeOrder.{sorted_attributes_IsAttrsOf, sorted_attributes_stay}
use Rattle.im_stanza.specs.Names.{xml_ns}
use Rattle.im_stanza.specs.Written.{attr_where, attrs_written}

-- an attribute with a value
abbrev given_attr : List ℕ → List ℕ → List ℕ → Attribute
given_attr ns name v = record { ns = ns; name = name; value = v }

-- the value that is found under a name
abbrev value_in : List ℕ → List ℕ → List Attribute → Option (List ℕ)
value_in ns name attrs = option_map (λ (a : Attribute). a.value) (found ns name attrs)

or_none : {A : Type 0} (o : Option A) → option_or o None ≡ o
or_none None = refl
or_none (Some x) = refl

map_or : {A B : Type 0} (f : A → B) (o p : Option A) → option_map f (option_or o p) ≡ option_or (option_map f o) (option_map f p)
map_or f None p = refl
map_or f (Some x) p = refl

value_append : (ns name : List ℕ) (xs ys : List Attribute) → value_in ns name (xs ++ ys) ≡ option_or (value_in ns name xs) (value_in ns name ys)
value_append ns name xs ys =
    ap (option_map (λ (a : Attribute). a.value)) (find-append (has_name ns name) xs ys) ∙ map_or (λ (a : Attribute). a.value) (found ns name xs) (found ns name ys)

here : (ns name : List ℕ) → (bytes_eq ns ns && bytes_eq name name) ≡ true → (v : Option (List ℕ)) → value_in ns name (attr_where ns name v) ≡ v
here ns name same None = refl
here ns name same (Some v) = rw same refl

elsewhere : (ns name ns' name' : List ℕ) → (bytes_eq ns ns' && bytes_eq name name') ≡ false → (v : Option (List ℕ)) → value_in ns' name' (attr_where ns name v) ≡ None
elsewhere ns name ns' name' other None = refl
elsewhere ns name ns' name' other (Some v) = rw other refl

-- what is found under a name, from what is found in each of the five
five : (ns name : List ℕ) (from id to kind lang u v w x y : Option (List ℕ))
    → value_in ns name (attr_where [] (codes "from") from) ≡ u → value_in ns name (attr_where [] (codes "id") id) ≡ v → value_in ns name (attr_where [] (codes "to") to) ≡ w
    → value_in ns name (attr_where [] (codes "type") kind) ≡ x → value_in ns name (attr_where xml_ns (codes "lang") lang) ≡ y
    → value_in ns name (attrs_written from id to kind lang) ≡ option_or (option_or (option_or (option_or u v) w) x) y
five ns name from id to kind lang u v w x y p q r s t =
    let a = attr_where [] (codes "from") from in
    let b = attr_where [] (codes "id") id in
    let c = attr_where [] (codes "to") to in
    let d = attr_where [] (codes "type") kind in
    let two = value_append ns name a b ∙ (λ i. option_or (p i) (q i)) in
    let three = value_append ns name (a ++ b) c ∙ (λ i. option_or (two i) (r i)) in
    let four = value_append ns name (a ++ b ++ c) d ∙ (λ i. option_or (three i) (s i)) in
    value_append ns name (a ++ b ++ c ++ d) (attr_where xml_ns (codes "lang") lang) ∙ (λ i. option_or (four i) (t i))

module _ (from id to kind lang : Option (List ℕ)) where
  pub from_written : value_in [] (codes "from") (attrs_written from id to kind lang) ≡ from
  from_written =
      five [] (codes "from") from id to kind lang from None None None None
      (here [] (codes "from") refl from) (elsewhere [] (codes "id") [] (codes "from") refl id) (elsewhere [] (codes "to") [] (codes "from") refl to)
      (elsewhere [] (codes "type") [] (codes "from") refl kind) (elsewhere xml_ns (codes "lang") [] (codes "from") refl lang) ∙ or_none (option_or (option_or (option_or from None) None) None) ∙ or_none (option_or (option_or from None) None) ∙ or_none (option_or from None) ∙ or_none from

  pub id_written : value_in [] (codes "id") (attrs_written from id to kind lang) ≡ id
  id_written =
      five [] (codes "id") from id to kind lang None id None None None
      (elsewhere [] (codes "from") [] (codes "id") refl from) (here [] (codes "id") refl id) (elsewhere [] (codes "to") [] (codes "id") refl to)
      (elsewhere [] (codes "type") [] (codes "id") refl kind) (elsewhere xml_ns (codes "lang") [] (codes "id") refl lang) ∙ or_none (option_or (option_or id None) None) ∙ or_none (option_or id None) ∙ or_none id

  pub to_written : value_in [] (codes "to") (attrs_written from id to kind lang) ≡ to
  to_written =
      five [] (codes "to") from id to kind lang None None to None None
      (elsewhere [] (codes "from") [] (codes "to") refl from) (elsewhere [] (codes "id") [] (codes "to") refl id) (here [] (codes "to") refl to)
      (elsewhere [] (codes "type") [] (codes "to") refl kind) (elsewhere xml_ns (codes "lang") [] (codes "to") refl lang) ∙ or_none (option_or to None) ∙ or_none to

  pub type_written : value_in [] (codes "type") (attrs_written from id to kind lang) ≡ kind
  type_written =
      five [] (codes "type") from id to kind lang None None None kind None
      (elsewhere [] (codes "from") [] (codes "type") refl from) (elsewhere [] (codes "id") [] (codes "type") refl id) (elsewhere [] (codes "to") [] (codes "type") refl to)
      (here [] (codes "type") refl kind) (elsewhere xml_ns (codes "lang") [] (codes "type") refl lang) ∙ or_none kind

  pub lang_written : value_in xml_ns (codes "lang") (attrs_written from id to kind lang) ≡ lang
  lang_written =
      five xml_ns (codes "lang") from id to kind lang None None None None lang
      (elsewhere [] (codes "from") xml_ns (codes "lang") refl from) (elsewhere [] (codes "id") xml_ns (codes "lang") refl id) (elsewhere [] (codes "to") xml_ns (codes "lang") refl to)
      (elsewhere [] (codes "type") xml_ns (codes "lang") refl kind) (here xml_ns (codes "lang") refl lang)

-- tidying an element leaves what its attributes say
pub attr_tidied : (ns name : List ℕ) (e : Elem) → attr_of ns name (tidied e) ≡ attr_of ns name e
attr_tidied ns name (element a b attrs kids) = ap (option_map (λ (x : Attribute). x.value)) ((sorted_attributes_IsAttrsOf attrs).firsts ns name)

-- Every attribute of the list stands behind those of this name.
abbrev Behind : List ℕ → List ℕ → List Attribute → Type 0
Behind ns name rest = (v : List ℕ) → AllByRecursion (λ y. name_order (given_attr ns name v) y ≡ Less) rest

after_where : (ns name ns' name' : List ℕ) (given : Option (List ℕ)) (rest : List Attribute) → ((v w : List ℕ) → name_order (given_attr ns name v) (given_attr ns' name' w) ≡ Less)
    → Behind ns name rest → Behind ns name (attr_where ns' name' given ++ rest)
after_where ns name ns' name' None rest less following = following
after_where ns name ns' name' (Some w) rest less following = λ v. (less v w, following v)

ascends : (ns name : List ℕ) (given : Option (List ℕ)) (rest : List Attribute) → Behind ns name rest → IsStrictlySortedBy name_order rest → IsStrictlySortedBy name_order (attr_where ns name given ++ rest)
unfolding IsStrictlySortedBy
ascends ns name None rest following sorted = sorted
ascends ns name (Some v) rest following sorted = (following v, sorted)

nothing_ascends : IsStrictlySortedBy name_order []
unfolding IsStrictlySortedBy
nothing_ascends = tt

module _ (from id to kind lang : Option (List ℕ)) where
  abbrev last_one : List Attribute
  last_one = attr_where xml_ns (codes "lang") lang ++ []

  abbrev last_two : List Attribute
  last_two = attr_where [] (codes "type") kind ++ last_one

  abbrev last_three : List Attribute
  last_three = attr_where [] (codes "to") to ++ last_two

  abbrev last_four : List Attribute
  last_four = attr_where [] (codes "id") id ++ last_three

  abbrev all_five : List Attribute
  all_five = attr_where [] (codes "from") from ++ last_four

  five_ascend : IsStrictlySortedBy name_order all_five
  five_ascend =
      ascends [] (codes "from") from last_four
      (after_where [] (codes "from") [] (codes "id") id last_three (λ v w. refl) (after_where [] (codes "from") [] (codes "to") to last_two (λ v w. refl) (after_where [] (codes "from") [] (codes "type") kind last_one (λ v w. refl) (after_where [] (codes "from") xml_ns (codes "lang") lang [] (λ v w. refl) (λ v. tt)))))
      (ascends [] (codes "id") id last_three
      (after_where [] (codes "id") [] (codes "to") to last_two (λ v w. refl) (after_where [] (codes "id") [] (codes "type") kind last_one (λ v w. refl) (after_where [] (codes "id") xml_ns (codes "lang") lang [] (λ v w. refl) (λ v. tt))))
      (ascends [] (codes "to") to last_two (after_where [] (codes "to") [] (codes "type") kind last_one (λ v w. refl) (after_where [] (codes "to") xml_ns (codes "lang") lang [] (λ v w. refl) (λ v. tt)))
      (ascends [] (codes "type") kind last_one (after_where [] (codes "type") xml_ns (codes "lang") lang [] (λ v w. refl) (λ v. tt)) (ascends xml_ns (codes "lang") lang [] (λ v. tt) nothing_ascends))))

  in_order : attrs_written from id to kind lang ≡ all_five
  in_order = simp (append_assoc, append-nil)

  -- the attributes of a stanza stand as they are written
  pub attrs_stay : sorted_attributes (attrs_written from id to kind lang) ≡ attrs_written from id to kind lang
  attrs_stay = rw in_order (sorted_attributes_stay all_five five_ascend)
