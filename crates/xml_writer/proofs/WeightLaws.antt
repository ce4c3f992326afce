-- What is written takes no more room than six times the weight. Where there are so many attributes that their numbers have
-- more than twenty digits, the weight is past every length.
use Rattle.std.proofs.Common.{◌≡◌, ℕ, ◌+◌, ◌-◌, ◌*◌, ◌==◌, ◌<◌, ◌≤◌, ◌^◌, Bool, true, false, List, [], ◌∷◌, ◌++◌, length, codes, map, min, bytes_eq, refl, arith, leb, leb-true, leb-false, ⊎_elim, length-append, if◌then◌else◌}
use Rattle.std.proofs.lemmas.Bool.{cases_Bool}
use Rattle.std.proofs.lemmas.Grind.{flat_map-append}
use Rattle.std.proofs.lemmas.Int.Digits.{length-digits_of-le}
use Rattle.std.proofs.lemmas.List.{length-map}
use Rattle.std.specs.Int.Digits.{digits_of}
use Rattle.xml_names.proofs.SpelledLengths.{either, text_short, value_short}
use Rattle.xml_names.specs.Scopes.{xml_namespace}
use Rattle.xml_tokens.specs.Spelling.{spelled_text, spelled_value}
use Rattle.xml_tokens.specs.Tags as tokens
use Rattle.xml_tokens.specs.Tags.{is_empty, tag_end}
use Rattle.xml_trees.specs.Attributes.{Attribute}
use Rattle.xml_trees.specs.Trees.{Elem, Nodes, no_nodes, child, text, element}
use Rattle.xml_writer.proofs.WrittenTags.{next_most}
use Rattle.xml_writer.specs.Canon.{after_attributes, assignment, assignments, declared_default, declares_default, default_inside, foreign, has_nothing, next_number, number_text, opened, spelled, spelled_attribute, spelled_attributes, spelled_name, streams_namespace, tag_attributes, written, written_end_tag, written_nodes}
use Rattle.xml_writer.specs.Weight.{attribute_weight, attributes_weight, nodes_weight, weight}

number_short : (n : ℕ) → n < 2 ^ 64 → length (number_text n) ≤ 20
unfolding number_text
number_short n small =
    let digits = length-digits_of-le 10 20 n (omega arith) (omega arith) in
    either (n == 0) (48 ∷ []) (map (λ d. 48 + d) (digits_of 10 n)) 20 (omega arith) (omega (arith, digits, length-map (digits_of 10 n) (λ d. 48 + d)))

-- ---- attributes

assignment_long : (name value : List ℕ) → length (assignments (spelled name value ∷ [])) ≡ 4 + length name + length (spelled_value value)
unfolding assignment
assignment_long name value =
    simp length-append (omega arith)

joined_long : (xs ys : List tokens.Attribute) → length (assignments (xs ++ ys)) ≡ length (assignments xs) + length (assignments ys)
joined_long xs ys = rw (flat_map-append assignment xs ys) (length-append (assignments xs) (assignments ys))

foreign_short : (digits : List ℕ) (a : Attribute) → length digits ≤ 20 → length (assignments (foreign digits a)) ≤ 6 * attribute_weight a
foreign_short digits a small =
    let declared = codes "xmlns:a" ++ digits in
    let prefixed = 97 ∷ (digits ++ (58 ∷ a.name)) in
    omega (
      arith,
      joined_long (spelled declared a.ns ∷ []) (spelled prefixed a.value ∷ []),
      assignment_long declared a.ns,
      assignment_long prefixed a.value,
      length-append (codes "xmlns:a") digits,
      length-append digits (58 ∷ a.name),
      value_short a.ns,
      value_short a.value,
      small,
    )

one_of : (n : ℕ) (a : Attribute) (none xml : Bool) → n < 2 ^ 64
    → length (assignments (if none then spelled a.name a.value ∷ [] else (if xml then spelled (codes "xml:" ++ a.name) a.value ∷ [] else foreign (number_text n) a))) ≤ 6 * attribute_weight a
one_of n a true xml small = omega (arith, assignment_long a.name a.value, value_short a.value)
one_of n a false true small = omega (arith, assignment_long (codes "xml:" ++ a.name) a.value, length-append (codes "xml:") a.name, value_short a.value)
one_of n a false false small = foreign_short (number_text n) a (number_short n small)

attribute_short : (n : ℕ) (a : Attribute) → n < 2 ^ 64 → length (assignments (spelled_attribute n a)) ≤ 6 * attribute_weight a
unfolding spelled_attribute
attribute_short n a small = one_of n a (is_empty a.ns) (bytes_eq a.ns xml_namespace) small

attributes_short : (n : ℕ) (attrs : List Attribute) → n + length attrs ≤ 2 ^ 64 → length (assignments (spelled_attributes n attrs)) ≤ 6 * attributes_weight attrs
attributes_short n [] few = omega arith
attributes_short n (a ∷ more) few =
    let next = next_number n a in
    let here = attribute_short n a (omega (arith, few)) in
    let rest = attributes_short next more (omega (arith, few, next_most n next a refl)) in
    omega (arith, joined_long (spelled_attribute n a) (spelled_attributes next more), here, rest)

attributes_heavy : (attrs : List Attribute) → length attrs ≤ attributes_weight attrs
attributes_heavy [] = omega arith
attributes_heavy (a ∷ more) = omega (arith, attributes_heavy more)

attributes_fit : (attrs : List Attribute) → min (length (assignments (spelled_attributes 0 attrs))) (2 ^ 64 - 1) ≤ 6 * attributes_weight attrs
attributes_fit attrs =
    ⊎_elim (λ (few : leb (length attrs) (2 ^ 64) ≡ true). let small = leb-true (length attrs) (2 ^ 64) few in omega (arith, attributes_short 0 attrs (omega (arith, small))))
    (λ (many : leb (length attrs) (2 ^ 64) ≡ false). omega (arith, leb-false (length attrs) (2 ^ 64) many, attributes_heavy attrs))
    (cases_Bool (leb (length attrs) (2 ^ 64)))

-- ---- tags

name_short : (ns name : List ℕ) → length (spelled_name ns name) ≤ 7 + length name
unfolding spelled_name
name_short ns name =
    let most = 7 + length name in
    let xml = codes "xml:" ++ name in
    let x = either (bytes_eq ns xml_namespace) xml name most (omega (arith, length-append (codes "xml:") name)) (omega arith) in
    either (bytes_eq ns streams_namespace) (codes "stream:" ++ name) (if bytes_eq ns xml_namespace then xml else name) most (omega (arith, length-append (codes "stream:") name)) x

default_of : (ns : List ℕ) (declares : Bool) → length (assignments (if declares then spelled (codes "xmlns") ns ∷ [] else [])) ≤ 9 + 6 * length ns
default_of ns true = omega (arith, assignment_long (codes "xmlns") ns, value_short ns)
default_of ns false = omega arith

default_short : (default ns : List ℕ) → length (assignments (declared_default default ns)) ≤ 9 + 6 * length ns
unfolding declared_default
default_short default ns = default_of ns (declares_default default ns)

start_fits : (default ns name : List ℕ) (attrs : List Attribute)
    → min (length (opened default ns name attrs)) (2 ^ 64 - 1) ≤ 17 + length name + 6 * length ns + 6 * attributes_weight attrs
start_fits default ns name attrs =
    let inside = assignments (tag_attributes default ns attrs) in
    let parts = joined_long (declared_default default ns) (spelled_attributes 0 attrs) in
    omega (arith, length-append (spelled_name ns name) inside, parts, name_short ns name, default_short default ns, attributes_fit attrs)

after_fits : (nothing : Bool) (ns name inside : List ℕ) (room : ℕ) → min (length inside) (2 ^ 64 - 1) ≤ room
    → min (length (after_attributes nothing ns name inside)) (2 ^ 64 - 1) ≤ 11 + length name + room
after_fits true ns name inside room fits = omega arith
after_fits false ns name inside room fits =
    omega (arith, fits, length-append (tag_end false) (inside ++ written_end_tag ns name), length-append inside (written_end_tag ns name), length-append (spelled_name ns name) (62 ∷ []), name_short ns name)

-- ---- elements

mutual
  pub element_fits : (default : List ℕ) (e : Elem) → min (length (written default e)) (2 ^ 64 - 1) ≤ 6 * weight e
  element_fits default (element ns name attrs kids) =
      let inside = written_nodes (default_inside default ns) kids in
      let following = after_fits (has_nothing kids) ns name inside (6 * nodes_weight kids) (nodes_fit (default_inside default ns) kids) in
      omega (arith, length-append (opened default ns name attrs) (after_attributes (has_nothing kids) ns name inside), start_fits default ns name attrs, following)

  nodes_fit : (default : List ℕ) (kids : Nodes) → min (length (written_nodes default kids)) (2 ^ 64 - 1) ≤ 6 * nodes_weight kids
  nodes_fit default no_nodes = omega arith
  nodes_fit default (child e rest) = omega (arith, length-append (written default e) (written_nodes default rest), element_fits default e, nodes_fit default rest)
  nodes_fit default (text t rest) = omega (arith, length-append (spelled_text t) (written_nodes default rest), text_short t, nodes_fit default rest)

-- with the room there is room
pub room_is_enough : (default : List ℕ) (e : Elem) (room spare : ℕ) → room ≡ min (6 * weight e) (2 ^ 64 - 1) → room ≤ spare → room < 2 ^ 64 - 1 → length (written default e) ≤ spare
room_is_enough default e room spare is fits small = omega (arith, is, fits, small, element_fits default e)
