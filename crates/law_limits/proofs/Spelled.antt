-- How long names, values and texts are as they are written.
use Rattle.std.proofs.Common.{◌≡◌, ℕ, ◌+◌, ◌*◌, ◌==◌, ◌≤◌, Bool, true, false, ◌||◌, List, [], ◌∷◌, ◌++◌, length, codes, bytes_eq, arith, length-append, if◌then◌else◌}
use Rattle.std.proofs.lemmas.Bool.{false≢true}
use Rattle.std.proofs.lemmas.Grind.{flat_map-append}
use Rattle.std.specs.List.{AllByRecursion}
use Rattle.xml_names.proofs.SpelledLengths.{either, value_short}
use Rattle.xml_names.specs.Scopes.{xml_namespace}
use Rattle.xml_tokens.specs.Spelling.{spelled_value}
use Rattle.xml_tokens.specs.Tags as tokens
use Rattle.xml_tokens.specs.Tags.{is_empty}
use Rattle.xml_trees.specs.Attributes.{Attribute}
use Rattle.xml_writer.specs.Canon.{assignment, assignments, declared_default, foreign, next_number, number_text, spelled, spelled_attribute, spelled_attributes, spelled_name, streams_namespace, declares_default}

-- ---- attributes without a numbered prefix

abbrev pub is_calm : List ℕ → Bool
is_calm ns = is_empty ns || bytes_eq ns xml_namespace

-- with a space, the sign, two quotes and a prefix
abbrev pub attribute_cost : Attribute → ℕ
attribute_cost a = 8 + length a.name + 6 * length a.value

abbrev pub attributes_cost : List Attribute → ℕ
attributes_cost [] = 0
attributes_cost (a ∷ more) = attribute_cost a + attributes_cost more

assignment_long : (name value : List ℕ) → length (assignments (spelled name value ∷ [])) ≡ 4 + length name + length (spelled_value value)
unfolding assignment
assignment_long name value =
    simp length-append (omega arith)

record Short (a : Attribute) (l : List tokens.Attribute) : Type 0 where
  bytes : length (assignments l) ≤ attribute_cost a
  count : length l ≤ 1

one_of : (n : ℕ) (a : Attribute) (none xml : Bool) → (none || xml) ≡ true
    → Short a (if none then spelled a.name a.value ∷ [] else (if xml then spelled (codes "xml:" ++ a.name) a.value ∷ [] else foreign (number_text n) a))
one_of n a true xml calm = record { bytes = omega (arith, assignment_long a.name a.value, value_short a.value); count = omega arith }
one_of n a false true calm =
    record { bytes = omega (arith, assignment_long (codes "xml:" ++ a.name) a.value, length-append (codes "xml:") a.name, value_short a.value); count = omega arith }
one_of n a false false calm = absurd (false≢true calm)

one_short : (n : ℕ) (a : Attribute) → is_calm a.ns ≡ true → Short a (spelled_attribute n a)
unfolding spelled_attribute
one_short n a calm = one_of n a (is_empty a.ns) (bytes_eq a.ns xml_namespace) calm

pub record AreShort (attrs : List Attribute) (l : List tokens.Attribute) : Type 0 where
  pub bytes : length (assignments l) ≤ attributes_cost attrs
  pub count : length l ≤ length attrs

pub joined_long : (xs ys : List tokens.Attribute) → length (assignments (xs ++ ys)) ≡ length (assignments xs) + length (assignments ys)
joined_long xs ys = rw (flat_map-append assignment xs ys) (length-append (assignments xs) (assignments ys))

pub attributes_short : (n : ℕ) (attrs : List Attribute) → AllByRecursion (λ (a : Attribute). is_calm a.ns ≡ true) attrs → AreShort attrs (spelled_attributes n attrs)
attributes_short n [] calm = record { bytes = omega arith; count = omega arith }
attributes_short n (a ∷ more) calm =
    let here = one_short n a calm.0 in
    let rest = attributes_short (next_number n a) more calm.1 in
    let x = spelled_attribute n a in
    let y = spelled_attributes (next_number n a) more in
    record { bytes = omega (arith, joined_long x y, here.bytes, rest.bytes); count = omega (arith, length-append x y, here.count, rest.count) }

-- ---- tags

pub name_short : (ns name : List ℕ) → length (spelled_name ns name) ≤ 7 + length name
unfolding spelled_name
name_short ns name =
    let most = 7 + length name in
    let xml = codes "xml:" ++ name in
    let x = either (bytes_eq ns xml_namespace) xml name most (omega (arith, length-append (codes "xml:") name)) (omega arith) in
    either (bytes_eq ns streams_namespace) (codes "stream:" ++ name) (if bytes_eq ns xml_namespace then xml else name) most (omega (arith, length-append (codes "stream:") name)) x

record DefaultShort (ns : List ℕ) (l : List tokens.Attribute) : Type 0 where
  bytes : length (assignments l) ≤ 9 + 6 * length ns
  count : length l ≤ 1

default_of : (ns : List ℕ) (declares : Bool) → DefaultShort ns (if declares then spelled (codes "xmlns") ns ∷ [] else [])
default_of ns true = record { bytes = omega (arith, assignment_long (codes "xmlns") ns, value_short ns); count = omega arith }
default_of ns false = record { bytes = omega arith; count = omega arith }

default_short : (default ns : List ℕ) → DefaultShort ns (declared_default default ns)
unfolding declared_default
default_short default ns = default_of ns (declares_default default ns)

pub record TagShort (ns : List ℕ) (attrs : List Attribute) (l : List tokens.Attribute) : Type 0 where
  pub bytes : length (assignments l) ≤ 9 + 6 * length ns + attributes_cost attrs
  pub count : length l ≤ length attrs + 1

pub tag_short : (default ns : List ℕ) (attrs : List Attribute) → AllByRecursion (λ (a : Attribute). is_calm a.ns ≡ true) attrs → TagShort ns attrs (declared_default default ns ++ spelled_attributes 0 attrs)
tag_short default ns attrs calm =
    let here = default_short default ns in
    let rest = attributes_short 0 attrs calm in
    let x = declared_default default ns in
    let y = spelled_attributes 0 attrs in
    record { bytes = omega (arith, joined_long x y, here.bytes, rest.bytes); count = omega (arith, length-append x y, here.count, rest.count) }
