-- Attributes with expanded names (Namespaces in XML 1.0, sections 2.1 and 6.3), and their order.
use Rattle.std.specs.Prelude.{◌≡◌, ℕ, Bool, true, ◌&&◌, List, [], ◌∷◌, Option, Some, None, find}
use Rattle.std.specs.Cmp.Lexicographic.{slice_cmp}
use Rattle.std.specs.List.Sorted.{IsStrictlySortedBy}
use Rattle.std.specs.Ordering.{is_lt, match_ordering, nat_cmp, on, then_cmp}
use Rattle.std.specs.Str.{bytes_eq}
use Rattle.std.specs.declared.cmp.Ordering.{Ordering}
use Rattle.xml_trees.specs.declared.attributes.Attr.{Attr}

-- an attribute: its namespace (empty where it has none), its name without a prefix, and its value
abbrev pub Attribute : Type 0
Attribute = Attr

abbrev pub attribute : List ℕ → List ℕ → List ℕ → Attribute
attribute ns name value = record { ns = ns; name = name; value = value }

-- the order of names: by the bytes of the namespace, and then by the bytes of the name
abbrev pub name_order : Attribute → Attribute → Ordering
name_order = then_cmp (on (λ (a : Attribute). a.ns) (slice_cmp nat_cmp)) (on (λ (a : Attribute). a.name) (slice_cmp nat_cmp))

-- the attribute has this namespace and name
abbrev pub has_name : List ℕ → List ℕ → Attribute → Bool
has_name ns name a = bytes_eq a.ns ns && bytes_eq a.name name

-- the first attribute with a namespace and name
abbrev pub found : List ℕ → List ℕ → List Attribute → Option Attribute
found ns name attrs = find (has_name ns name) attrs

-- What tidying makes of given attributes: they ascend by their names, so that no two have one name, and under each
-- namespace and name stands the first of those that were given with it, or none where none was.
pub record IsAttrsOf (given kept : List Attribute) : Type 0 where
  pub ascending : IsStrictlySortedBy name_order kept
  pub firsts : (ns name : List ℕ) → found ns name kept ≡ found ns name given

-- an attribute put into ascending ones, in place of one with its name
abbrev pub put_attribute : Attribute → List Attribute → List Attribute
put_attribute a [] = a ∷ []
put_attribute a (b ∷ bs) = match_ordering (name_order a b) (a ∷ b ∷ bs) (a ∷ bs) (b ∷ put_attribute a bs)

-- attributes in order, of several with one name the first
abbrev pub sorted_attributes : List Attribute → List Attribute
sorted_attributes [] = []
sorted_attributes (a ∷ rest) = put_attribute a (sorted_attributes rest)

-- the name of an attribute is above that of the one before it, where there is one
abbrev pub is_above : Option Attribute → Attribute → Bool
is_above None a = true
is_above (Some b) a = is_lt (name_order b a)
