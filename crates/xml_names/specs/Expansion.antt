-- Expanded names (Namespaces in XML 1.0, sections 2.1, 5 and 6).
use Rattle.std.specs.Prelude.{ℕ, ◌≢◌, Bool, false, ◌&&◌, if◌then◌else◌, List, [], ◌∷◌, ◌++◌, Option, Some, None, codes, unwrap_or, AllPairs}
use Rattle.std.specs.Option.{option_map, option_and_then}
use Rattle.std.specs.Str.{bytes_eq}
use Rattle.base_lemmas.specs.Distinct.{are_distinct_by}
use Rattle.xml_tokens.specs.Tags.{Attribute, is_empty}
use Rattle.xml_names.specs.Names.{prefix_of, local_of}
use Rattle.xml_names.specs.Scopes.{Scope, bound}
use Rattle.xml_names.specs.declared.expansion.ExpandedAttribute.{ExpandedAttribute}
use Rattle.xml_names.specs.declared.expansion.ExpandedName.{ExpandedName}

-- a namespace name, which is empty where there is none, and a local name
pub record Name : Type 0 where
  pub ns : List ℕ
  pub name : List ℕ

-- An element's namespace: without a prefix the default one, or none where that is unbound. No element has the prefix
-- `xmlns` (3).
unfoldable pub element_ns : Scope → List ℕ → Option (List ℕ)
element_ns scope prefix =
    if is_empty prefix then Some (unwrap_or (bound scope prefix) [])
    else (if bytes_eq prefix (codes "xmlns") then None else bound scope prefix)

-- an attribute's namespace: without a prefix it has none
unfoldable pub attribute_ns : Scope → List ℕ → Option (List ℕ)
attribute_ns scope prefix = if is_empty prefix then Some [] else bound scope prefix

abbrev pub name_with : List ℕ → List ℕ → Name
name_with name ns = record { ns = ns; name = local_of name }

-- the expanded name of an attribute that is spelled so; none where its prefix is undeclared
unfoldable pub expanded_name : Scope → List ℕ → Option Name
expanded_name scope name = option_map (name_with name) (attribute_ns scope (prefix_of name))

abbrev pub in_front : {X : Type 0} → List X → Option (List X) → Option (List X)
in_front more rest = option_map (λ v. more ++ v) rest

abbrev pub expanded_names : Scope → List (List ℕ) → Option (List Name)
expanded_names scope [] = Some []
expanded_names scope (n ∷ more) = option_and_then (λ e. in_front (e ∷ []) (expanded_names scope more)) (expanded_name scope n)

abbrev pub with_value : List ℕ → Name → ExpandedAttribute
with_value value n = record { ns = n.ns; name = n.name; value = value }

abbrev pub expanded_attribute : Scope → Attribute → Option ExpandedAttribute
expanded_attribute scope a = option_map (with_value a.value) (expanded_name scope a.name)

-- an attribute whose name has no prefix, with its expanded name
abbrev pub plain_attribute : Attribute → ExpandedAttribute
plain_attribute a = record { ns = []; name = a.name; value = a.value }

-- attributes in the order in which they are given
abbrev pub expanded_attributes : Scope → List Attribute → Option (List ExpandedAttribute)
expanded_attributes scope [] = Some []
expanded_attributes scope (a ∷ more) = option_and_then (λ e. in_front (e ∷ []) (expanded_attributes scope more)) (expanded_attribute scope a)

abbrev pub name_of : ExpandedAttribute → Name
name_of a = record { ns = a.ns; name = a.name }

-- no expanded name twice (6.3, Attributes Unique)
abbrev pub AreDistinct : List Name → Type 0
AreDistinct names = AllPairs (λ a b. a ≢ b) names

abbrev pub is_same : Name → Name → Bool
is_same a b = bytes_eq a.name b.name && bytes_eq a.ns b.ns

-- the same, as a test
abbrev pub are_distinct : List Name → Bool
are_distinct names = are_distinct_by is_same names

-- whether an attribute has this expanded name, if it has one
abbrev pub is_same_if : Name → Option Name → Bool
is_same_if n None = false
is_same_if n (Some m) = is_same n m

-- a borrowed name, without where it lies in memory
abbrev pub borrowed_name : ExpandedName → Name
borrowed_name n = record { ns = n.ns.now; name = n.local.now }
