-- Which tag bytes spell inside a scope, in the grammar's words (XML 1.0, section 3.1; Namespaces in XML 1.0, sections
-- 3 to 6).
use Rattle.std.specs.Prelude.{ℕ, ◌≡◌, ◌≢◌, ◌≤◌, ◌⊎◌, List, [], ◌++◌, Some, map, codes, length, unwrap_or, All}
use Rattle.std.specs.List.{AllZip}
use Rattle.xml_tokens.specs.Spelling.{spelled_value}
use Rattle.xml_tokens.specs.Tags.{Attribute, start_tag, IsTag}
use Rattle.xml_names.specs.Declarations.{MayDeclare, bindings_of, others_of}
use Rattle.xml_names.specs.Expansion.{AreDistinct, name_of}
use Rattle.xml_names.specs.Names.{IsName}
use Rattle.xml_names.specs.Scopes.{Scope, bound}
use Rattle.xml_names.specs.Starts.{Tag}
use Rattle.xml_names.specs.declared.expansion.ExpandedAttribute.{ExpandedAttribute}
use Rattle.xml_names.specs.declared.limits.TagLimits.{TagLimits}
use Rattle.xml_names.specs.declared.scopes.Binding.{Binding}

-- An element with this prefix is in this namespace: without a prefix in the default one, or in none where that is
-- unbound; no element has the prefix `xmlns`.
abbrev pub IsElementIn : Scope → List ℕ → List ℕ → Type 0
IsElementIn scope prefix ns =
    ((prefix ≡ []) × (ns ≡ unwrap_or (bound scope []) [])) ⊎ ((prefix ≢ []) × (prefix ≢ codes "xmlns") × (bound scope prefix ≡ Some ns))

-- an attribute with this prefix is in this namespace: without a prefix in none
abbrev pub IsAttributeIn : Scope → List ℕ → List ℕ → Type 0
IsAttributeIn scope prefix ns = ((prefix ≡ []) × (ns ≡ [])) ⊎ ((prefix ≢ []) × (bound scope prefix ≡ Some ns))

-- an attribute as it is spelled has this expanded name and this value
abbrev pub IsExpanded : Scope → Attribute → ExpandedAttribute → Type 0
IsExpanded scope a e = (prefix : List ℕ) × IsName a.name prefix e.name × IsAttributeIn scope prefix e.ns × (e.value ≡ a.value)

-- bytes spell a start tag with these attributes, and inside a scope it says this tag
pub record IsStart (scope : Scope) (bytes : List ℕ) (attributes : List Attribute) (t : Tag) : Type 0 where
  pub spelled : IsTag bytes (start_tag t.spelled attributes t.empty)
  pub declarations : t.bindings ≡ bindings_of attributes
  pub may_be_made : All MayDeclare t.bindings
  pub prefix : List ℕ
  pub name_is : IsName t.spelled prefix t.name
  pub element : IsElementIn (t.bindings ++ scope) prefix t.ns
  pub others : AllZip (IsExpanded (t.bindings ++ scope)) (others_of attributes) t.attributes
  pub distinct : AreDistinct (map name_of t.attributes)

-- the escaped name of a declared namespace is within a limit
abbrev pub IsShort : ℕ → Binding → Type 0
IsShort most b = length (spelled_value b.ns) ≤ most

-- within the limits
abbrev pub IsWithin : TagLimits → List Attribute → Tag → Type 0
IsWithin limits attributes t = (length attributes ≤ limits.attributes) × All (IsShort limits.namespace_bytes) t.bindings
