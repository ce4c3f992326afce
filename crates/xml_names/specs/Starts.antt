-- A whole start tag in a scope (XML 1.0, section 3.1; Namespaces in XML 1.0, sections 3 to 6; RFC 6120, sections 4.8
-- and 11).
use Rattle.std.specs.Prelude.{ℕ, nat_lt, Bool, ◌&&◌, if◌then◌else◌, List, ◌++◌, Option, Some, None, Result, Ok, Err, map, length}
use Rattle.std.specs.List.{list_all, list_any}
use Rattle.std.specs.Option.{option_map, option_and_then, is_some}
use Rattle.xml_tokens.specs.Spelling.{spelled_value}
use Rattle.xml_tokens.specs.Tags.{Attribute, start_tag, end_tag, tag_of}
use Rattle.xml_tokens.specs.Tags as tokens
use Rattle.xml_tokens.specs.declared.fault.TagWhy.{TagWhy}
use Rattle.xml_tokens.specs.declared.fault.TagWhy.TheVariants as spelling
use Rattle.xml_names.specs.Declarations.{may_declare, bindings_of, others_of}
use Rattle.xml_names.specs.Expansion.{are_distinct, element_ns, expanded_attributes, name_of}
use Rattle.xml_names.specs.Names.{prefix_of, local_of}
use Rattle.xml_names.specs.Scopes.{Scope}
use Rattle.xml_names.specs.declared.expansion.ExpandedAttribute.{ExpandedAttribute}
use Rattle.xml_names.specs.declared.fault.StartWhy.{StartWhy}
use Rattle.xml_names.specs.declared.fault.StartWhy.TheVariants.{Restricted, NotWellFormed, TooManyAttributes, LongNamespace}
use Rattle.xml_names.specs.declared.limits.TagLimits.{TagLimits}
use Rattle.xml_names.specs.declared.scopes.Binding.{Binding}

-- what a start tag says: its name as it is spelled, its expanded name, its attributes in order, its declarations in
-- order, and whether it is the tag of an empty element
pub record Tag : Type 0 where
  pub spelled : List ℕ
  pub ns : List ℕ
  pub name : List ℕ
  pub attributes : List ExpandedAttribute
  pub bindings : Scope
  pub empty : Bool

-- ---- the limits

abbrev pub is_long : ℕ → Binding → Bool
is_long most b = nat_lt most (length (spelled_value b.ns))

-- the limit that so many attributes, declarations counted, and these declarations are past
unfoldable pub past_limits : TagLimits → ℕ → Scope → Option StartWhy
past_limits limits count bindings =
    if nat_lt limits.attributes count then Some TooManyAttributes
    else (if list_any (is_long limits.namespace_bytes) bindings then Some LongNamespace else None)

-- ---- reading

abbrev pub if_distinct : List ExpandedAttribute → Option (List ExpandedAttribute)
if_distinct attributes = if are_distinct (map name_of attributes) then Some attributes else None

-- attributes with their expanded names, where each has one and no two have the same
unfoldable pub attributes_in : Scope → List Attribute → Option (List ExpandedAttribute)
attributes_in scope others = option_and_then if_distinct (expanded_attributes scope others)

abbrev pub tag_from : List ℕ → Scope → Bool → List ℕ → List ExpandedAttribute → Tag
tag_from name own empty ns attributes = record { spelled = name; ns = ns; name = local_of name; attributes = attributes; bindings = own; empty = empty }

abbrev pub tag_with : List ℕ → Scope → Bool → Option (List ℕ) → Option (List ExpandedAttribute) → Option Tag
tag_with name own empty ns attributes = option_and_then (λ n. option_map (tag_from name own empty n) attributes) ns

-- the tag that a name, declarations and other attributes say inside a scope: the declarations come before it
unfoldable pub parted_tag : Scope → List ℕ → Scope → List Attribute → Bool → Option Tag
parted_tag scope name own others empty =
    if list_all may_declare own
    then tag_with name own empty (element_ns (own ++ scope) (prefix_of name)) (attributes_in (own ++ scope) others)
    else None

abbrev pub or_fault : Option StartWhy → Tag → Result Tag StartWhy
or_fault None t = Ok t
or_fault (Some why) t = Err why

-- a tag with so many attributes and these declarations, unless it is past the limits
abbrev pub limited : TagLimits → ℕ → Scope → Option Tag → Result Tag StartWhy
limited limits count own None = Err NotWellFormed
limited limits count own (Some t) = or_fault (past_limits limits count own) t

abbrev pub start_from : TagLimits → Scope → tokens.Tag → Result Tag StartWhy
start_from limits scope (start_tag name attributes empty) =
    limited limits (length attributes) (bindings_of attributes) (parted_tag scope name (bindings_of attributes) (others_of attributes) empty)
start_from limits scope (end_tag name) = Err NotWellFormed

abbrev pub as_start_why : TagWhy → StartWhy
as_start_why spelling.Restricted = Restricted
as_start_why spelling.NotWellFormed = NotWellFormed

abbrev pub start_after : TagLimits → Scope → Result tokens.Tag TagWhy → Result Tag StartWhy
start_after limits scope (Ok t) = start_from limits scope t
start_after limits scope (Err why) = Err (as_start_why why)

-- What bytes come to as a start tag inside a scope, within limits.
unfoldable pub start_of : TagLimits → Scope → List ℕ → Result Tag StartWhy
start_of limits scope bytes = start_after limits scope (tag_of bytes)

-- a name's prefix, declarations and other attributes that say a tag
abbrev pub is_well_formed : Scope → List ℕ → Scope → List Attribute → Bool
is_well_formed scope prefix own others =
    list_all may_declare own && (is_some (element_ns (own ++ scope) prefix) && is_some (attributes_in (own ++ scope) others))
