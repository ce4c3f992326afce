-- Namespace declarations (Namespaces in XML 1.0, sections 3 and 5).
use Rattle.std.specs.Prelude.{ℕ, ◌≡◌, ◌≢◌, ◌↔◌, Bool, not, ◌&&◌, ◌||◌, if◌then◌else◌, List, [], ◌∷◌, Option, Some, None, codes}
use Rattle.std.specs.Str.{bytes_eq}
use Rattle.xml_tokens.specs.Tags.{Attribute, is_empty}
use Rattle.xml_names.specs.Names.{prefix_of, local_of}
use Rattle.xml_names.specs.Scopes.{Scope, xml_namespace, xmlns_namespace}
use Rattle.xml_names.specs.declared.scopes.Binding.{Binding}

-- The prefix that an attribute with this name declares: `xmlns` declares the default namespace (DefaultAttName), and
-- `xmlns:p` the prefix p (PrefixedAttName).
unfoldable pub declared_prefix : List ℕ → Option (List ℕ)
declared_prefix name =
    if bytes_eq name (codes "xmlns") then Some []
    else (if bytes_eq (prefix_of name) (codes "xmlns") then Some (local_of name) else None)

abbrev pub with_binding : Option (List ℕ) → List ℕ → Scope → Scope
with_binding None ns more = more
with_binding (Some prefix) ns more = record { prefix = prefix; ns = ns } ∷ more

abbrev pub unless_binding : Option (List ℕ) → Attribute → List Attribute → List Attribute
unless_binding None a more = a ∷ more
unless_binding (Some prefix) a more = more

-- what the declarations among attributes bind, in order
abbrev pub bindings_of : List Attribute → Scope
bindings_of [] = []
bindings_of (a ∷ more) = with_binding (declared_prefix a.name) a.value (bindings_of more)

-- the attributes that are no declarations, in order
abbrev pub others_of : List Attribute → List Attribute
others_of [] = []
others_of (a ∷ more) = unless_binding (declared_prefix a.name) a (others_of more)

-- Reserved Prefixes and Namespace Names (3), and No Prefix Undeclaring (5): `xml` alone is bound to its name, and to
-- no other; `xmlns` isn't declared, nothing is bound to its name, and only the default namespace is undeclared.
pub record MayDeclare (b : Binding) : Type 0 where
  pub xml_alone : (b.prefix ≡ codes "xml") ↔ (b.ns ≡ xml_namespace)
  pub not_xmlns : b.prefix ≢ codes "xmlns"
  pub not_its_name : b.ns ≢ xmlns_namespace
  pub not_undeclared : b.ns ≡ [] → b.prefix ≡ []

-- the same, as a test
unfoldable pub may_declare : Binding → Bool
may_declare b =
    if bytes_eq b.prefix (codes "xml") then bytes_eq b.ns xml_namespace
    else not (bytes_eq b.prefix (codes "xmlns")) && (not (bytes_eq b.ns xml_namespace) && (not (bytes_eq b.ns xmlns_namespace) && (is_empty b.prefix || not (is_empty b.ns))))
