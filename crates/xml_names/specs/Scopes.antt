-- Namespace scopes (Namespaces in XML 1.0, sections 3, 5 and 6).
use Rattle.std.specs.Prelude.{ℕ, if◌then◌else◌, List, [], ◌∷◌, ◌++◌, Option, Some, None, Vec, codes}
use Rattle.std.specs.Str.{bytes_eq}
use Rattle.std.specs.declared.alloc.Global.{Global}
use Rattle.xml_names.specs.declared.scopes.Binding.{Binding}

-- bindings, innermost first; the default namespace is that of the empty prefix
abbrev pub Scope : Type 0
Scope = List Binding

-- the name that `xml` is always bound to
abbrev pub xml_namespace : List ℕ
xml_namespace = codes "http://www.w3.org/XML/1998/namespace"

-- the name that `xmlns` is always bound to
abbrev pub xmlns_namespace : List ℕ
xmlns_namespace = codes "http://www.w3.org/2000/xmlns/"

-- what the first binding of a prefix says
abbrev pub first_bound : Scope → List ℕ → Option (List ℕ)
first_bound [] prefix = None
first_bound (b ∷ outer) prefix = if bytes_eq b.prefix prefix then Some b.ns else first_bound outer prefix

-- the namespace that a prefix is bound to
unfoldable pub bound : Scope → List ℕ → Option (List ℕ)
bound scope prefix = if bytes_eq prefix (codes "xml") then Some xml_namespace else first_bound scope prefix

-- the scope inside elements, the outermost first, each with its own declarations
abbrev pub scope_of : List (Vec Binding Global) → Scope
scope_of [] = []
scope_of (outer ∷ inner) = scope_of inner ++ outer.items
