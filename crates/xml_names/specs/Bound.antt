-- The namespaces that each prefix is bound to in a scope, as an index has them.
use Rattle.std.specs.Prelude.{ℕ, ◌-◌, if◌then◌else◌, List, [], ◌∷◌, ◌++◌, Option, Some, None, Vec, length, take}
use Rattle.std.specs.BTreeMap.{BTreeMap, get_by_text}
use Rattle.std.specs.Str.{bytes_eq}
use Rattle.std.specs.declared.alloc.Global.{Global}
use Rattle.std.specs.declared.string.String.{String}
use Rattle.xml_names.specs.Scopes.{Scope}

-- the namespaces of a prefix, the outermost first, with one more where it is this prefix
abbrev pub with_name : List ℕ → List ℕ → List ℕ → List (List ℕ) → List (List ℕ)
with_name prefix ns asked names = if bytes_eq prefix asked then names ++ ns ∷ [] else names

-- without the innermost where it is this prefix
abbrev pub without_name : List ℕ → List ℕ → List (List ℕ) → List (List ℕ)
without_name prefix asked names = if bytes_eq prefix asked then take (length names - 1) names else names

-- with those of a scope
abbrev pub with_names : Scope → List ℕ → List (List ℕ) → List (List ℕ)
with_names [] asked names = names
with_names (b ∷ outer) asked names = with_name b.prefix b.ns asked (with_names outer asked names)

abbrev pub items_in : Option (Vec (List ℕ) Global) → List (List ℕ)
items_in None = []
items_in (Some names) = names.items

-- what an index has of a prefix
abbrev pub names_in : BTreeMap (String Global) (Vec (List ℕ) Global) → List ℕ → List (List ℕ)
names_in index asked = items_in (get_by_text index asked)
