-- Qualified names (Namespaces in XML 1.0, section 4).
use Rattle.std.specs.Prelude.{ℕ, ◌≡◌, ◌⊎◌, ◌==◌, nat_lt, Bool, true, not, if◌then◌else◌, List, [], ◌∷◌, ◌++◌, Option, Some, None, length}
use Rattle.std.specs.List.{list_all, position_or_len, before_first, after_first}

abbrev pub is_colon : ℕ → Bool
is_colon b = b == 58

abbrev pub has_colon : List ℕ → Bool
has_colon name = nat_lt (position_or_len is_colon name) (length name)

-- Prefix: what is before the colon, or nothing
unfoldable pub prefix_of : List ℕ → List ℕ
prefix_of name = if has_colon name then before_first is_colon name else []

-- LocalPart: what is behind the colon, or all
unfoldable pub local_of : List ℕ → List ℕ
local_of name = if has_colon name then after_first is_colon name else name

-- a name with this prefix, or with none, and this local part
abbrev pub with_prefix : Option (List ℕ) → List ℕ → List ℕ
with_prefix None local = local
with_prefix (Some prefix) local = prefix ++ (58 ∷ local)

-- ---- the grammar

abbrev pub no_colon : List ℕ → Bool
no_colon bs = list_all (λ b. not (b == 58)) bs

-- Prefix ':' LocalPart (PrefixedName), or LocalPart alone (UnprefixedName)
abbrev pub IsName : List ℕ → List ℕ → List ℕ → Type 0
IsName name prefix local =
    ((name ≡ prefix ++ (58 ∷ local)) × (no_colon prefix ≡ true)) ⊎ ((name ≡ local) × (prefix ≡ []) × (no_colon local ≡ true))
