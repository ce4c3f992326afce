-- An address as its parts, `[local@]domain[/resource]` (RFC 7622 sections 3.1 to 3.4).
use Rattle.std.specs.Prelude.{ℕ, ◌+◌, ◌==◌, nat_lt, Bool, List, length, drop, Option, Some, None, if◌then◌else◌}
use Rattle.std.specs.List.{position_or_len, before_first, after_first}

abbrev pub is_slash : ℕ → Bool
is_slash b = b == 47

abbrev pub is_at : ℕ → Bool
is_at b = b == 64

-- the length of the bare text
abbrev pub bare_len : List ℕ → ℕ
bare_len text = position_or_len is_slash text

-- the bare text: what stands before the first `/`, or all where there is none
abbrev pub bare_of : List ℕ → List ℕ
bare_of text = before_first is_slash text

-- the resource: what stands behind the first `/`, exactly where there is one
abbrev pub resource_of : List ℕ → Option (List ℕ)
resource_of text = if nat_lt (bare_len text) (length text) then Some (after_first is_slash text) else None

abbrev pub has_local : List ℕ → Bool
has_local bare = nat_lt (position_or_len is_at bare) (length bare)

-- where the domain of a bare text begins
abbrev pub domain_start : List ℕ → ℕ
domain_start bare = if has_local bare then position_or_len is_at bare + 1 else 0

-- the local part of a bare text: what stands before its first `@`, exactly where there is one
abbrev pub local_of_bare : List ℕ → Option (List ℕ)
local_of_bare bare = if has_local bare then Some (before_first is_at bare) else None

-- the domain of a bare text: what stands behind its first `@`, or all where there is none
abbrev pub domain_of_bare : List ℕ → List ℕ
domain_of_bare bare = drop (domain_start bare) bare

abbrev pub local_of : List ℕ → Option (List ℕ)
local_of text = local_of_bare (bare_of text)

abbrev pub domain_of : List ℕ → List ℕ
domain_of text = domain_of_bare (bare_of text)
