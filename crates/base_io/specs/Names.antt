-- Names among names, and their places.
use Rattle.std.specs.Prelude.{ℕ, suc, List, [], ◌∷◌, Bool, Option, Some, None, if◌then◌else◌}
use Rattle.std.specs.List.{list_any}
use Rattle.std.specs.Option.{option_map}
use Rattle.std.specs.Str.{bytes_eq}

abbrev pub is_among : List ℕ → List (List ℕ) → Bool
is_among name names = list_any (λ other. bytes_eq name other) names

-- the first place of a name, from 0
abbrev pub position_of : List ℕ → List (List ℕ) → Option ℕ
position_of name [] = None
position_of name (other ∷ names) = if bytes_eq name other then Some 0 else option_map (λ position. suc position) (position_of name names)
