-- No two of some items are equal, as a test.
use Rattle.std.specs.Prelude.{Bool, true, not, ◌&&◌, List, [], ◌∷◌}
use Rattle.std.specs.List.{list_any}

-- no item is equal to a later one, by a test of equality
abbrev pub are_distinct_by : {A : Type 0} → (A → A → Bool) → List A → Bool
are_distinct_by same [] = true
are_distinct_by same (x ∷ xs) = not (list_any (same x) xs) && are_distinct_by same xs
