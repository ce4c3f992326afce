-- A list's front of items that pass a test, and what is behind it.
use Rattle.std.specs.Prelude.{Bool, List, [], ◌∷◌, if◌then◌else◌}

abbrev pub front : {X : Type 0} → (X → Bool) → List X → List X
front p [] = []
front p (x ∷ xs) = if p x then x ∷ front p xs else []

abbrev pub following : {X : Type 0} → (X → Bool) → List X → List X
following p [] = []
following p (x ∷ xs) = if p x then following p xs else x ∷ xs
