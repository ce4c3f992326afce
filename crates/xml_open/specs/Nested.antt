-- What is innermost, and what is around it, the innermost first.
use Rattle.std.specs.Prelude.{List, [], ◌∷◌, Option, Some, None}

-- one more is around, where there is one
abbrev pub covered : {A : Type 0} → Option A → List A → List A
covered None below = below
covered (Some a) below = a ∷ below

abbrev pub first_of : {A : Type 0} → List A → Option A
first_of [] = None
first_of (a ∷ rest) = Some a

abbrev pub rest_of : {A : Type 0} → List A → List A
rest_of [] = []
rest_of (a ∷ rest) = rest
