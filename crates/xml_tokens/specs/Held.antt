-- The bytes of a character in hand.
use Rattle.std.specs.Prelude.{ℕ, List, [], ◌∷◌}
use Rattle.xml_tokens.specs.declared.utf8.Held.{Held}
use Rattle.xml_tokens.specs.declared.utf8.Held.TheVariants.{Nothing, One, Two, Three}

abbrev pub held_bytes : Held → List ℕ
held_bytes Nothing = []
held_bytes (One x) = x ∷ []
held_bytes (Two x y) = x ∷ y ∷ []
held_bytes (Three x y z) = x ∷ y ∷ z ∷ []
