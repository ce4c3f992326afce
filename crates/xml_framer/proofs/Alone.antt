-- A byte of ASCII where no character is in hand.
use Rattle.std.proofs.Common.{◌≡◌, ℕ, ◌<◌, ltb, true, List, [], ◌∷◌, length, refl, arith}
use Rattle.std.proofs.lemmas.Bool.Decides.{nat_tests}
use Rattle.xml_tokens.specs.Utf8.{continues, held_after, utf8_next}

is_low : (b : ℕ) → b < 128 → ltb b 128 ≡ true
is_low b low = grind (arith, nat_tests)

pub goes_on_alone : (held : List ℕ) (b : ℕ) → length held ≡ 0 → b < 128 → continues held b ≡ true
unfolding utf8_next
goes_on_alone [] b none low = rw (is_low b low) refl
goes_on_alone (x ∷ xs) b none low = absurd (omega (arith, none))

pub held_alone : (held : List ℕ) (b : ℕ) → length held ≡ 0 → b < 128 → held_after held b ≡ held
unfolding utf8_next
held_alone [] b none low = rw (is_low b low) refl
held_alone (x ∷ xs) b none low = absurd (omega (arith, none))
