-- What goes on as a name does, without the byte EF, has characters of XML alone.
use Rattle.std.proofs.Common.{◌≡◌, ℕ, true, false, eqb, List, [], ◌∷◌, refl, arith}
use Rattle.std.proofs.lemmas.Bool.{and_parts, and_from, or_parts}
use Rattle.std.proofs.lemmas.Bool.Decides.{nat_tests}
use Rattle.std.specs.List.{list_any}
use Rattle.xml_tokens.specs.Characters.{is_name_start, is_name_byte, go_on, is_named, ends_forbidden, are_characters, are_characters_after}

quiet : (x y b : ℕ) → eqb x 239 ≡ false → is_name_byte b ≡ true → ends_forbidden x y b ≡ false
quiet x y b other h = grind (arith, nat_tests)

start_goes_on : (b : ℕ) → is_name_start b ≡ true → is_name_byte b ≡ true
start_goes_on b h = rw h refl

characters : (x y : ℕ) (bs : List ℕ) → eqb x 239 ≡ false → eqb y 239 ≡ false → go_on bs ≡ true → list_any (λ b. eqb b 239) bs ≡ false → are_characters_after x y bs ≡ true
characters x y [] first second h other = refl
characters x y (b ∷ bs) first second h other =
    let p = and_parts (is_name_byte b) _ h in
    let q = or_parts (eqb b 239) _ other in
    rw (quiet x y b first p.0) (characters y b bs second q.0 p.1 q.1)

goes_on : (bs : List ℕ) → is_named bs ≡ true → go_on bs ≡ true
goes_on [] h = refl
goes_on (b ∷ bs) h = let p = and_parts (is_name_start b) _ h in and_from _ _ (start_goes_on b p.0) p.1

pub name_characters : (bs : List ℕ) → is_named bs ≡ true → list_any (λ b. eqb b 239) bs ≡ false → are_characters bs ≡ true
unfolding are_characters
name_characters bs h other = characters 0 0 bs refl refl (goes_on bs h) other
