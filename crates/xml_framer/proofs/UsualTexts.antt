-- Bytes of ASCII that say themselves in a text.
use Rattle.std.proofs.Common.{◌≡◌, ℕ, zero, suc, ◌<◌, Bool, true, not, ◌&&◌, ◌==◌, List, [], ◌∷◌, refl, arith}
use Rattle.std.proofs.lemmas.Bool.{and_parts, and_from}
use Rattle.std.proofs.lemmas.Bool.Decides.{nat_tests}
use Rattle.std.specs.List.{list_all}
use Rattle.std.specs.Str.{IsAscii}
use Rattle.xml_tokens.specs.Values.{is_plain_ascii}
use Rattle.xml_framer.specs.ManyBytes

abbrev is_usual : ℕ → Bool
is_usual b = is_plain_ascii b && (not (b == 62) && not (b == 93))

plain : (b : ℕ) → is_usual b ≡ true → ManyBytes.is_plain b ≡ true
plain b h = grind (arith, nat_tests)

small : (b : ℕ) → is_usual b ≡ true → b < 128
small b h = grind (arith, nat_tests)

pub usual_ascii : (bs : List ℕ) → list_all is_usual bs ≡ true → IsAscii bs
usual_ascii [] h i = omega arith
usual_ascii (b ∷ bs) h zero = small b (and_parts (is_usual b) _ h).0
usual_ascii (b ∷ bs) h (suc i) = usual_ascii bs (and_parts (is_usual b) _ h).1 i

pub usual_plain : (bs : List ℕ) → list_all is_usual bs ≡ true → list_all ManyBytes.is_plain bs ≡ true
usual_plain [] h = refl
usual_plain (b ∷ bs) h = let p = and_parts (is_usual b) (list_all is_usual bs) h in and_from _ _ (plain b p.0) (usual_plain bs p.1)
