-- A text compared piece by piece.
use Rattle.std.proofs.Common.{◌≡◌, ◌≢◌, ℕ, true, false, nat_eq, List, [], ◌∷◌, ◌++◌, refl, sym, ap, ◌∙◌, arith, inl, inr}
use Rattle.std.proofs.lemmas.Bool.{cases_Bool}
use Rattle.std.proofs.lemmas.Bool.Decides.{nat_tests}
use Rattle.std.proofs.lemmas.Slice.Eq.{bytes_eq-Decides}
use Rattle.std.specs.Str.{bytes_eq}

-- what stands in front of both
same_front : (front more rest : List ℕ) → bytes_eq (front ++ more) (front ++ rest) ≡ bytes_eq more rest
same_front [] more rest = refl
same_front (c ∷ cs) more rest = let one : nat_eq c c ≡ true = grind (arith, nat_tests) in rw one (same_front cs more rest)

pub cut_front : (front more rest bytes : List ℕ) → bytes ≡ front ++ rest → bytes_eq (front ++ more) bytes ≡ bytes_eq more rest
cut_front front more rest bytes is = ap (bytes_eq (front ++ more)) is ∙ same_front front more rest

-- what isn't there makes another text
pub other_front : (front more bytes : List ℕ) → ((rest : List ℕ) → bytes ≢ front ++ rest) → bytes_eq (front ++ more) bytes ≡ false
other_front front more bytes none = elim (cases_Bool (bytes_eq (front ++ more) bytes)) [
  | inl e ↦ absurd (none more (sym ((bytes_eq-Decides (front ++ more) bytes).0 e)))
  | inr e ↦ e
]
