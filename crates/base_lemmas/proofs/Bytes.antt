-- The test `bytes_eq` against equality, in each direction.
use Rattle.std.proofs.Common.{◌≡◌, ◌≢◌, ℕ, List, true, false, bytes_eq, refl, sym, ◌∙◌}
use Rattle.std.proofs.lemmas.Bool.{false≢true, false_from_ne_true}
use Rattle.std.proofs.lemmas.Slice.Eq.{bytes_eq-Decides}

pub bytes_eq-self : (xs : List ℕ) → bytes_eq xs xs ≡ true
bytes_eq-self xs = (bytes_eq-Decides xs xs).1 refl

pub bytes_eq-from_same : (xs ys : List ℕ) → xs ≡ ys → bytes_eq xs ys ≡ true
bytes_eq-from_same xs ys same = (bytes_eq-Decides xs ys).1 same

pub same-from_bytes_eq : (xs ys : List ℕ) → bytes_eq xs ys ≡ true → xs ≡ ys
same-from_bytes_eq xs ys told = (bytes_eq-Decides xs ys).0 told

pub bytes_eq-from_other : (xs ys : List ℕ) → xs ≢ ys → bytes_eq xs ys ≡ false
bytes_eq-from_other xs ys other = false_from_ne_true (bytes_eq xs ys) (λ told. other ((bytes_eq-Decides xs ys).0 told))

pub other-from_bytes_eq : (xs ys : List ℕ) → bytes_eq xs ys ≡ false → xs ≢ ys
other-from_bytes_eq xs ys told same = false≢true (sym told ∙ (bytes_eq-Decides xs ys).1 same)
