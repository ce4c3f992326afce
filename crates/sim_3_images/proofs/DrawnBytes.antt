-- Hashes and numbers are bytes, and so are those that are drawn.
use Rattle.std.proofs.Common.{ℕ, zero, suc, List, [], ◌∷◌, take}
use Rattle.base64.specs.GeneralPurpose.{IsBytes}
use Rattle.auth_primitives.proofs.ByteSteps.{IsBytes-cons, IsBytes-nil}

pub first_bytes : (n : ℕ) (t : List ℕ) → IsBytes t → IsBytes (take n t)
first_bytes zero t h = IsBytes-nil
first_bytes (suc n) [] h = IsBytes-nil
first_bytes (suc n) (b ∷ t) h = IsBytes-cons b (take n t) (h 0) (first_bytes n t (λ i. h (suc i)))
