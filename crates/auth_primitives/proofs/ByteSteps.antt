-- Lists of bytes.
use Rattle.std.proofs.Common.{ℕ, zero, suc, ◌<◌, List, [], ◌∷◌, ◌++◌, arith}
use Rattle.base64.specs.GeneralPurpose.{IsBytes}

pub IsBytes-nil : IsBytes []
IsBytes-nil i = omega arith

pub IsBytes-cons : (x : ℕ) (bytes : List ℕ) → x < 256 → IsBytes bytes → IsBytes (x ∷ bytes)
IsBytes-cons x bytes lt fits zero = lt
IsBytes-cons x bytes lt fits (suc i) = fits i

pub IsBytes-append : (a b : List ℕ) → IsBytes a → IsBytes b → IsBytes (a ++ b)
IsBytes-append [] b front following i = following i
IsBytes-append (x ∷ a) b front following zero = front 0
IsBytes-append (x ∷ a) b front following (suc i) = IsBytes-append a b (λ k. front (suc k)) following i
