-- The exclusive or of texts.
use Rattle.std.proofs.Common.{◌≡◌, ℕ, zero, suc, ◌+◌, ◌<◌, ◌∙◌, sym, List, [], ◌∷◌, ◌++◌, length, get_or, take, slice_set, bit_xor, refl, ap, arith, add-one}
use Rattle.std.proofs.lemmas.List.{take_more_set}
use Rattle.auth_primitives.specs.Hashes.{xor_bytes}

-- one byte more
xor_bytes-take_suc : (a b : List ℕ) (i : ℕ) → i < length a → i < length b
    → xor_bytes (take (suc i) a) (take (suc i) b) ≡ xor_bytes (take i a) (take i b) ++ bit_xor (get_or a i 0) (get_or b i 0) ∷ []
xor_bytes-take_suc [] b i la lb = absurd (omega arith)
xor_bytes-take_suc (x ∷ a) [] i la lb = absurd (omega arith)
xor_bytes-take_suc (x ∷ a) (y ∷ b) zero la lb = refl
xor_bytes-take_suc (x ∷ a) (y ∷ b) (suc i) la lb =
    ap (λ r. bit_xor x y ∷ r) (xor_bytes-take_suc a b i (omega arith) (omega arith))

-- the step of a loop that writes it byte by byte
pub xor_bytes-take_more : (out a b : List ℕ) (i : ℕ) → i < length out → i < length a → i < length b
    → take i out ≡ xor_bytes (take i a) (take i b)
    → take (i + 1) (slice_set out i (bit_xor (get_or a i 0) (get_or b i 0))) ≡ xor_bytes (take (i + 1) a) (take (i + 1) b)
xor_bytes-take_more out a b i lo la lb so_far =
    take_more_set out i (bit_xor (get_or a i 0) (get_or b i 0)) lo
    ∙ ap (λ r. r ++ bit_xor (get_or a i 0) (get_or b i 0) ∷ []) so_far
    ∙ rw add-one (sym (xor_bytes-take_suc a b i la lb))
