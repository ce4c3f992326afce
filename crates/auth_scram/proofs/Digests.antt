-- Digests and what is made of them have 32 bytes.
use Rattle.std.proofs.Common.{◌≡◌, ℕ, zero, suc, ◌<◌, ◌^◌, ◌/◌, List, [], ◌∷◌, ◌++◌, length, bit_xor, refl, ap, arith, lit<}
use Rattle.std.specs.Prelude.{slice_index}
use Rattle.std.specs.Int.{byte_at, bytes_high_first, to_be_bytes, w32}
use Rattle.std.proofs.Math.Nat.{mod-lt}
use Rattle.std.proofs.lemmas.Nat.{xor_of_8}
use Rattle.base64.specs.GeneralPurpose.{IsBytes}
use Rattle.sha2.specs.Sha256.{digest_bytes, sha256}
use Rattle.sha2.proofs.Facts256.{length-sha256}
use Rattle.auth_primitives.proofs.SameBytes.{xor_twice}
use Rattle.auth_primitives.specs.Hashes.{hmac_of, xor_bytes}

-- ---- bytes

IsBytes-cons : (x : ℕ) (xs : List ℕ) → x < 256 → IsBytes xs → IsBytes (x ∷ xs)
IsBytes-cons x xs here below zero = here
IsBytes-cons x xs here below (suc i) = below i

IsBytes-nil : IsBytes []
IsBytes-nil i = lit< tt

IsBytes-append : (xs ys : List ℕ) → IsBytes xs → IsBytes ys → IsBytes (xs ++ ys)
IsBytes-append [] ys p q = q
IsBytes-append (x ∷ xs) ys p q =
    IsBytes-cons x (xs ++ ys) (p 0) (IsBytes-append xs ys (λ i. p (suc i)) q)

byte_at-lt : (k n : ℕ) → byte_at k n < 256
byte_at-lt zero n = mod-lt n (lit< tt)
byte_at-lt (suc k) n = mod-lt (n / 256 ^ suc k) (lit< tt)

IsBytes-high_first : (k n : ℕ) → IsBytes (bytes_high_first k n)
IsBytes-high_first zero n = IsBytes-nil
IsBytes-high_first (suc k) n = IsBytes-cons (byte_at k n) (bytes_high_first k n) (byte_at-lt k n) (IsBytes-high_first k n)

IsBytes-digest_bytes : (h : List ℕ) (n : ℕ) → IsBytes (digest_bytes h n)
unfolding digest_bytes
IsBytes-digest_bytes h zero = IsBytes-nil
IsBytes-digest_bytes h (suc n) =
    IsBytes-append (digest_bytes h n) (to_be_bytes w32 (slice_index h n)) (IsBytes-digest_bytes h n) (IsBytes-high_first 4 (slice_index h n))

IsBytes-sha256 : (m : List ℕ) → IsBytes (sha256 m)
unfolding sha256
IsBytes-sha256 m = IsBytes-digest_bytes _ 8

pub IsBytes-hmac_of : (key text : List ℕ) → IsBytes (hmac_of key text)
unfolding hmac_of
IsBytes-hmac_of key text = IsBytes-sha256 _

pub length-hmac_of : (key text : List ℕ) → length (hmac_of key text) ≡ 32
unfolding hmac_of
length-hmac_of key text = length-sha256 _

pub IsBytes-xor_bytes : (xs ys : List ℕ) → IsBytes xs → IsBytes ys → IsBytes (xor_bytes xs ys)
IsBytes-xor_bytes [] ys p q = IsBytes-nil
IsBytes-xor_bytes (x ∷ xs) [] p q = IsBytes-nil
IsBytes-xor_bytes (x ∷ xs) (y ∷ ys) p q =
    IsBytes-cons (bit_xor x y) (xor_bytes xs ys) (xor_of_8 x y (p 0) (q 0))
    (IsBytes-xor_bytes xs ys (λ i. p (suc i)) (λ i. q (suc i)))

-- ---- the exclusive or

pub length-xor_bytes : (xs ys : List ℕ) (n : ℕ) → length xs ≡ n → length ys ≡ n → length (xor_bytes xs ys) ≡ n
length-xor_bytes [] ys n p q = p
length-xor_bytes (x ∷ xs) [] n p q = q
length-xor_bytes (x ∷ xs) (y ∷ ys) n p q = omega (arith, length-xor_bytes xs ys (length xs) refl (omega (arith, p, q)))

-- it is its own inverse
pub xor_bytes-twice : (xs ys : List ℕ) → length xs ≡ length ys → xor_bytes (xor_bytes xs ys) ys ≡ xs
xor_bytes-twice [] ys e = refl
xor_bytes-twice (x ∷ xs) [] e = absurd (omega (arith, e))
xor_bytes-twice (x ∷ xs) (y ∷ ys) e =
    rw (xor_twice x y) (ap (λ r. x ∷ r) (xor_bytes-twice xs ys (omega (arith, e))))
