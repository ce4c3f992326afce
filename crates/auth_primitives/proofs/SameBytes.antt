-- Whether two texts are the same, told from the differences of their bytes.
use Rattle.std.proofs.Math.Bool.{and-true, and_assoc}
use Rattle.std.proofs.Common.{◌≡◌, ◌∙◌, ℕ, zero, suc, ◌+◌, ◌<◌, ◌&&◌, nat_eq, List, [], ◌∷◌, length, get_or, take, bit_or, bit_xor, refl, sym, ap, arith, add-one}
use Rattle.std.specs.Int.Bits.{xor_assoc, xor_self, xor_zero_l, xor_zero_r}
use Rattle.std.specs.Str.{bytes_eq}
use Rattle.std.proofs.lemmas.Nat.{le_or_l, le_or_r}
use Rattle.std.proofs.lemmas.Bool.Decides.{Decides-and, Decides-eqb, same_from_decides}

-- the exclusive or is its own inverse
pub xor_twice : (x y : ℕ) → bit_xor (bit_xor x y) y ≡ x
xor_twice x y = xor_assoc x y y ∙ ap (bit_xor x) (xor_self y) ∙ xor_zero_r x

same-from_xor : (x y : ℕ) → bit_xor x y ≡ 0 → x ≡ y
same-from_xor x y none = sym (xor_twice x y) ∙ ap (λ d. bit_xor d y) none ∙ xor_zero_l y

no_difference : (d x y : ℕ) → (bit_or d (bit_xor x y) ≡ 0) → (d ≡ 0) × (x ≡ y)
no_difference d x y none =
    (omega (arith, le_or_l d (bit_xor x y)), same-from_xor x y (omega (arith, le_or_r d (bit_xor x y))))

no_difference-from : (d x y : ℕ) → (d ≡ 0) × (x ≡ y) → bit_or d (bit_xor x y) ≡ 0
no_difference-from d x y h = rw (h.0, h.1, xor_self) refl

one_more : (d x y : ℕ) → nat_eq (bit_or d (bit_xor x y)) 0 ≡ (nat_eq d 0 && nat_eq x y)
one_more d x y =
    let whole = Decides-eqb (bit_or d (bit_xor x y)) 0 in
    let parts = Decides-and (nat_eq d 0) (nat_eq x y) (Decides-eqb d 0) (Decides-eqb x y) in
    same_from_decides {P = (d ≡ 0) × (x ≡ y)} (nat_eq (bit_or d (bit_xor x y)) 0) (nat_eq d 0 && nat_eq x y)
    (λ e. no_difference d x y (whole.0 e), λ h. whole.1 (no_difference-from d x y h)) parts

bytes_eq-take_suc : (a b : List ℕ) (i : ℕ) → i < length a → i < length b
    → bytes_eq (take (suc i) a) (take (suc i) b) ≡ (bytes_eq (take i a) (take i b) && nat_eq (get_or a i 0) (get_or b i 0))
bytes_eq-take_suc [] b i la lb = absurd (omega arith)
bytes_eq-take_suc (x ∷ a) [] i la lb = absurd (omega arith)
bytes_eq-take_suc (x ∷ a) (y ∷ b) zero la lb = and-true (nat_eq x y)
bytes_eq-take_suc (x ∷ a) (y ∷ b) (suc i) la lb =
    ap (λ r. nat_eq x y && r) (bytes_eq-take_suc a b i (omega arith) (omega arith))
    ∙ sym (and_assoc (nat_eq x y) (bytes_eq (take i a) (take i b)) (nat_eq (get_or a i 0) (get_or b i 0)))

-- the step of a loop that gathers the differences
pub bytes_eq-take_more : (d : ℕ) (a b : List ℕ) (i : ℕ) → i < length a → i < length b
    → nat_eq d 0 ≡ bytes_eq (take i a) (take i b)
    → nat_eq (bit_or d (bit_xor (get_or a i 0) (get_or b i 0))) 0 ≡ bytes_eq (take (i + 1) a) (take (i + 1) b)
bytes_eq-take_more d a b i la lb so_far =
    one_more d (get_or a i 0) (get_or b i 0)
    ∙ ap (λ r. r && nat_eq (get_or a i 0) (get_or b i 0)) so_far
    ∙ rw add-one (sym (bytes_eq-take_suc a b i la lb))
