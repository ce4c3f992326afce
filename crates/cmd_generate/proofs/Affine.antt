-- The states behind dials, each by one product, one sum and one remainder from the first.
use Rattle.std.proofs.Common.{◌≡◌, ℕ, zero, suc, ◌+◌, ◌*◌, ◌/◌, ◌%◌, ◌^◌, ◌≤◌, ◌<◌, refl, sym, ap, ◌∙◌, arith}
use Rattle.std.proofs.lemmas.Nat.{mul-mod_first, mul-mod_second}
use Rattle.cmd_generate.specs.Draws.{next_state}
use Rattle.cmd_generate.proofs.Dials.{walked}
use native.Mathlib.Nat.{mul_assoc, mul_comm}

-- two steps are one with these numbers
abbrev factor_twice : ℕ
factor_twice = 7520897724310334953

abbrev step_twice : ℕ
step_twice = 1876011003808476466

twice : (y : ℕ) → next_state (next_state y) ≡ (y * factor_twice + step_twice) % 2 ^ 64
twice y = omega arith

-- what n dials multiply a state by, and what they add
abbrev pub factor_of : ℕ → ℕ
factor_of zero = 1
factor_of (suc n) = (factor_of n * factor_twice) % 2 ^ 64

abbrev pub step_of : ℕ → ℕ
step_of zero = 0
step_of (suc n) = (factor_of n * step_twice + step_of n) % 2 ^ 64

-- sums and products are as those of the remainders
joined : (u v t b s : ℕ) → u % 2 ^ 64 ≡ (v + b) % 2 ^ 64 → t % 2 ^ 64 ≡ v % 2 ^ 64 → (u + s) % 2 ^ 64 ≡ (t + (b + s) % 2 ^ 64) % 2 ^ 64
joined u v t b s e f = omega arith

spread : (f y : ℕ) → f * (y * factor_twice + step_twice) ≡ f * y * factor_twice + f * step_twice
spread f y = omega arith

rendered : (f y : ℕ) → f * factor_twice * y ≡ f * y * factor_twice
rendered f y = mul_assoc f factor_twice y ∙ ap (λ (n : ℕ). f * n) (mul_comm factor_twice y) ∙ sym (mul_assoc f y factor_twice)

one_more : (f s y : ℕ) → (f * ((y * factor_twice + step_twice) % 2 ^ 64) + s) % 2 ^ 64 ≡ ((f * factor_twice) % 2 ^ 64 * y + (f * step_twice + s) % 2 ^ 64) % 2 ^ 64
one_more f s y =
    joined (f * ((y * factor_twice + step_twice) % 2 ^ 64)) (f * y * factor_twice) ((f * factor_twice) % 2 ^ 64 * y) (f * step_twice) s
    (mul-mod_second f (y * factor_twice + step_twice) (2 ^ 64) ∙ ap (λ (n : ℕ). n % 2 ^ 64) (spread f y))
    (mul-mod_first (f * factor_twice) y (2 ^ 64) ∙ ap (λ (n : ℕ). n % 2 ^ 64) (rendered f y))

-- the first number drawn behind n dials
pub walked_is : (n x : ℕ) → next_state (walked n x) ≡ (factor_of n * next_state x + step_of n) % 2 ^ 64
walked_is zero x = omega arith
walked_is (suc n) x =
    walked_is n (next_state (next_state x))
    ∙ ap (λ (y : ℕ). (factor_of n * y + step_of n) % 2 ^ 64) (twice (next_state x))
    ∙ one_more (factor_of n) (step_of n) (next_state x)
