-- How many bytes stand before the first that is one byte.
use Rattle.std.proofs.Common.{◌≡◌, ℕ, ◌<◌, ◌≤◌, Bool, true, false, eqb, not, List, length, refl, sym, ap, arith}
use Rattle.std.proofs.lemmas.List.Sums.{prefix_len_is}
use Rattle.std.specs.List.{prefix_len, slice_index}

other_passes : (b : Bool) → (b ≡ true → ⊥) → not b ≡ true
other_passes true never = absurd (never refl)
other_passes false never = refl

module _ (bytes : List ℕ) (end : ℕ) where
  abbrev is_end : ℕ → Bool
  is_end k = eqb (slice_index bytes k) end

  pub stands_at : (at : ℕ) → at < length bytes → ((k : ℕ) → 0 ≤ k → k < at → is_end k ≡ true → ⊥) → is_end at ≡ true → at ≡ prefix_len (λ b. not (eqb b end)) bytes
  stands_at at high before here =
      sym (prefix_len_is (λ b. not (eqb b end)) bytes at 0 (omega (arith, high)) (λ k less. other_passes (is_end k) (before k (omega arith) less)) (λ _. ap not here))

  pub stands_nowhere : ((k : ℕ) → 0 ≤ k → k < length bytes → is_end k ≡ true → ⊥) → length bytes ≡ prefix_len (λ b. not (eqb b end)) bytes
  stands_nowhere before =
      sym (prefix_len_is (λ b. not (eqb b end)) bytes (length bytes) 0 (omega arith) (λ k less. other_passes (is_end k) (before k (omega arith) less)) (λ more. absurd (omega (arith, more))))
