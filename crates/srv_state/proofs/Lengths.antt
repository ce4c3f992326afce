-- A length that is told up to the greatest number of 64 bits is long exactly where the length itself is.
use Rattle.std.proofs.Common.{◌≡◌, ℕ, ◌-◌, ◌^◌, true, false, min, nat_lt, arith, sym, inl, inr, ◌∙◌}
use Rattle.std.proofs.lemmas.Bool.{cases_Bool}
use Rattle.std.proofs.lemmas.Bool.Decides.{nat_tests}

pub long_is : (n : ℕ) → nat_lt 1048576 (min n (2 ^ 64 - 1)) ≡ nat_lt 1048576 n
long_is n =
    elim (cases_Bool (nat_lt 1048576 n)) [
      | inl long ↦ (let told : nat_lt 1048576 (min n (2 ^ 64 - 1)) ≡ true = grind (arith, nat_tests) in told ∙ sym long)
      | inr short ↦ (let told : nat_lt 1048576 (min n (2 ^ 64 - 1)) ≡ false = grind (arith, nat_tests) in told ∙ sym short)
    ]
