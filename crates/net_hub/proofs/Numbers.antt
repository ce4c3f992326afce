-- When two connections have one number.
use Rattle.std.proofs.Common.{◌≡◌, ℕ, true, false, sym, ◌∙◌, eq-eqb, ne_eqb}
use Rattle.std.specs.Cmp.{unsigned_ties}
use Rattle.srv_state.specs.State.{is_number}

pub other_number : (k j : ℕ) → (k ≡ j → ⊥) → is_number k j ≡ false
other_number k j other = sym (unsigned_ties k j) ∙ ne_eqb k j other

pub same_number : (k j : ℕ) → k ≡ j → is_number k j ≡ true
same_number k j is = sym (unsigned_ties k j) ∙ eq-eqb k j is
