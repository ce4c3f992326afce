-- What is changed at a place.
use Rattle.std.proofs.Common.{◌≡◌, ◌<◌, ◌≤◌, ◌-◌, ◌≢◌, ℕ, zero, suc, List, [], ◌∷◌, length, ap, refl, ◌∙◌, arith}
use Rattle.std.specs.List.{slice_set, slice_index_or}
use Rattle.cmd_network.specs.Positions.{changed_at, changed_under}

-- the item there becomes another
pub changed_there : {T : Type 0} (xs : List T) (position : ℕ) (f : T → T) (old new : T) → position < length xs → old ≡ slice_index_or xs position old → new ≡ f old → slice_set xs position new ≡ changed_at position f xs
changed_there [] position f old new within is becomes = absurd (omega (arith, within))
changed_there (x ∷ xs) zero f old new within is becomes = ap (λ y. y ∷ xs) (becomes ∙ ap f is)
changed_there (x ∷ xs) (suc position) f old new within is becomes = ap (λ rest. x ∷ rest) (changed_there xs position f old new (omega (arith, within)) is becomes)

-- where no item is, nothing is changed
pub changed_nowhere : {T : Type 0} (xs : List T) (position : ℕ) (f : T → T) → length xs ≤ position → changed_at position f xs ≡ xs
changed_nowhere [] position f following = refl
changed_nowhere (x ∷ xs) zero f following = absurd (omega (arith, following))
changed_nowhere (x ∷ xs) (suc position) f following = ap (λ rest. x ∷ rest) (changed_nowhere xs position f (omega (arith, following)))

-- ---- numbers

pub under_none : {T : Type 0} (f : T → T) (xs : List T) (number : ℕ) → number ≡ 0 → changed_under number f xs ≡ xs
under_none f xs zero is = refl
under_none f xs (suc position) is = absurd (omega (arith, is))

pub under_one : {T : Type 0} (f : T → T) (xs : List T) (number position : ℕ) → number ≢ 0 → position ≡ number - 1 → changed_under number f xs ≡ changed_at position f xs
under_one f xs zero position some is = absurd (some refl)
under_one f xs (suc n) position some is = (let same : n ≡ position = omega (arith, is) in ap (λ k. changed_at k f xs) same)
