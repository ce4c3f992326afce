-- Lists whose items are changed at an index.
use Rattle.std.proofs.Common.{◌≡◌, ◌≢◌, ◌<◌, ◌≤◌, ◌+◌, ℕ, zero, suc, List, [], ◌∷◌, ◌++◌, Some, length, map, refl, ap, ◌∙◌, arith}
use Rattle.std.specs.List.{slice_get, slice_index_or, slice_set}
use Rattle.std.specs.Option.{option_map}
use Rattle.cmd_network.specs.Positions.{changed_at}

pub head_same : {A : Type 0} (x y : A) (xs ys : List A) → x ∷ xs ≡ y ∷ ys → x ≡ y
head_same x y xs ys same = (let head : x ≡ y = cc in head)

pub tail_same : {A : Type 0} (x y : A) (xs ys : List A) → x ∷ xs ≡ y ∷ ys → xs ≡ ys
tail_same x y xs ys same = (let tail : xs ≡ ys = cc in tail)

-- ---- what is changed

pub map_changed : {A B : Type 0} (f : A → A) (g : A → B) (h : B → B) (k : ℕ) (xs : List A) → ((x : A) → g (f x) ≡ h (g x)) → map g (changed_at k f xs) ≡ changed_at k h (map g xs)
map_changed f g h k [] each = refl
map_changed f g h zero (x ∷ xs) each = ap (λ y. y ∷ map g xs) (each x)
map_changed f g h (suc k) (x ∷ xs) each = ap (λ ys. g x ∷ ys) (map_changed f g h k xs each)

pub changed_beyond : {A : Type 0} (f : A → A) (k : ℕ) (xs : List A) → length xs ≤ k → changed_at k f xs ≡ xs
changed_beyond f k [] beyond = refl
changed_beyond f zero (x ∷ xs) beyond = absurd (omega (arith, beyond))
changed_beyond f (suc k) (x ∷ xs) beyond = ap (λ ys. x ∷ ys) (changed_beyond f k xs (omega (arith, beyond)))

pub changed_same : {A : Type 0} (k : ℕ) (xs : List A) → changed_at k (λ x. x) xs ≡ xs
changed_same k [] = refl
changed_same zero (x ∷ xs) = refl
changed_same (suc k) (x ∷ xs) = ap (λ ys. x ∷ ys) (changed_same k xs)

pub many_changed : {A : Type 0} (f : A → A) (k : ℕ) (xs : List A) → length (changed_at k f xs) ≡ length xs
many_changed f k [] = refl
many_changed f zero (x ∷ xs) = refl
many_changed f (suc k) (x ∷ xs) = ap (λ n. suc n) (many_changed f k xs)

pub got_changed : {A : Type 0} (f : A → A) (k : ℕ) (xs : List A) → slice_get (changed_at k f xs) k ≡ option_map f (slice_get xs k)
got_changed f k [] = refl
got_changed f zero (x ∷ xs) = refl
got_changed f (suc k) (x ∷ xs) = got_changed f k xs

pub got_mapped : {A B : Type 0} (g : A → B) (k : ℕ) (xs : List A) → slice_get (map g xs) k ≡ option_map g (slice_get xs k)
got_mapped g k [] = refl
got_mapped g zero (x ∷ xs) = refl
got_mapped g (suc k) (x ∷ xs) = got_mapped g k xs

-- ---- what is set

pub set_changes : {A B : Type 0} (g : A → B) (h : B → B) (xs : List A) (k : ℕ) (old new : A) → k < length xs → old ≡ slice_index_or xs k old → g new ≡ h (g old) →
    map g (slice_set xs k new) ≡ changed_at k h (map g xs)
set_changes g h [] k old new within is becomes = absurd (omega (arith, within))
set_changes g h (x ∷ xs) zero old new within is becomes = ap (λ y. y ∷ map g xs) (becomes ∙ ap (λ o. h (g o)) is)
set_changes g h (x ∷ xs) (suc k) old new within is becomes = ap (λ ys. g x ∷ ys) (set_changes g h xs k old new (omega (arith, within)) is becomes)

pub set_here : {A : Type 0} (xs : List A) (k : ℕ) (old new : A) → slice_get xs k ≡ Some old → slice_get (slice_set xs k new) k ≡ Some new
set_here [] k old new there = absurd (let bad : ⊥ = cc in bad)
set_here (x ∷ xs) zero old new there = refl
set_here (x ∷ xs) (suc k) old new there = set_here xs k old new there

pub set_elsewhere : {A : Type 0} (xs : List A) (k i : ℕ) (new : A) → i ≢ k → slice_get (slice_set xs k new) i ≡ slice_get xs i
set_elsewhere [] k i new other = refl
set_elsewhere (x ∷ xs) zero zero new other = absurd (other refl)
set_elsewhere (x ∷ xs) zero (suc i) new other = refl
set_elsewhere (x ∷ xs) (suc k) zero new other = refl
set_elsewhere (x ∷ xs) (suc k) (suc i) new other = set_elsewhere xs k i new (λ same. other (ap (λ n. suc n) same))

-- ---- one more

pub got_behind : {A : Type 0} (xs ys : List A) (y : A) → slice_get (xs ++ y ∷ ys) (length xs) ≡ Some y
got_behind [] ys y = refl
got_behind (x ∷ xs) ys y = got_behind xs ys y
