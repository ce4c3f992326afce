-- The numbers of sessions ascend, so that a search by halves tells whether one is among them.
use Rattle.std.proofs.Common.{◌≡◌, ◌≢◌, ℕ, zero, suc, ◌+◌, ◌≤◌, ◌<◌, ◌==◌, Bool, true, false, List, [], ◌∷◌, Result, Ok, Err, get_or, length, map, sym, refl, subst, inl, inr, filter, is_ok, arith}
use Rattle.std.specs.List.{AllByRecursion}
use Rattle.std.specs.List.Sorted.{IsBinarySearchResult, IsStrictlySortedBy}
use Rattle.std.specs.declared.cmp.Ordering.TheVariants.{Less}
use Rattle.std.proofs.lemmas.Bool.{cases_Bool, cases_lt, eq-eqb, ne_eqb}
use Rattle.std.proofs.lemmas.List.Sorted.{searched}
use Rattle.std.proofs.lemmas.Map.Keys.{non_decreasing_from_sorted}
use Rattle.std.specs.Cmp.{nat_cmp_is}
use Rattle.std.specs.List.{list_any}
use Rattle.std.specs.Ordering.{nat_cmp}
use Rattle.sm_live.specs.Rule.{RisesTo}
use Rattle.sm_live.specs.Sessions.{Session, is_of, number_of, sessions_of}

-- ---- a search answers whether the number is there

at_position : (x i : ℕ) (xs : List ℕ) → i < length xs → get_or xs i 0 ≡ x → list_any (λ n. n == x) xs ≡ true
at_position x i [] within is = absurd (omega (arith, within))
at_position x zero (n ∷ xs) within is = rw (subst (λ m. (m == x) ≡ true) (sym is) (eq-eqb x x refl)) refl
at_position x (suc i) (n ∷ xs) within is =
    elim (cases_Bool (n == x)) [
      | inl here ↦ rw here refl
      | inr other ↦ rw other (at_position x i xs (omega (arith, within)) is)
    ]

at_no_position : (x : ℕ) (xs : List ℕ) → ((k : ℕ) → k < length xs → get_or xs k 0 ≢ x) → list_any (λ n. n == x) xs ≡ false
at_no_position x [] differs = refl
at_no_position x (n ∷ xs) differs = rw (ne_eqb n x (differs 0 (omega arith))) (at_no_position x xs (λ k within. differs (suc k) (omega (arith, within))))

-- below or above the number
off_position : (x i : ℕ) (xs : List ℕ) → (i ≤ length xs) × ((k : ℕ) → k < i → get_or xs k 0 < x) × ((k : ℕ) → i ≤ k → k < length xs → x < get_or xs k 0) → (k : ℕ) → k < length xs → get_or xs k 0 ≢ x
off_position x i xs parted k within is =
    elim (cases_lt k i) [
      | inl lower ↦ omega (arith, parted.1 k lower, is)
      | inr higher ↦ omega (arith, parted.2 k higher within, is)
    ]

pub searched_is : (xs : List ℕ) (x : ℕ) (r : Result ℕ ℕ) → IsStrictlySortedBy nat_cmp xs → IsBinarySearchResult (λ y. nat_cmp y x) xs r → is_ok r ≡ list_any (λ n. n == x) xs
searched_is xs x (Ok i) rising found =
    let there = searched xs x (Ok i) found (λ i j. non_decreasing_from_sorted xs rising i j 0) in
    sym (at_position x i xs there.0 there.1)
searched_is xs x (Err i) rising found =
    sym (at_no_position x xs (off_position x i xs (searched xs x (Err i) found (λ i j. non_decreasing_from_sorted xs rising i j 0))))

-- ---- numbers of sessions ascend

rises_weaker : {A : Type 0} (next low high : ℕ) (sessions : List (Session A)) → low ≤ high → RisesTo next high sessions → RisesTo next low sessions
rises_weaker next low high [] le rise = omega (arith, le, rise)
rises_weaker next low high (s ∷ sessions) le rise = (omega (arith, le, rise.0), rise.1)

pub rises_filter : {A : Type 0} (p : Session A → Bool) (next low : ℕ) (sessions : List (Session A)) → RisesTo next low sessions → RisesTo next low (filter p sessions)
rises_filter p next low [] rise = rise
rises_filter p next low (s ∷ sessions) rise =
    let rest : RisesTo next (s.shown.number + 1) (filter p sessions) = rises_filter p next (s.shown.number + 1) sessions rise.1 in
    elim (cases_Bool (p s)) [
      | inl passed ↦ rw passed (rise.0, rest)
      | inr failed ↦ rw failed (rises_weaker next low (s.shown.number + 1) (filter p sessions) (omega (arith, rise.0)) rest)
    ]

all_above : {A : Type 0} (next low n : ℕ) (sessions : List (Session A)) → n < low → RisesTo next low sessions → AllByRecursion (λ y. nat_cmp n y ≡ Less) (map number_of sessions)
all_above next low n [] below rise = tt
all_above next low n (s ∷ sessions) below rise = (
  sym (nat_cmp_is n s.shown.number Less (omega (arith, below, rise.0))),
  all_above next (s.shown.number + 1) n sessions (omega (arith, below, rise.0)) rise.1,
)

pub numbers_ascend : {A : Type 0} (next low : ℕ) (sessions : List (Session A)) → RisesTo next low sessions → IsStrictlySortedBy nat_cmp (map number_of sessions)
unfolding IsStrictlySortedBy
numbers_ascend next low [] rise = tt
numbers_ascend next low (s ∷ sessions) rise = (
  all_above next (s.shown.number + 1) s.shown.number sessions (omega arith) rise.1,
  numbers_ascend next (s.shown.number + 1) sessions rise.1,
)

-- those of an account that pass a test
pub chosen_ascend : {A : Type 0} (p : Session A → Bool) (next low account : ℕ) (sessions : List (Session A)) → RisesTo next low sessions → IsStrictlySortedBy nat_cmp (map number_of (filter p (sessions_of account sessions)))
chosen_ascend p next low account sessions rise =
    numbers_ascend next low (filter p (sessions_of account sessions)) (rises_filter p next low (sessions_of account sessions) (rises_filter (is_of account) next low sessions rise))

pub one_ascends : (n : ℕ) → IsStrictlySortedBy nat_cmp (n ∷ [])
unfolding IsStrictlySortedBy
one_ascends n = (tt, tt)

pub none_ascend : IsStrictlySortedBy nat_cmp []
unfolding IsStrictlySortedBy
none_ascend = tt
