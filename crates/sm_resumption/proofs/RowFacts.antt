-- What is true of rows whose numbers ascend: where one is found, and what a change leaves of it.
use Rattle.std.proofs.Common.{◌≡◌, ◌≢◌, ℕ, ◌+◌, ◌<◌, ◌≤◌, ◌==◌, Bool, true, false, not, List, [], ◌∷◌, ◌++◌, Option, Some, None, length, map, refl, sym, ap, subst, ◌∙◌, arith, inl, inr}
use Rattle.std.proofs.lemmas.Bool.{cases_eq, cases_lt, cases_Bool, false≢true}
use Rattle.std.proofs.lemmas.Bool.Decides.{nat_tests}
use Rattle.std.proofs.lemmas.Option.{none-some, same_Some}
use Rattle.std.specs.List.{filter, find}
use Rattle.std.specs.Option.{option_map, IsSome}
use Rattle.sm_resumption.specs.Changes.{changed}
use Rattle.sm_resumption.specs.Moves.{acknowledged, number_of}
use Rattle.sm_resumption.specs.Rows.{RisesTo, is_of, row_of, with_row, without}
use Rattle.sm_resumption.specs.declared.change.Change.{Change}
use Rattle.sm_resumption.specs.declared.change.Change.TheVariants.{Asked, Carbons, Enabled, Handled, Present}
use Rattle.sm_resumption.specs.Stored.{passes}
use Rattle.sm_resumption.specs.declared.session.Row.{Row}

pub eqb_same : (n : ℕ) → (n == n) ≡ true
eqb_same n = grind (arith, nat_tests)

pub eqb_other : (m n : ℕ) → m ≢ n → (m == n) ≡ false
eqb_other m n other = grind (arith, nat_tests)

pub same_from_eqb : (m n : ℕ) → (m == n) ≡ true → m ≡ n
same_from_eqb m n is = grind (arith, nat_tests)

-- the row found by number has that number
pub number_is : (n : ℕ) (r : Row) (rows : List Row) → row_of n rows ≡ Some r → r.shown.number ≡ n
number_is n r [] is = cc
number_is n r (s ∷ rows) is =
    elim (cases_eq s.shown.number n) [
      | inl same ↦
          let here : (s.shown.number == n) ≡ true = rw same (eqb_same n) in
          let first : s ≡ r = same_Some s r (rw here at is) in
          sym (ap number_of first) ∙ same
      | inr other ↦ number_is n r rows (rw (eqb_other s.shown.number n other) at is)
    ]

-- a number below the first bound is no row's, nor one from the next on
pub row_of_low : (next low n : ℕ) (rows : List Row) → RisesTo next low rows → n < low → row_of n rows ≡ None
row_of_low next low n [] rise below = refl
row_of_low next low n (r ∷ rows) rise below =
    let other : r.shown.number ≢ n = omega arith in
    rw (eqb_other r.shown.number n other) (row_of_low next (r.shown.number + 1) n rows rise.1 (omega arith))

pub rises_order : (next low : ℕ) (rows : List Row) → RisesTo next low rows → low ≤ next
rises_order next low [] rise = rise
rises_order next low (r ∷ rows) rise = let rest : r.shown.number + 1 ≤ next = rises_order next (r.shown.number + 1) rows rise.1 in omega arith

pub row_of_high : (next low n : ℕ) (rows : List Row) → RisesTo next low rows → next ≤ n → row_of n rows ≡ None
row_of_high next low n [] rise above = refl
row_of_high next low n (r ∷ rows) rise above =
    let rest : r.shown.number + 1 ≤ next = rises_order next (r.shown.number + 1) rows rise.1 in
    let other : r.shown.number ≢ n = omega arith in
    rw (eqb_other r.shown.number n other) (row_of_high next (r.shown.number + 1) n rows rise.1 above)

-- a row that is there has a number within the bounds
pub row_of_bounds : (next low n : ℕ) (r : Row) (rows : List Row) → RisesTo next low rows → row_of n rows ≡ Some r → (low ≤ n) × (n < next)
row_of_bounds next low n r rows rise is = (
  elim (cases_lt n low) [ inl below ↦ absurd (none-some r (sym (row_of_low next low n rows rise below) ∙ is)) | inr above ↦ above ],
  elim (cases_lt n next) [ inl below ↦ below | inr above ↦ absurd (none-some r (sym (row_of_high next low n rows rise above) ∙ is)) ],
)

-- a row of the rest is one of the whole
pub row_of_rest : (next low n : ℕ) (r s : Row) (rows : List Row) → RisesTo next low (s ∷ rows) → row_of n rows ≡ Some r → row_of n (s ∷ rows) ≡ Some r
row_of_rest next low n r s rows rise is =
    let bounds : s.shown.number + 1 ≤ n = (row_of_bounds next (s.shown.number + 1) n r rows rise.1 is).0 in
    let other : s.shown.number ≢ n = omega arith in
    rw (eqb_other s.shown.number n other) is

pub row_of_first : (r : Row) (rows : List Row) → row_of r.shown.number (r ∷ rows) ≡ Some r
row_of_first r rows = rw (eqb_same r.shown.number)

-- what a test finds
pub find_passes : (p : Row → Bool) (r : Row) (rows : List Row) → find p rows ≡ Some r → p r ≡ true
find_passes p r [] is = cc
find_passes p r (s ∷ rows) is =
    elim (cases_Bool (p s)) [
      | inl passed ↦ ap p (sym (same_Some s r (rw passed at is))) ∙ passed
      | inr failed ↦ find_passes p r rows (rw failed at is)
    ]

-- a row that a test finds is found by its number
pub found_by_number : (next low : ℕ) (p : Row → Bool) (r : Row) (rows : List Row) → RisesTo next low rows → find p rows ≡ Some r → row_of r.shown.number rows ≡ Some r
found_by_number next low p r [] rise is = cc
found_by_number next low p r (s ∷ rows) rise is =
    elim (cases_Bool (p s)) [
      | inl passed ↦
          let same : s ≡ r = same_Some s r (rw passed at is) in
          let P : Row → Type 0 = λ t. row_of t.shown.number (s ∷ rows) ≡ Some t in
          subst P same (row_of_first s rows)
      | inr failed ↦ row_of_rest next low r.shown.number r s rows rise (found_by_number next (s.shown.number + 1) p r rows rise.1 (rw failed at is))
    ]

-- what a test doesn't find no number finds
pub find_none_at : (p : Row → Bool) (n : ℕ) (r : Row) (rows : List Row) → find p rows ≡ None → row_of n rows ≡ Some r → p r ≡ false
find_none_at p n r [] none is = cc
find_none_at p n r (s ∷ rows) none is =
    elim (cases_Bool (p s)) [
      | inl passed ↦ absurd (none-some s (sym none ∙ rw passed))
      | inr failed ↦
          elim (cases_eq s.shown.number n) [
            | inl same ↦
                let here : (s.shown.number == n) ≡ true = rw same (eqb_same n) in
                ap p (sym (same_Some s r (rw here at is))) ∙ failed
            | inr other ↦ find_none_at p n r rows (rw failed at none) (rw (eqb_other s.shown.number n other) at is)
          ]
    ]

-- a test that no row passes finds none
pub find_no : (next low : ℕ) (p : Row → Bool) (rows : List Row) → RisesTo next low rows → ((m : ℕ) (s : Row) → row_of m rows ≡ Some s → p s ≡ false) → find p rows ≡ None
find_no next low p [] rise fails = refl
find_no next low p (r ∷ rows) rise fails =
    rw (fails r.shown.number r (row_of_first r rows))
    (find_no next (r.shown.number + 1) p rows rise.1 (λ m s is. fails m s (row_of_rest next low m s r rows rise is)))

-- a test that one row alone passes finds it
pub find_only : (next low : ℕ) (p : Row → Bool) (n : ℕ) (r : Row) (rows : List Row) → RisesTo next low rows → row_of n rows ≡ Some r → p r ≡ true →
    ((m : ℕ) (s : Row) → row_of m rows ≡ Some s → p s ≡ true → m ≡ n) → find p rows ≡ Some r
find_only next low p n r [] rise is passes only = cc
find_only next low p n r (s ∷ rows) rise is passes only =
    elim (cases_Bool (p s)) [
      | inl passed ↦
          let number : s.shown.number ≡ n = only s.shown.number s (row_of_first s rows) passed in
          let here : (s.shown.number == n) ≡ true = rw number (eqb_same n) in
          let same : s ≡ r = same_Some s r (rw here at is) in
          rw (passed, same)
      | inr failed ↦
          let other : s.shown.number ≢ n = λ same.
          (let here : (s.shown.number == n) ≡ true = rw same (eqb_same n) in
          let first : s ≡ r = same_Some s r (rw here at is) in
          false≢true (sym failed ∙ ap p first ∙ passes)) in
          rw failed
          (find_only next (s.shown.number + 1) p n r rows rise.1 (rw (eqb_other s.shown.number n other) at is) passes
          (λ m t found. only m t (row_of_rest next low m t s rows rise found)))
    ]

-- the rows but that of a number
pub row_of_without_same : (n : ℕ) (rows : List Row) → row_of n (without n rows) ≡ None
row_of_without_same n [] = refl
row_of_without_same n (r ∷ rows) =
    elim (cases_Bool (r.shown.number == n)) [
      | inl here ↦ rw here (row_of_without_same n rows)
      | inr other ↦ rw (other, other) (row_of_without_same n rows)
    ]

pub row_of_without_other : (m n : ℕ) (rows : List Row) → m ≢ n → row_of m (without n rows) ≡ row_of m rows
row_of_without_other m n [] apart = refl
row_of_without_other m n (r ∷ rows) apart =
    elim (cases_eq r.shown.number n) [
      | inl same ↦
          let here : (r.shown.number == n) ≡ true = rw same (eqb_same n) in
          let other : (r.shown.number == m) ≡ false = eqb_other r.shown.number m (λ is. apart (sym is ∙ same)) in
          rw (here, other) (row_of_without_other m n rows apart)
      | inr gone ↦
          rw (eqb_other r.shown.number n gone)
          (elim (cases_Bool (r.shown.number == m)) [
            | inl here ↦ rw here
            | inr other ↦ rw other (row_of_without_other m n rows apart)
          ])
    ]

pub rises_weaker : (next low high : ℕ) (rows : List Row) → low ≤ high → RisesTo next high rows → RisesTo next low rows
rises_weaker next low high [] order rise = omega arith
rises_weaker next low high (r ∷ rows) order rise = (omega arith, rise.1)

pub rises_without : (next low n : ℕ) (rows : List Row) → RisesTo next low rows → RisesTo next low (without n rows)
rises_without next low n [] rise = rise
rises_without next low n (r ∷ rows) rise =
    let rest : RisesTo next (r.shown.number + 1) (without n rows) = rises_without next (r.shown.number + 1) n rows rise.1 in
    elim (cases_Bool (r.shown.number == n)) [
      | inl gone ↦ rw gone (rises_weaker next low (r.shown.number + 1) (without n rows) (omega arith) rest)
      | inr stays ↦ rw stays (rise.0, rest)
    ]

-- a change that keeps numbers
pub record KeepsNumber (f : Row → Row) : Type 0 where
  pub same : (r : Row) → (f r).shown.number ≡ r.shown.number

-- a change that keeps the connection, the name and the queue too
pub record KeepsSession (f : Row → Row) : Type 0 where
  pub number : KeepsNumber f
  pub account : (r : Row) → (f r).shown.account ≡ r.shown.account
  pub resource : (r : Row) → (f r).shown.resource ≡ r.shown.resource
  pub conn : (r : Row) → (f r).shown.conn ≡ r.shown.conn
  pub parked_at : (r : Row) → (f r).shown.parked_at ≡ r.shown.parked_at
  pub queue : (r : Row) → (f r).end.queue ≡ r.end.queue

pub keeps_all : KeepsSession (λ r. r)
keeps_all = record { number = record { same = λ r. refl }; account = λ r. refl; resource = λ r. refl; conn = λ r. refl; parked_at = λ r. refl; queue = λ r. refl }

pub keeps_acknowledged : (h : ℕ) → KeepsSession (acknowledged h)
keeps_acknowledged h = record { number = record { same = λ r. refl }; account = λ r. refl; resource = λ r. refl; conn = λ r. refl; parked_at = λ r. refl; queue = λ r. refl }

pub keeps_changed : (change : Change) → KeepsSession (changed change)
keeps_changed (Enabled resume) = record { number = record { same = λ r. refl }; account = λ r. refl; resource = λ r. refl; conn = λ r. refl; parked_at = λ r. refl; queue = λ r. refl }
keeps_changed (Present available priority) = record { number = record { same = λ r. refl }; account = λ r. refl; resource = λ r. refl; conn = λ r. refl; parked_at = λ r. refl; queue = λ r. refl }
keeps_changed (Carbons on) = record { number = record { same = λ r. refl }; account = λ r. refl; resource = λ r. refl; conn = λ r. refl; parked_at = λ r. refl; queue = λ r. refl }
keeps_changed (Asked on) = record { number = record { same = λ r. refl }; account = λ r. refl; resource = λ r. refl; conn = λ r. refl; parked_at = λ r. refl; queue = λ r. refl }
keeps_changed Handled = record { number = record { same = λ r. refl }; account = λ r. refl; resource = λ r. refl; conn = λ r. refl; parked_at = λ r. refl; queue = λ r. refl }

pub row_of_with_same : (n : ℕ) (f : Row → Row) (rows : List Row) → KeepsNumber f → row_of n (with_row n f rows) ≡ option_map f (row_of n rows)
row_of_with_same n f [] keeps = refl
row_of_with_same n f (r ∷ rows) keeps =
    elim (cases_Bool (r.shown.number == n)) [
      | inl here ↦
          let still : ((f r).shown.number == n) ≡ true = ap (λ m. m == n) (keeps.same r) ∙ here in
          rw here (rw still)
      | inr other ↦ rw other (rw other (row_of_with_same n f rows keeps))
    ]

pub row_of_with_other : (m n : ℕ) (f : Row → Row) (rows : List Row) → KeepsNumber f → m ≢ n → row_of m (with_row n f rows) ≡ row_of m rows
row_of_with_other m n f [] keeps apart = refl
row_of_with_other m n f (r ∷ rows) keeps apart =
    elim (cases_eq r.shown.number n) [
      | inl same ↦
          let here : (r.shown.number == n) ≡ true = rw same (eqb_same n) in
          let before : (r.shown.number == m) ≡ false = eqb_other r.shown.number m (λ is. apart (sym is ∙ same)) in
          let after : ((f r).shown.number == m) ≡ false = ap (λ k. k == m) (keeps.same r) ∙ before in
          rw here (rw (after, before) (row_of_with_other m n f rows keeps apart))
      | inr other ↦
          rw (eqb_other r.shown.number n other)
          (elim (cases_Bool (r.shown.number == m)) [
            | inl here ↦ rw here
            | inr there ↦ rw there (row_of_with_other m n f rows keeps apart)
          ])
    ]

pub rises_with : (next low n : ℕ) (f : Row → Row) (rows : List Row) → KeepsNumber f → RisesTo next low rows → RisesTo next low (with_row n f rows)
rises_with next low n f [] keeps rise = rise
rises_with next low n f (r ∷ rows) keeps rise =
    let rest : RisesTo next (r.shown.number + 1) (with_row n f rows) = rises_with next (r.shown.number + 1) n f rows keeps rise.1 in
    elim (cases_Bool (r.shown.number == n)) [
      | inl here ↦ rw here (rw (keeps.same r) (rise.0, rest))
      | inr other ↦ rw other (rise.0, rest)
    ]

-- two changes of one row
pub with_row_twice : (n : ℕ) (f g : Row → Row) (rows : List Row) → KeepsNumber f → with_row n g (with_row n f rows) ≡ with_row n (λ r. g (f r)) rows
with_row_twice n f g [] keeps = refl
with_row_twice n f g (r ∷ rows) keeps =
    elim (cases_Bool (r.shown.number == n)) [
      | inl here ↦
          let still : ((f r).shown.number == n) ≡ true = ap (λ m. m == n) (keeps.same r) ∙ here in
          rw here (rw still (ap (λ t. g (f r) ∷ t) (with_row_twice n f g rows keeps)))
      | inr other ↦ rw other (rw other (ap (λ t. r ∷ t) (with_row_twice n f g rows keeps)))
    ]

-- the changed row goes
pub without_with_row : (n : ℕ) (f : Row → Row) (rows : List Row) → KeepsNumber f → without n (with_row n f rows) ≡ without n rows
without_with_row n f [] keeps = refl
without_with_row n f (r ∷ rows) keeps =
    elim (cases_Bool (r.shown.number == n)) [
      | inl here ↦
          let still : ((f r).shown.number == n) ≡ true = ap (λ m. m == n) (keeps.same r) ∙ here in
          rw here (rw still (without_with_row n f rows keeps))
      | inr other ↦ rw other (rw other (ap (λ t. r ∷ t) (without_with_row n f rows keeps)))
    ]

-- a change of no row, and of none that is there
pub with_row_none : (n : ℕ) (f : Row → Row) (rows : List Row) → row_of n rows ≡ None → with_row n f rows ≡ rows
with_row_none n f [] none = refl
with_row_none n f (r ∷ rows) none =
    elim (cases_Bool (r.shown.number == n)) [
      | inl here ↦ absurd (none-some r (sym none ∙ rw here))
      | inr other ↦ rw other (ap (λ t. r ∷ t) (with_row_none n f rows (rw other at none)))
    ]

pub without_none : (n : ℕ) (rows : List Row) → row_of n rows ≡ None → without n rows ≡ rows
without_none n [] none = refl
without_none n (r ∷ rows) none =
    elim (cases_Bool (r.shown.number == n)) [
      | inl here ↦ absurd (none-some r (sym none ∙ rw here))
      | inr other ↦ rw other (ap (λ t. r ∷ t) (without_none n rows (rw other at none)))
    ]

-- a row more, under a number from the next on
pub row_of_push_same : (next low : ℕ) (r : Row) (rows : List Row) → RisesTo next low rows → next ≤ r.shown.number → row_of r.shown.number (rows ++ r ∷ []) ≡ Some r
row_of_push_same next low r [] rise above = rw (eqb_same r.shown.number)
row_of_push_same next low r (s ∷ rows) rise above =
    let order : s.shown.number + 1 ≤ next = rises_order next (s.shown.number + 1) rows rise.1 in
    let other : s.shown.number ≢ r.shown.number = omega arith in
    rw (eqb_other s.shown.number r.shown.number other) (row_of_push_same next (s.shown.number + 1) r rows rise.1 above)

pub row_of_push_other : (m : ℕ) (r : Row) (rows : List Row) → m ≢ r.shown.number → row_of m (rows ++ r ∷ []) ≡ row_of m rows
row_of_push_other m r [] apart = rw (eqb_other r.shown.number m (λ is. apart (sym is)))
row_of_push_other m r (s ∷ rows) apart =
    elim (cases_Bool (s.shown.number == m)) [
      | inl here ↦ rw here
      | inr other ↦ rw other (row_of_push_other m r rows apart)
    ]

pub rises_push : (next low : ℕ) (r : Row) (rows : List Row) → RisesTo next low rows → r.shown.number ≡ next → RisesTo (next + 1) low (rows ++ r ∷ [])
rises_push next low r [] rise is = (omega arith, omega arith)
rises_push next low r (s ∷ rows) rise is = (rise.0, rises_push next (s.shown.number + 1) r rows rise.1 is)

pub option_map_some : {A B : Type 0} (f : A → B) (o : Option A) (y : B) → option_map f o ≡ Some y → (x : A) × (o ≡ Some x) × (f x ≡ y)
option_map_some f None y is = absurd (none-some y is)
option_map_some f (Some x) y is = (x, refl, same_Some (f x) y is)

-- the numbers that are left
pub numbers_with : (n : ℕ) (f : Row → Row) (rows : List Row) → KeepsNumber f → map number_of (with_row n f rows) ≡ map number_of rows
numbers_with n f [] keeps = refl
numbers_with n f (r ∷ rows) keeps =
    elim (cases_Bool (r.shown.number == n)) [
      | inl here ↦ rw here (rw (keeps.same r) (ap (λ t. r.shown.number ∷ t) (numbers_with n f rows keeps)))
      | inr other ↦ rw other (ap (λ t. r.shown.number ∷ t) (numbers_with n f rows keeps))
    ]

pub with_row_id : (n : ℕ) (rows : List Row) → with_row n (λ r. r) rows ≡ rows
with_row_id n [] = refl
with_row_id n (r ∷ rows) =
    elim (cases_Bool (r.shown.number == n)) [
      | inl here ↦ rw here (ap (λ t. r ∷ t) (with_row_id n rows))
      | inr other ↦ rw other (ap (λ t. r ∷ t) (with_row_id n rows))
    ]

-- the row that a test finds, by its number
pub same_row : (next low n : ℕ) (p : Row → Bool) (rows : List Row) → RisesTo next low rows → Some n ≡ option_map number_of (find p rows) → row_of n rows ≡ find p rows
same_row next low n p rows rise is =
    let found = option_map_some number_of (find p rows) n (sym is) in
    ap (λ k. row_of k rows) (sym found.2) ∙ found_by_number next low p found.0 rows rise found.1 ∙ sym found.1

-- a test of the rows that one row fails
pub filter_without : (next low n : ℕ) (p : Row → Bool) (r : Row) (rows : List Row) → RisesTo next low rows → row_of n rows ≡ Some r → p r ≡ false → filter p (without n rows) ≡ filter p rows
filter_without next low n p r [] rise is fails = cc
filter_without next low n p r (s ∷ rows) rise is fails =
    elim (cases_eq s.shown.number n) [
      | inl same ↦
          let here : (s.shown.number == n) ≡ true = rw same (eqb_same n) in
          let first : s ≡ r = same_Some s r (rw here at is) in
          let failed : p s ≡ false = ap p first ∙ fails in
          let none : row_of n rows ≡ None = row_of_low next (s.shown.number + 1) n rows rise.1 (omega arith) in
          rw (here, failed) (ap (filter p) (without_none n rows none))
      | inr other ↦
          let rest : filter p (without n rows) ≡ filter p rows = filter_without next (s.shown.number + 1) n p r rows rise.1 (rw (eqb_other s.shown.number n other) at is) fails in
          rw (eqb_other s.shown.number n other)
          (elim (cases_Bool (p s)) [
            | inl passed ↦ rw passed (ap (λ t. s ∷ t) rest)
            | inr failed ↦ rw failed rest
          ])
    ]

-- a test that finds no row fails them all
pub filter_none_found : (p : Row → Bool) (rows : List Row) → find p rows ≡ None → filter (λ r. not (p r)) rows ≡ rows
filter_none_found p [] none = refl
filter_none_found p (r ∷ rows) none =
    elim (cases_Bool (p r)) [
      | inl passed ↦ absurd (none-some r (sym none ∙ rw passed))
      | inr failed ↦ rw failed (ap (λ t. r ∷ t) (filter_none_found p rows (rw failed at none)))
    ]

pub length-without_le : (n : ℕ) (rows : List Row) → length (without n rows) ≤ length rows
length-without_le n [] = omega arith
length-without_le n (r ∷ rows) =
    let rest : length (without n rows) ≤ length rows = length-without_le n rows in
    elim (cases_Bool (r.shown.number == n)) [
      | inl here ↦ rw here (omega arith)
      | inr other ↦ rw other (omega arith)
    ]

pub length-without : (n : ℕ) (r : Row) (rows : List Row) → row_of n rows ≡ Some r → length (without n rows) < length rows
length-without n r [] is = cc
length-without n r (s ∷ rows) is =
    elim (cases_Bool (s.shown.number == n)) [
      | inl here ↦ let rest : length (without n rows) ≤ length rows = length-without_le n rows in rw here (omega arith)
      | inr other ↦ let rest : length (without n rows) < length rows = length-without n r rows (rw other at is) in rw other (omega arith)
    ]

-- a row that is there
pub there : (o : Option Row) → IsSome o → (r : Row) × (o ≡ Some r)
there None is = absurd (false≢true is)
there (Some r) is = (r, refl)

-- a change that a test doesn't see
pub find_none_with : (p : Row → Bool) (n : ℕ) (f : Row → Row) (rows : List Row) → ((r : Row) → p (f r) ≡ p r) → find p rows ≡ None → find p (with_row n f rows) ≡ None
find_none_with p n f [] same none = refl
find_none_with p n f (r ∷ rows) same none =
    elim (cases_Bool (p r)) [
      | inl passed ↦ absurd (none-some r (sym none ∙ rw passed))
      | inr failed ↦
          let rest : find p (with_row n f rows) ≡ None = find_none_with p n f rows same (rw failed at none) in
          let changed : p (f r) ≡ false = same r ∙ failed in
          elim (cases_Bool (r.shown.number == n)) [
            | inl here ↦ rw here (rw changed rest)
            | inr other ↦ rw other (rw failed rest)
          ]
    ]

-- the sessions of an account after a change of one
pub reservations_with : (a n : ℕ) (f : Row → Row) (rows : List Row) → KeepsNumber f → ((r : Row) → (f r).shown.account ≡ r.shown.account) → map number_of (filter (is_of a) (with_row n f rows)) ≡ map number_of (filter (is_of a) rows)
reservations_with a n f [] keeps account = refl
reservations_with a n f (r ∷ rows) keeps account =
    let rest : map number_of (filter (is_of a) (with_row n f rows)) ≡ map number_of (filter (is_of a) rows) = reservations_with a n f rows keeps account in
    elim (cases_Bool (r.shown.number == n)) [
      | inl here ↦
          elim (cases_Bool (r.shown.account == a)) [
            | inl mine ↦
                let still : ((f r).shown.account == a) ≡ true = ap (λ b. b == a) (account r) ∙ mine in
                rw here (rw (still, mine) (rw (keeps.same r) (ap (λ t. r.shown.number ∷ t) rest)))
            | inr other ↦
                let still : ((f r).shown.account == a) ≡ false = ap (λ b. b == a) (account r) ∙ other in
                rw here (rw (still, other) rest)
          ]
      | inr there ↦
          elim (cases_Bool (r.shown.account == a)) [
            | inl mine ↦ rw there (rw mine (ap (λ t. r.shown.number ∷ t) rest))
            | inr other ↦ rw there (rw other rest)
          ]
    ]

-- and with one more
pub reservations_push : (a : ℕ) (x : Row) (rows : List Row) → is_of a x ≡ true → map number_of (filter (is_of a) (rows ++ x ∷ [])) ≡ map number_of (filter (is_of a) rows) ++ x.shown.number ∷ []
reservations_push a x [] mine = rw mine refl
reservations_push a x (r ∷ rows) mine =
    let rest : map number_of (filter (is_of a) (rows ++ x ∷ [])) ≡ map number_of (filter (is_of a) rows) ++ x.shown.number ∷ [] = reservations_push a x rows mine in
    elim (cases_Bool (is_of a r)) [
      | inl here ↦ rw here (ap (λ t. r.shown.number ∷ t) rest)
      | inr other ↦ rw other rest
    ]

pub reservations_push_other : (a : ℕ) (x : Row) (rows : List Row) → is_of a x ≡ false → map number_of (filter (is_of a) (rows ++ x ∷ [])) ≡ map number_of (filter (is_of a) rows)
reservations_push_other a x [] other = rw other refl
reservations_push_other a x (r ∷ rows) other =
    let rest : map number_of (filter (is_of a) (rows ++ x ∷ [])) ≡ map number_of (filter (is_of a) rows) = reservations_push_other a x rows other in
    elim (cases_Bool (is_of a r)) [
      | inl here ↦ rw here (ap (λ t. r.shown.number ∷ t) rest)
      | inr there ↦ rw there rest
    ]

-- two tests of rows, in either order
pub filters_commute : (p q : Row → Bool) (rows : List Row) → filter p (filter q rows) ≡ filter q (filter p rows)
filters_commute p q [] = refl
filters_commute p q (r ∷ rows) =
    let rest : filter p (filter q rows) ≡ filter q (filter p rows) = filters_commute p q rows in
    elim (cases_Bool (p r)) [
      | inl first ↦
          elim (cases_Bool (q r)) [
            | inl second ↦ rw (first, second) (rw first (ap (λ t. r ∷ t) rest))
            | inr second ↦ rw (first, second) rest
          ]
      | inr first ↦
          elim (cases_Bool (q r)) [
            | inl second ↦ rw (first, second) (rw first rest)
            | inr second ↦ rw (first, second) rest
          ]
    ]

-- what is sought among some rows, by their numbers
pub found_among : (next low : ℕ) (p q : Row → Bool) (get : ℕ → Option Row) (rows : List Row) → RisesTo next low rows → ((r : Row) → p r ≡ true → q r ≡ true) → ((n : ℕ) (r : Row) → row_of n rows ≡ Some r → get n ≡ Some r) →
    find (λ n. passes p (get n)) (map number_of (filter q rows)) ≡ option_map number_of (find p rows)
found_among next low p q get [] rise within has = refl
found_among next low p q get (r ∷ rows) rise within has =
    let rest : find (λ n. passes p (get n)) (map number_of (filter q rows)) ≡ option_map number_of (find p rows) =
    found_among next (r.shown.number + 1) p q get rows rise.1 within (λ n s is. has n s (row_of_rest next low n s r rows rise is)) in
    let here : get r.shown.number ≡ Some r = has r.shown.number r (row_of_first r rows) in
    elim (cases_Bool (p r)) [
      | inl passed ↦
          let tested : passes p (get r.shown.number) ≡ true = ap (passes p) here ∙ passed in
          rw (within r passed, passed) (rw tested refl)
      | inr failed ↦
          let tested : passes p (get r.shown.number) ≡ false = ap (passes p) here ∙ failed in
          elim (cases_Bool (q r)) [
            | inl mine ↦ rw (mine, failed) (rw tested rest)
            | inr other ↦ rw (other, failed) rest
          ]
    ]
