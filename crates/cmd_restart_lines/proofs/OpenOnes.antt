-- Open connections are those whose end the server wasn't told of: their numbers, beside what was told of each connection.
use Rattle.std.proofs.Common.{◌≡◌, ◌≢◌, ℕ, zero, suc, ◌+◌, ◌<◌, ◌≤◌, Bool, true, false, true≢false, List, [], ◌∷◌, ◌++◌, length, refl, sym, ap, subst, ◌∙◌, arith, eq-eqb, inl, inr}
use Rattle.std.proofs.lemmas.Bool.{cases_Bool}
use Rattle.std.specs.Cmp.{unsigned_ties}
use Rattle.std.specs.List.{AllByRecursion, slice_set}
use Rattle.std.specs.Ordering.{match_ordering, nat_cmp}
use Rattle.std.specs.declared.cmp.Ordering.{Ordering}
use Rattle.std.specs.declared.cmp.Ordering.TheVariants.{Equal, Greater, Less}
use Rattle.cmd_world.specs.Standing.{Below}
use Rattle.law_restart.proofs.Framed.{less_shut, with_number, without_number}
use Rattle.law_restart.specs.Standing.{numbers_of}
use Rattle.law_server.proofs.Seats.{number_same}
use Rattle.srv_state.specs.State.{Out, Put, Shut, Took, is_number}

-- ---- what was told, by places from 0, and by numbers from 1

-- whether the server was told of the end of the connection at a place; where there is none, there is nothing to tell
abbrev pub told_at : ℕ → List Bool → Bool
told_at position [] = true
told_at zero (t ∷ ts) = t
told_at (suc position) (t ∷ ts) = told_at position ts

abbrev pub told_under : ℕ → List Bool → Bool
told_under zero ts = true
told_under (suc position) ts = told_at position ts

-- these numbers differ, and none is that of a connection of whose end the server was told
abbrev pub AreOpen : List Bool → List ℕ → Type 0
AreOpen ts [] = Unit {0}
AreOpen ts (k ∷ ks) = (told_under k ts ≡ false) × AllByRecursion (λ (j : ℕ). j ≢ k) ks × AreOpen ts ks

-- ---- connections that are shut

all_without : (P : ℕ → Type 0) (k : ℕ) (ks : List ℕ) → AllByRecursion P ks → AllByRecursion P (without_number k ks)
all_without P k [] all = tt
all_without P k (j ∷ ks) all =
    elim (cases_Bool (is_number k j)) [
      | inl here ↦ rw here all.1
      | inr other ↦ rw other (all.0, all_without P k ks all.1)
    ]

open_without : (ts : List Bool) (k : ℕ) (ks : List ℕ) → AreOpen ts ks → AreOpen ts (without_number k ks)
open_without ts k [] are = tt
open_without ts k (j ∷ ks) are =
    elim (cases_Bool (is_number k j)) [
      | inl here ↦ rw here are.2
      | inr other ↦ rw other (are.0, all_without (λ i. i ≢ j) k ks are.1, open_without ts k ks are.2)
    ]

pub open_less : {A : Type 0} (outs : List (Out A)) (ts : List Bool) (ks : List ℕ) → AreOpen ts ks → AreOpen ts (less_shut outs ks)
open_less [] ts ks are = are
open_less (Shut k ∷ outs) ts ks are = open_less outs ts (without_number k ks) (open_without ts k ks are)
open_less (Put k a ∷ outs) ts ks are = open_less outs ts ks are
open_less (Took from to origin ∷ outs) ts ks are = open_less outs ts ks are

-- ---- one of whose end the server is told

own : (k : ℕ) → is_number k k ≡ true
own k = sym (unsigned_ties k k) ∙ eq-eqb k k refl

others_left : (k : ℕ) (ts : List Bool) (ks : List ℕ) → AreOpen ts ks → AllByRecursion (λ (j : ℕ). j ≢ k) (without_number k ks)
others_left k ts [] are = tt
others_left k ts (j ∷ ks) are =
    elim (cases_Bool (is_number k j)) [
      | inl here ↦ rw here (subst (λ (n : ℕ). AllByRecursion (λ (i : ℕ). i ≢ n) ks) (sym (number_same k j here)) are.1)
      | inr other ↦ rw other (λ same. true≢false (sym (ap (is_number k) same ∙ own k) ∙ other), others_left k ts ks are.2)
    ]

told_elsewhere : (p q : ℕ) (ts : List Bool) → q ≢ p → told_at q (slice_set ts p true) ≡ told_at q ts
told_elsewhere p q [] apart = refl
told_elsewhere zero zero (t ∷ ts) apart = absurd (apart refl)
told_elsewhere zero (suc q) (t ∷ ts) apart = refl
told_elsewhere (suc p) zero (t ∷ ts) apart = refl
told_elsewhere (suc p) (suc q) (t ∷ ts) apart = told_elsewhere p q ts (λ same. apart (ap suc same))

under_elsewhere : (p j : ℕ) (ts : List Bool) → j ≢ suc p → told_under j (slice_set ts p true) ≡ told_under j ts
under_elsewhere p zero ts apart = refl
under_elsewhere p (suc q) ts apart = told_elsewhere p q ts (λ same. apart (ap suc same))

open_apart : (p : ℕ) (ts : List Bool) (ks : List ℕ) → AllByRecursion (λ (j : ℕ). j ≢ suc p) ks → AreOpen ts ks → AreOpen (slice_set ts p true) ks
open_apart p ts [] apart are = tt
open_apart p ts (j ∷ ks) apart are = (under_elsewhere p j ts apart.0 ∙ are.0, are.1, open_apart p ts ks apart.1 are.2)

-- the server is told that the connection at a place is gone
pub open_told : (p k : ℕ) (ts : List Bool) (ks : List ℕ) → k ≡ p + 1 → AreOpen ts ks → AreOpen (slice_set ts p true) (without_number k ks)
open_told p k ts ks is are =
    let next : k ≡ suc p = omega (arith, is) in
    open_apart p ts (without_number k ks) (subst (λ (n : ℕ). AllByRecursion (λ (j : ℕ). j ≢ n) (without_number k ks)) next (others_left k ts ks are)) (open_without ts k ks are)

-- what was told stays told
pub told_stays : (p q : ℕ) (ts : List Bool) → told_at q ts ≡ true → told_at q (slice_set ts p true) ≡ true
told_stays p q [] is = refl
told_stays zero zero (t ∷ ts) is = refl
told_stays zero (suc q) (t ∷ ts) is = is
told_stays (suc p) zero (t ∷ ts) is = is
told_stays (suc p) (suc q) (t ∷ ts) is = told_stays p q ts is

pub told_here : (p : ℕ) (ts : List Bool) → told_at p (slice_set ts p true) ≡ true
told_here p [] = refl
told_here zero (t ∷ ts) = refl
told_here (suc p) (t ∷ ts) = told_here p ts

-- there is nothing to tell of a connection that isn't there
pub told_past : (p : ℕ) (ts : List Bool) → length ts ≤ p → told_at p ts ≡ true
told_past p [] past = refl
told_past zero (t ∷ ts) past = absurd (omega (arith, past))
told_past (suc p) (t ∷ ts) past = told_past p ts (omega (arith, past))

-- ---- a connection that comes

told_before : (p : ℕ) (ts : List Bool) → told_at p ts ≡ false → told_at p (ts ++ false ∷ []) ≡ false
told_before p [] is = absurd (true≢false is)
told_before zero (t ∷ ts) is = is
told_before (suc p) (t ∷ ts) is = told_before p ts is

under_before : (k : ℕ) (ts : List Bool) → told_under k ts ≡ false → told_under k (ts ++ false ∷ []) ≡ false
under_before zero ts is = absurd (true≢false is)
under_before (suc p) ts is = told_before p ts is

told_new : (ts : List Bool) → told_at (length ts) (ts ++ false ∷ []) ≡ false
told_new [] = refl
told_new (t ∷ ts) = told_new ts

open_before : (ts : List Bool) (ks : List ℕ) → AreOpen ts ks → AreOpen (ts ++ false ∷ []) ks
open_before ts [] are = tt
open_before ts (k ∷ ks) are = (under_before k ts are.0, are.1, open_before ts ks are.2)

all_with : (P : ℕ → Type 0) (k : ℕ) (ks : List ℕ) → P k → AllByRecursion P ks → AllByRecursion P (with_number k ks)
all_with P k [] is all = (is, tt)
all_with P k (j ∷ ks) is all = by (nat_cmp k j) (all_with P k ks is all.1)
  where
    by : (o : Ordering) → AllByRecursion P (with_number k ks) → AllByRecursion P (match_ordering o (k ∷ j ∷ ks) (j ∷ ks) (j ∷ with_number k ks))
    by Less rest = (is, all)
    by Equal rest = all
    by Greater rest = (all.0, rest)

open_with : (ts : List Bool) (k : ℕ) (ks : List ℕ) → told_under k ts ≡ false → AllByRecursion (λ (j : ℕ). j ≢ k) ks → AreOpen ts ks → AreOpen ts (with_number k ks)
open_with ts k [] is apart are = (is, tt, tt)
open_with ts k (j ∷ ks) is apart are = by (nat_cmp k j) (open_with ts k ks is apart.1 are.2)
  where
    by : (o : Ordering) → AreOpen ts (with_number k ks) → AreOpen ts (match_ordering o (k ∷ j ∷ ks) (j ∷ ks) (j ∷ with_number k ks))
    by Less rest = (is, apart, are)
    by Equal rest = are
    by Greater rest = (are.0, all_with (λ (i : ℕ). i ≢ j) k ks (λ same. apart.0 (sym same)) are.1, rest)

-- a connection is made, behind all others
pub open_dialed : (k : ℕ) (ts : List Bool) (ks : List ℕ) → k ≡ length ts + 1 → AllByRecursion (λ (j : ℕ). j ≢ k) ks → AreOpen ts ks → AreOpen (ts ++ false ∷ []) (with_number k ks)
open_dialed k ts ks is apart are =
    let next : k ≡ suc (length ts) = omega (arith, is) in
    open_with (ts ++ false ∷ []) k ks (ap (λ (n : ℕ). told_under n (ts ++ false ∷ [])) next ∙ told_new ts) apart (open_before ts ks are)

-- a number above all is none of them
pub apart_below : {V : Type 0} (last k : ℕ) (es : List (ℕ × V)) → last < k → Below last es → AllByRecursion (λ (j : ℕ). j ≢ k) (numbers_of es)
apart_below last k [] more below = tt
apart_below last k (e ∷ es) more below = (λ same. let le : e.0 ≤ last = below.0 in omega (arith, same, le, more), apart_below last k es more below.1)

-- ---- once the server was told of all

pub none_open : (ts : List Bool) (ks : List ℕ) → ((p : ℕ) → told_at p ts ≡ true) → AreOpen ts ks → ks ≡ []
none_open ts [] told are = refl
none_open ts (zero ∷ ks) told are = absurd (true≢false are.0)
none_open ts (suc p ∷ ks) told are = absurd (true≢false (sym (told p) ∙ are.0))
