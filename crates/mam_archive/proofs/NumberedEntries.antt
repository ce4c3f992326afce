-- What is true of entries with consecutive numbers: where one is found, and what stands behind it.
use Rattle.std.proofs.Common.{◌≡◌, ◌≢◌, ℕ, zero, suc, ◌+◌, ◌-◌, ◌<◌, ◌≤◌, ◌==◌, ◌⊎◌, Bool, unwrap_or, true, false, List, [], ◌∷◌, ◌++◌, Some, None, length, drop, ltb, refl, sym, ap, arith, inl, inr}
use Rattle.std.proofs.Math.Seq.{drop-nil}
use Rattle.std.proofs.lemmas.Bool.{cases_lt, cases_eq}
use Rattle.std.proofs.lemmas.Bool.Decides.{nat_tests}
use Rattle.std.proofs.lemmas.Option.{none-some}
use Rattle.std.specs.List.{filter, find, slice_get}
use Rattle.std.specs.Option.{option_map}
use Rattle.mam_archive.specs.Entries.{AreKept, AreNumbered, EntryView, entry_numbered, numbered}

-- the numbers go up by one, from a first
abbrev pub FollowFrom : ℕ → List EntryView → Type 0
FollowFrom s [] = Unit {0}
FollowFrom s (e ∷ es) = (e.number ≡ s) × FollowFrom (suc s) es

pub follow_from : (s : ℕ) (es : List EntryView) → ((i : ℕ) (e : EntryView) → slice_get es i ≡ Some e → e.number ≡ i + s) → FollowFrom s es
follow_from s [] each = tt
follow_from s (e ∷ es) each =
    let first : e.number ≡ zero + s = each zero e refl in
    (omega arith, follow_from (suc s) es (λ i f is. let number : f.number ≡ suc i + s = each (suc i) f is in omega arith))

pub follow_numbered : (last : ℕ) (es : List EntryView) → AreNumbered last es → length es ≤ last → FollowFrom (last + 1 - length es) es
follow_numbered last es known within =
    follow_from (last + 1 - length es) es (λ i e is. let number : e.number + length es ≡ last + 1 + i = known.each i e is in omega arith)

pub follow_all : (es : List EntryView) → AreNumbered (length es) es → FollowFrom 1 es
follow_all es known = follow_from 1 es (λ i e is. let number : e.number + length es ≡ length es + 1 + i = known.each i e is in omega arith)

pub follow_at : (s : ℕ) (es : List EntryView) (i : ℕ) (e : EntryView) → FollowFrom s es → slice_get es i ≡ Some e → e.number ≡ s + i
follow_at s (f ∷ es) zero e follow is =
    let same : f.number ≡ e.number = ap (λ o. unwrap_or (option_map (λ (v : EntryView). v.number) o) 0) is in
    omega (arith, follow.0)
follow_at s (f ∷ es) (suc i) e follow is = let rest : e.number ≡ suc s + i = follow_at (suc s) es i e follow.1 is in omega arith
follow_at s [] i e follow is = absurd (none-some e is)

pub numbered_following : (s last : ℕ) (es : List EntryView) → FollowFrom s es → s + length es ≡ last + 1 → AreNumbered last es
numbered_following s last es follow end = record { each = λ i e is. let number : e.number ≡ s + i = follow_at s es i e follow is in omega arith }

-- an entry more, under the next number
pub follow_push : (s n : ℕ) (es : List EntryView) (e : EntryView) → FollowFrom s es → s + length es ≡ n → FollowFrom s (es ++ numbered n e ∷ [])
follow_push s n [] e follow next = (omega arith, tt)
follow_push s n (f ∷ es) e follow next = (follow.0, follow_push (suc s) n es e follow.1 (omega arith))

pub follow_drop : (k s : ℕ) (es : List EntryView) → FollowFrom s es → FollowFrom (s + k) (drop k es)
follow_drop zero s es follow = let none : s + 0 ≡ s = omega arith in rw none follow
follow_drop (suc k) s [] follow = tt
follow_drop (suc k) s (e ∷ es) follow =
    let shift : s + suc k ≡ suc s + k = omega arith in
    rw shift (follow_drop k (suc s) es follow.1)

-- a test of numbers that no number passes finds none
pub find_none : (p : ℕ → Bool) (s : ℕ) (es : List EntryView) → FollowFrom s es →
    ((m : ℕ) → s ≤ m → m < s + length es → p m ≡ false) → find (λ e. p e.number) es ≡ None
find_none p s [] follow fails = refl
find_none p s (e ∷ es) follow fails =
    let first : p e.number ≡ false = rw follow.0 (fails s (omega arith) (omega arith)) in
    rw first (find_none p (suc s) es follow.1 (λ m low below. fails m (omega arith) (omega arith)))

-- a test that one number alone passes finds the entry with it
pub find_one : (p : ℕ → Bool) (n s : ℕ) (es : List EntryView) → FollowFrom s es → s ≤ n → p n ≡ true →
    ((m : ℕ) → s ≤ m → m < s + length es → m ≢ n → p m ≡ false) → find (λ e. p e.number) es ≡ slice_get es (n - s)
find_one p n s [] follow low passes fails = refl
find_one p n s (e ∷ es) follow low passes fails =
    elim (cases_eq n s) [
      | inl same ↦
          let first : p e.number ≡ true = rw (follow.0, ← same) passes in
          let position : n - s ≡ zero = omega arith in
          rw (first, position)
      | inr other ↦
          let first : p e.number ≡ false = rw follow.0 (fails s (omega arith) (omega arith) (λ is. other (sym is))) in
          let position : n - s ≡ suc (n - suc s) = omega arith in
          rw (first, position) (find_one p n (suc s) es follow.1 (omega arith) passes (λ m above below. fails m (omega arith) (omega arith)))
    ]

-- the entries above a number are those behind the place
pub filter_above : (n s : ℕ) (es : List EntryView) → FollowFrom s es → filter (λ e. ltb n e.number) es ≡ drop (n + 1 - s) es
filter_above n s [] follow = sym (drop-nil (n + 1 - s))
filter_above n s (e ∷ es) follow =
    elim (cases_lt n s) [
      | inl above ↦
          let first : ltb n e.number ≡ true = rw follow.0 (grind (arith, nat_tests)) in
          let here : n + 1 - s ≡ zero = omega arith in
          let next : n + 1 - suc s ≡ zero = omega arith in
          let rest : filter (λ e. ltb n e.number) es ≡ es = rw next at (filter_above n (suc s) es follow.1) in
          rw (first, here) (ap (λ t. e ∷ t) rest)
      | inr within ↦
          let first : ltb n e.number ≡ false = rw follow.0 (grind (arith, nat_tests)) in
          let here : n + 1 - s ≡ suc (n + 1 - suc s) = omega arith in
          rw (first, here) (filter_above n (suc s) es follow.1)
    ]

-- the entry with a number stands at its place
pub entry_at : (n s : ℕ) (es : List EntryView) → FollowFrom s es → s ≤ n → entry_numbered n es ≡ slice_get es (n - s)
entry_at n s es follow low =
    find_one (λ m. m == n) n s es follow low (grind (arith, nat_tests)) (λ m above below other. grind (arith, nat_tests))

-- and none has a number below the first or above the last
pub no_entry : (n s : ℕ) (es : List EntryView) → FollowFrom s es → (n < s) ⊎ (s + length es ≤ n) → entry_numbered n es ≡ None
no_entry n s es follow outside =
    find_none (λ m. m == n) s es follow (λ m above below. elim outside [
      | inl low ↦ grind (arith, nat_tests)
      | inr high ↦ grind (arith, nat_tests)
    ])

pub none_outside : {keep : ℕ} (n last : ℕ) (es : List EntryView) → AreKept keep last es → (n + length es ≤ last) ⊎ (last < n) → entry_numbered n es ≡ None
none_outside n last es kept outside =
    no_entry n (last + 1 - length es) es (follow_numbered last es kept.numbers kept.within) (elim outside [
      | inl low ↦ inl (omega (arith, kept.within))
      | inr high ↦ inr (omega (arith, kept.within))
    ])

-- a place in a list has an item
pub at_position : {A : Type 0} (i : ℕ) (xs : List A) → i < length xs → (x : A) × (slice_get xs i ≡ Some x)
at_position i [] within = absurd (omega arith)
at_position zero (x ∷ xs) within = (x, refl)
at_position (suc i) (x ∷ xs) within = at_position i xs (omega arith)
