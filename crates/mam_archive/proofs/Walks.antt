-- What the numbers beside peers are in the list of entries.
use Rattle.std.proofs.Common.{◌≡◌, ℕ, zero, suc, ◌+◌, ◌-◌, ◌<◌, ◌≤◌, Bool, true, false, ◌&&◌, List, [], ◌∷◌, Some, length, map, slice_get, slice_index, ltb, refl, sym, ap, ◌∙◌, arith, inl, inr}
use Rattle.std.proofs.lemmas.Bool.{cases_Bool, ne_eqb}
use Rattle.std.proofs.lemmas.Bool.Decides.{nat_tests}
use Rattle.std.proofs.lemmas.Option.{none-some, same_Some}
use Rattle.std.proofs.lemmas.Slice.Eq.{bytes_eq-Decides}
use Rattle.std.specs.List.{filter, find}
use Rattle.std.specs.Option.{option_map}
use Rattle.std.specs.Str.{bytes_eq}
use Rattle.mam_archive.proofs.NumberedEntries.{FollowFrom, entry_at, follow_at, follow_numbered}
use Rattle.mam_archive.specs.Chained.{least_with_peer, next_numbers, some_number}
use Rattle.mam_archive.specs.Entries.{AreNumbered, EntryView, entry_numbered}
use Rattle.mam_archive.specs.Peers.{chain_of, first_of, is_with, next_of, peer_of}

abbrev number_of : EntryView → ℕ
number_of e = e.number

pub some_number-positive : (n : ℕ) → 1 ≤ n → some_number n ≡ Some n
some_number-positive n low = rw (ne_eqb n 0 (λ none. omega arith)) refl

pub first_is : (key : EntryView → List ℕ) (peer : List ℕ) (n : ℕ) (es : List EntryView) → FollowFrom n es → 1 ≤ n →
    option_map (λ e. e.number) (find (λ e. bytes_eq (key e) peer) es) ≡ some_number (least_with_peer peer n (map key es))
first_is key peer n [] follow low = refl
first_is key peer n (e ∷ es) follow low = elim (cases_Bool (bytes_eq (key e) peer)) [
  | inl same ↦ rw same (ap Some follow.0 ∙ sym (some_number-positive n low))
  | inr other ↦ rw other (first_is key peer (suc n) es follow.1 (omega arith))
]

-- all numbers are above one below the first
pub find_above : (t : EntryView → Bool) (m s : ℕ) (es : List EntryView) → FollowFrom s es → m < s → find (λ f. ltb m f.number && t f) es ≡ find t es
find_above t m s [] follow low = refl
find_above t m s (e ∷ es) follow low =
    let above : ltb m e.number ≡ true = rw follow.0 (grind (arith, nat_tests)) in
    rw (above, find_above t m (suc s) es follow.1 (omega arith)) refl

-- a number that isn't above another
find_skip : (t : EntryView → Bool) (m : ℕ) (e : EntryView) (es : List EntryView) → e.number ≤ m → find (λ f. ltb m f.number && t f) (e ∷ es) ≡ find (λ f. ltb m f.number && t f) es
find_skip t m e es low =
    let test : ltb m e.number ≡ false = grind (arith, nat_tests) in
    rw test refl

pub next_is : (key : EntryView → List ℕ) (n i : ℕ) (es : List EntryView) (e : EntryView) → FollowFrom n es → 1 ≤ n → slice_get es i ≡ Some e →
    option_map (λ f. f.number) (find (λ f. ltb e.number f.number && bytes_eq (key f) (key e)) es) ≡ some_number (slice_index (next_numbers n (map key es)) i)
next_is key n i [] e follow low is = absurd (none-some e is)
next_is key n zero (f ∷ es) e follow low is =
    let same : f ≡ e = same_Some f e is in
    let number : e.number ≡ n = sym (ap number_of same) ∙ follow.0 in
    let here : f.number ≤ e.number = omega (arith, follow.0) in
    let skipped = find_skip (λ g. bytes_eq (key g) (key e)) e.number f es here in
    let rest = find_above (λ g. bytes_eq (key g) (key e)) e.number (suc n) es follow.1 (omega arith) in
    rw (skipped, rest, ap key same) (first_is key (key e) (suc n) es follow.1 (omega arith))
next_is key n (suc i) (f ∷ es) e follow low is =
    let number : e.number ≡ suc n + i = follow_at (suc n) es i e follow.1 is in
    let here : f.number ≤ e.number = omega (arith, follow.0) in
    rw (find_skip (λ g. bytes_eq (key g) (key e)) e.number f es here) (next_is key (suc n) i es e follow.1 (omega arith) is)

pub first_of_is : (owner peer : List ℕ) (n : ℕ) (es : List EntryView) → FollowFrom n es → 1 ≤ n →
    first_of owner peer es ≡ some_number (least_with_peer peer n (map (peer_of owner) es))
first_of_is owner peer n es follow low = first_is (peer_of owner) peer n es follow low

pub next_of_is : (owner : List ℕ) (n m i : ℕ) (es : List EntryView) (e : EntryView) → FollowFrom n es → 1 ≤ n → m ≡ n + i → slice_get es i ≡ Some e →
    next_of owner m es ≡ some_number (slice_index (next_numbers n (map (peer_of owner) es)) i)
next_of_is owner n m i es e follow low position is =
    let number : e.number ≡ m = follow_at n es i e follow is ∙ sym position in
    let at : m - n ≡ i = omega arith in
    let entry : entry_numbered m es ≡ Some e = entry_at m n es follow (omega arith) ∙ rw at is in
    rw (entry, ← number) (next_is (peer_of owner) n i es e follow low is)

-- the walk along the entries that pass a test
pub record IsStep (t : EntryView → Bool) (s i : ℕ) (es : List EntryView) (e : EntryView) : Type 0 where
  pub next : find (λ f. ltb e.number f.number && t f) es ≡ slice_get (filter t es) (suc i)
  pub low : s ≤ e.number
  pub high : e.number < s + length es
  pub there : slice_get es (e.number - s) ≡ Some e
  pub passes : t e ≡ true

pub find_first : (t : EntryView → Bool) (es : List EntryView) → find t es ≡ slice_get (filter t es) 0
find_first t [] = refl
find_first t (e ∷ es) = elim (cases_Bool (t e)) [
  | inl yes' ↦ rw yes' refl
  | inr fails ↦ rw fails (find_first t es)
]

step_later : (t : EntryView → Bool) (s i : ℕ) (f : EntryView) (es : List EntryView) (e : EntryView) → f.number ≡ s → IsStep t (suc s) i es e →
    (find (λ g. ltb e.number g.number && t g) (f ∷ es) ≡ slice_get (filter t es) (suc i)) × (s ≤ e.number) × (e.number < s + length (f ∷ es)) × (slice_get (f ∷ es) (e.number - s) ≡ Some e)
step_later t s i f es e first step =
    let position : e.number - s ≡ suc (e.number - suc s) = omega (arith, step.low) in
    (find_skip t e.number f es (omega (arith, step.low)) ∙ step.next, omega (arith, step.low), omega (arith, step.high), rw position step.there)

pub step_at : (t : EntryView → Bool) (s i : ℕ) (es : List EntryView) (e : EntryView) → FollowFrom s es → slice_get (filter t es) i ≡ Some e → IsStep t s i es e
step_at t s i [] e follow is = absurd (none-some e is)
step_at t s i (f ∷ es) e follow is = elim (cases_Bool (t f)) [
  | inl passes ↦ here i (λ j. step_at t (suc s) j es e follow.1) passes (rw passes at is)
  | inr fails ↦
      let step = step_at t (suc s) i es e follow.1 (rw fails at is) in
      let later = step_later t s i f es e follow.0 step in
      let rest : slice_get (filter t es) (suc i) ≡ slice_get (filter t (f ∷ es)) (suc i) = rw fails refl in
      record { next = later.0 ∙ rest; low = later.1; high = later.2; there = later.3; passes = step.passes }
]
  where
    here : (j : ℕ) → ((k : ℕ) → slice_get (filter t es) k ≡ Some e → IsStep t (suc s) k es e) → t f ≡ true → slice_get (f ∷ filter t es) j ≡ Some e → IsStep t s j (f ∷ es) e
    here zero steps passes is =
        let same : f ≡ e = same_Some f e is in
        let number : e.number ≡ s = sym (ap number_of same) ∙ follow.0 in
        let low : f.number ≤ e.number = omega (arith, follow.0) in
        let position : e.number - s ≡ zero = omega arith in
        let rest : slice_get (filter t es) 0 ≡ slice_get (filter t (f ∷ es)) 1 = rw passes refl in
        record {
          next = find_skip t e.number f es low ∙ find_above t e.number (suc s) es follow.1 (omega arith) ∙ find_first t es ∙ rest;
          low = omega arith;
          high = omega arith;
          there = rw position is;
          passes = ap t (sym same) ∙ passes;
        }
    here (suc j) steps passes is =
        let step = steps j is in
        let later = step_later t s j f es e follow.0 step in
        let rest : slice_get (filter t es) (suc j) ≡ slice_get (filter t (f ∷ es)) (suc (suc j)) = rw passes refl in
        record { next = later.0 ∙ rest; low = later.1; high = later.2; there = later.3; passes = step.passes }

pub walk_first : (owner peer : List ℕ) (es : List EntryView) → first_of owner peer es ≡ option_map (λ e. e.number) (slice_get (chain_of owner peer es) 0)
walk_first owner peer es = ap (option_map number_of) (find_first (is_with owner peer) es)

pub walk_next : (last i : ℕ) (owner peer : List ℕ) (es : List EntryView) (e : EntryView) → AreNumbered last es → length es ≤ last →
    slice_get (chain_of owner peer es) i ≡ Some e → next_of owner e.number es ≡ option_map (λ f. f.number) (slice_get (chain_of owner peer es) (i + 1))
walk_next last i owner peer es e known within is =
    let s = last + 1 - length es in
    let follow = follow_numbered last es known within in
    let step = step_at (is_with owner peer) s i es e follow is in
    let entry : entry_numbered e.number es ≡ Some e = entry_at e.number s es follow step.low ∙ step.there in
    let same : peer_of owner e ≡ peer = (bytes_eq-Decides (peer_of owner e) peer).0 step.passes in
    let position : i + 1 ≡ suc i = omega arith in
    rw (entry, same, position) (ap (option_map number_of) step.next)
