-- Numbers that go up, and what a test of numbers leaves of them.
use Rattle.std.proofs.Common.{◌≡◌, ℕ, suc, ◌+◌, ◌<◌, ◌≤◌, Bool, true, false, List, [], ◌∷◌, length, ltb, refl, ap, arith, inl, inr}
use Rattle.std.proofs.lemmas.Bool.{cases_Bool}
use Rattle.std.proofs.lemmas.Bool.Decides.{nat_tests}
use Rattle.std.specs.List.{filter}
use Rattle.mam_archive.specs.Entries.{EntryView}
use Rattle.mam_pages.proofs.Placed.{FollowOn}
use Rattle.mam_pages.specs.Spans.{Rises, is_within, number_of_entry, numbers_of, within}
use Rattle.mam_pages.specs.declared.span.Span.{Span}

pub rises_weaken : (a b high : ℕ) (ns : List ℕ) → a ≤ b → Rises b high ns → Rises a high ns
rises_weaken a b high [] le rises = tt
rises_weaken a b high (n ∷ ns) le rises = (omega (arith, rises.0), rises.1, rises.2)

-- the numbers of the entries that pass a test
pub rises_entries : (p : EntryView → Bool) (n high : ℕ) (es : List EntryView) → FollowOn n es → n + length es ≤ high →
    Rises n high (numbers_of (filter p es))
rises_entries p n high [] follow most = tt
rises_entries p n high (e ∷ es) follow most =
    let rest : Rises (suc n) high (numbers_of (filter p es)) = rises_entries p (suc n) high es follow.1 (omega arith) in
    elim (cases_Bool (p e)) [
      | inl holds ↦ rw holds (omega (arith, follow.0), omega (arith, follow.0), rw follow.0 rest)
      | inr fails ↦ rw fails (rises_weaken n (suc n) high (numbers_of (filter p es)) (omega arith) rest)
    ]

-- a test of entries by their numbers
pub filter_numbers : (q : ℕ → Bool) (es : List EntryView) → filter q (numbers_of es) ≡ numbers_of (filter (λ e. q (number_of_entry e)) es)
filter_numbers q [] = refl
filter_numbers q (e ∷ es) =
    elim (cases_Bool (q e.number)) [
      | inl holds ↦ rw holds (ap (λ t. e.number ∷ t) (filter_numbers q es))
      | inr fails ↦ rw fails (filter_numbers q es)
    ]

-- tests that agree on such numbers leave the same
pub filter_same : (p q : ℕ → Bool) (low high : ℕ) (ns : List ℕ) → Rises low high ns → ((n : ℕ) → low < n → n ≤ high → p n ≡ q n) →
    filter p ns ≡ filter q ns
filter_same p q low high [] rises same = refl
filter_same p q low high (n ∷ ns) rises same =
    let here : p n ≡ q n = same n rises.0 rises.1 in
    let rest : filter p ns ≡ filter q ns =
    filter_same p q n high ns rises.2 (λ m above below. same m (omega (arith, rises.0)) below) in
    elim (cases_Bool (q n)) [
      | inl holds ↦ rw (here, holds) (ap (λ t. n ∷ t) rest)
      | inr fails ↦ rw (here, fails) rest
    ]

-- a test that such numbers pass leaves all
pub filter_all : (p : ℕ → Bool) (low high : ℕ) (ns : List ℕ) → Rises low high ns → ((n : ℕ) → low < n → n ≤ high → p n ≡ true) →
    filter p ns ≡ ns
filter_all p low high [] rises passes = refl
filter_all p low high (n ∷ ns) rises passes =
    let here : p n ≡ true = passes n rises.0 rises.1 in
    rw here (ap (λ t. n ∷ t) (filter_all p n high ns rises.2 (λ m above below. passes m (omega (arith, rises.0)) below)))

-- a test that such numbers fail leaves none
pub filter_none : (p : ℕ → Bool) (low high : ℕ) (ns : List ℕ) → Rises low high ns → ((n : ℕ) → low < n → n ≤ high → p n ≡ false) →
    filter p ns ≡ []
filter_none p low high [] rises fails = refl
filter_none p low high (n ∷ ns) rises fails =
    let here : p n ≡ false = fails n rises.0 rises.1 in
    rw here (filter_none p n high ns rises.2 (λ m above below. fails m (omega (arith, rises.0)) below))

pub within_all : (span : Span) (low high : ℕ) (ns : List ℕ) → Rises low high ns → span.after ≤ low → high ≤ span.through →
    within span ns ≡ ns
within_all span low high ns rises after through =
    filter_all (is_within span) low high ns rises (λ n above below. grind (arith, nat_tests))

pub within_above : (span : Span) (low high : ℕ) (ns : List ℕ) → Rises low high ns → high ≤ span.through →
    within span ns ≡ filter (λ n. ltb span.after n) ns
within_above span low high ns rises through =
    filter_same (is_within span) (λ n. ltb span.after n) low high ns rises (λ n above below. grind (arith, nat_tests))

pub within_below : (span : Span) (k low high : ℕ) (ns : List ℕ) → Rises low high ns → span.after ≤ low → span.through + 1 ≡ k →
    within span ns ≡ filter (λ n. ltb n k) ns
within_below span k low high ns rises after through =
    filter_same (is_within span) (λ n. ltb n k) low high ns rises (λ n above below. grind (arith, nat_tests))
