-- Numbers one after another, and the pages out of them.
use Rattle.std.proofs.Common.{◌≡◌, ℕ, zero, suc, ◌+◌, ◌-◌, ◌≤◌, min, max, if◌then◌else◌, true, false, List, [], ◌∷◌, ◌++◌, length, take, drop, ltb, leb, refl, sym, ap, ◌∙◌, arith, inl, inr}
use Rattle.std.proofs.lemmas.Bool.{cases_Bool, cases_lt}
use Rattle.std.proofs.lemmas.Bool.Decides.{nat_tests}
use Rattle.std.specs.List.{filter}
use Rattle.mam_archive.specs.Entries.{EntryView, newest}
use Rattle.mam_pages.proofs.Placed.{FollowOn}
use Rattle.mam_pages.specs.Spans.{cut_by, index_in, is_within, numbers_after, numbers_of, portion_by, within}
use Rattle.mam_pages.specs.declared.span.Span.{Span}
use Rattle.mam_pages.proofs.CutViews.{view, same_view}

pub length-numbers_after : (b k : ℕ) → length (numbers_after b k) ≡ k
length-numbers_after b zero = refl
length-numbers_after b (suc k) = ap suc (length-numbers_after (suc b) k)

-- one number more
pub numbers_push : (b k : ℕ) → numbers_after b (k + 1) ≡ numbers_after b k ++ (b + k + 1) ∷ []
numbers_push b zero = let one : suc b ≡ b + zero + 1 = omega arith in ap (λ n. n ∷ []) one
numbers_push b (suc k) =
    let rest : numbers_after (suc b) (k + 1) ≡ numbers_after (suc b) k ++ (suc b + k + 1) ∷ [] = numbers_push (suc b) k in
    let number : suc b + k + 1 ≡ b + suc k + 1 = omega arith in
    let more : suc k + 1 ≡ suc (k + 1) = omega arith in
    rw more (ap (λ t. suc b ∷ t) (rest ∙ ap (λ n. numbers_after (suc b) k ++ n ∷ []) number))

pub take_after : (m b k : ℕ) → take m (numbers_after b k) ≡ numbers_after b (min k m)
take_after zero b k = let none : min k zero ≡ zero = omega arith in rw none
take_after (suc m) b zero = let none : min zero (suc m) ≡ zero = omega arith in rw none
take_after (suc m) b (suc k) =
    let less : min (suc k) (suc m) ≡ suc (min k m) = omega arith in
    rw less (ap (λ t. suc b ∷ t) (take_after m (suc b) k))

pub drop_after : (n b k : ℕ) → drop n (numbers_after b k) ≡ numbers_after (b + n) (k - n)
drop_after zero b k =
    let start : b + zero ≡ b = omega arith in
    let all : k - zero ≡ k = omega arith in
    rw (start, all)
drop_after (suc n) b zero = let none : zero - suc n ≡ zero = omega arith in rw none
drop_after (suc n) b (suc k) =
    let start : b + suc n ≡ suc b + n = omega arith in
    let rest : suc k - suc n ≡ k - n = omega arith in
    rw (start, rest) (drop_after n (suc b) k)

-- the candidates
pub within_after : (span : Span) (base before k : ℕ) → before ≡ max span.after base → span.through ≤ base + k →
    within span (numbers_after base k) ≡ numbers_after before (span.through - before)
within_after span base before zero start end =
    let none : span.through - before ≡ zero = omega arith in
    rw none
within_after span base before (suc k) start end =
    elim (cases_lt base span.after) [
      | inl skip ↦
          let out : is_within span (suc base) ≡ false = grind (arith, nat_tests) in
          rw out (within_after span (suc base) before k (omega arith) (omega arith))
      | inr first ↦
          let rest = within_after span (suc base) (suc base) k (omega arith) (omega arith) in
          elim (cases_lt base span.through) [
            | inl inside ↦
                let candidate : is_within span (suc base) ≡ true = grind (arith, nat_tests) in
                let position : before ≡ base = omega arith in
                let more : span.through - base ≡ suc (span.through - suc base) = omega arith in
                rw (candidate, position, more) (ap (λ t. suc base ∷ t) rest)
            | inr beyond ↦
                let out : is_within span (suc base) ≡ false = grind (arith, nat_tests) in
                let none : span.through - before ≡ zero = omega arith in
                let none_left : span.through - suc base ≡ zero = omega arith in
                rw (out, none) (rest ∙ ap (numbers_after (suc base)) none_left)
          ]
    ]

-- how many are below a number
below_after : (n base k : ℕ) → n ≤ base + k → length (filter (λ j. ltb j (suc n)) (numbers_after base k)) ≡ n - base
below_after n base zero end = omega arith
below_after n base (suc k) end =
    let rest = below_after n (suc base) k (omega arith) in
    elim (cases_lt base n) [
      | inl under ↦
          let here : ltb (suc base) (suc n) ≡ true = grind (arith, nat_tests) in
          rw here (omega (arith, rest))
      | inr over ↦
          let here : ltb (suc base) (suc n) ≡ false = grind (arith, nat_tests) in
          rw here (omega (arith, rest))
    ]

index_after : (base k n count : ℕ) → n ≤ base + k → 1 ≤ count → index_in (numbers_after base k) (numbers_after n count) ≡ n - base
index_after base k n zero end some = absurd (omega arith)
index_after base k n (suc count) end some = below_after n base k end

-- where a list of numbers begins doesn't matter if it has none
numbers_same : (x y k l : ℕ) → k ≡ l → (1 ≤ k → x ≡ y) → numbers_after x k ≡ numbers_after y l
numbers_same x y zero l same start = rw (← same)
numbers_same x y (suc k) l same start = let position : x ≡ y = start (omega arith) in rw (position, ← same)

-- what the page begins behind
abbrev pub after_by : Span → ℕ → ℕ → ℕ
after_by span before count = if span.backward then span.through - count else before

last_after : (most through before found count : ℕ) → count ≡ min found most → found ≡ through - before →
    newest most (numbers_after before found) ≡ numbers_after (through - count) count
last_after most through before found count some size =
    let all = length-numbers_after before found in
    ap (λ n. drop (n - most) (numbers_after before found)) all
    ∙ drop_after (found - most) before found
    ∙ numbers_same (before + (found - most)) (through - count) (found - (found - most)) count (omega arith) (λ there. omega arith)

portion_after : (span : Span) (before found count : ℕ) → count ≡ min found span.most → found ≡ span.through - before →
    portion_by span (numbers_after before found) ≡ numbers_after (after_by span before count) count
portion_after span before found count some size =
    elim (cases_Bool span.backward) [
      | inl back ↦ rw back (last_after span.most span.through before found count some size)
      | inr front ↦ rw (front, some) (take_after span.most before found)
    ]

after_within : (span : Span) (base k before found count : ℕ) → count ≡ min found span.most → found ≡ span.through - before →
    span.through ≤ base + k → 1 ≤ count → after_by span before count ≤ base + k
after_within span base k before found count some size end there =
    elim (cases_Bool span.backward) [
      | inl back ↦ rw back (omega arith)
      | inr front ↦ rw front (omega arith)
    ]

abbrev pub position_by : ℕ → ℕ → ℕ → ℕ
position_by base following zero = 0
position_by base following (suc k) = following - base

position_after : (base k following count : ℕ) → (1 ≤ count → following ≤ base + k) → position_by base following count ≡ index_in (numbers_after base k) (numbers_after following count)
position_after base k following zero within = refl
position_after base k following (suc count) within = sym (index_after base k following (suc count) (within (omega arith)) (omega arith))

-- the page out of numbers one after another
pub cut_after : (span : Span) (base k before found count following position : ℕ) (numbers : List ℕ) → before ≡ max span.after base → span.through ≤ base + k →
    found ≡ span.through - before → count ≡ min found span.most → following ≡ after_by span before count → position ≡ position_by base following count →
    numbers ≡ numbers_after following count → view numbers position k (leb found span.most) span.backward ≡ cut_by span (numbers_after base k)
cut_after span base k before found count following position numbers start end size some first index are =
    let inside : within span (numbers_after base k) ≡ numbers_after before found =
    within_after span base before k start end ∙ ap (numbers_after before) (sym size) in
    let page : portion_by span (within span (numbers_after base k)) ≡ numbers_after following count =
    ap (portion_by span) inside ∙ portion_after span before found count some size ∙ ap (λ n. numbers_after n count) (sym first) in
    let candidates : length (within span (numbers_after base k)) ≡ found = ap length inside ∙ length-numbers_after before found in
    let at : position ≡ index_in (numbers_after base k) (portion_by span (within span (numbers_after base k))) =
    index ∙ position_after base k following count (λ there. rw first (after_within span base k before found count some size end there))
    ∙ ap (index_in (numbers_after base k)) (sym page) in
    same_view numbers (portion_by span (within span (numbers_after base k))) position
    (index_in (numbers_after base k) (portion_by span (within span (numbers_after base k)))) k (length (numbers_after base k))
    (leb found span.most) (leb (length (within span (numbers_after base k))) span.most) span.backward span.backward
    (are ∙ sym page) at (sym (length-numbers_after base k)) (ap (λ n. leb n span.most) (sym candidates)) refl

-- the numbers of consecutive entries
pub numbers_follow : (n : ℕ) (es : List EntryView) → FollowOn n es → numbers_of es ≡ numbers_after n (length es)
numbers_follow n [] follow = refl
numbers_follow n (e ∷ es) follow = rw follow.0 (ap (λ t. suc n ∷ t) (numbers_follow (suc n) es follow.1))
