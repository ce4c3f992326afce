-- What one number more does to a tally, and what a tally says in the end.
use Rattle.std.proofs.Common.{◌≡◌, ℕ, zero, suc, ◌+◌, ◌-◌, ◌<◌, ◌≤◌, Bool, true, false, List, [], ◌∷◌, ◌++◌, length, take, drop, ltb, leb, sym, ap, ◌∙◌, arith, inl, inr, append-nil}
use Rattle.std.proofs.Math.Seq.{drop-nil}
use Rattle.std.proofs.lemmas.Bool.{cases_Bool, cases_lt}
use Rattle.std.proofs.lemmas.Bool.Decides.{nat_tests}
use Rattle.std.proofs.lemmas.List.{drop-append-le, drop-drop, length-drop, length-take-le, length_push, take-append-le, take_all}
use Rattle.std.proofs.lemmas.List.Elements.{filter-append}
use Rattle.std.specs.List.{filter}
use Rattle.mam_pages.proofs.Rising.{filter_none}
use Rattle.mam_archive.specs.Entries.{newest}
use Rattle.mam_pages.specs.Spans.{Rises, index_in, is_within, portion_by, skipped, within}
use Rattle.mam_pages.specs.declared.span.Span.{Span}

-- a test of one item more
pub filter_kept : {A : Type 0} (p : A → Bool) (xs : List A) (x : A) → p x ≡ true → filter p (xs ++ x ∷ []) ≡ filter p xs ++ x ∷ []
filter_kept p xs x holds =
    let one : filter p (x ∷ []) ≡ x ∷ [] = rw holds in
    filter-append p xs (x ∷ []) ∙ ap (λ t. filter p xs ++ t) one

pub filter_dropped : {A : Type 0} (p : A → Bool) (xs : List A) (x : A) → p x ≡ false → filter p (xs ++ x ∷ []) ≡ filter p xs
filter_dropped p xs x fails =
    let none : filter p (x ∷ []) ≡ [] = rw fails in
    filter-append p xs (x ∷ []) ∙ ap (λ t. filter p xs ++ t) none ∙ append-nil (filter p xs)

-- the first so many of one more
pub take_push : (m : ℕ) (xs : List ℕ) (x : ℕ) → take m (xs ++ x ∷ []) ≡ take m (take m xs ++ x ∷ [])
take_push m xs x =
    elim (cases_lt m (length xs)) [
      | inl inside ↦
          let size : length (take m xs) ≡ m = length-take-le m xs (omega arith) in
          take-append-le m xs (x ∷ []) (omega arith) ∙ sym (take-append-le m (take m xs) (x ∷ []) (omega (arith, size)) ∙ take_all m (take m xs) (omega (arith, size)))
      | inr over ↦ rw (take_all m xs over)
    ]

-- the last so many of one more
pub last_push : (m : ℕ) (xs : List ℕ) (x : ℕ) → newest m (xs ++ x ∷ []) ≡ newest m (newest m xs ++ x ∷ [])
last_push m xs x =
    elim (cases_lt m (length xs)) [
      | inl inside ↦
          let k = length xs - m in
          let size : length (drop k xs) ≡ m = omega (arith, length-drop k xs) in
          let inner : length (drop k xs ++ x ∷ []) - m ≡ 1 = omega (arith, size, length_push (drop k xs) x) in
          let outer : length (xs ++ x ∷ []) - m ≡ k + 1 = omega (arith, length_push xs x) in
          let moved : drop k (xs ++ x ∷ []) ≡ drop k xs ++ x ∷ [] = drop-append-le k xs (x ∷ []) (omega arith) in
          rw (inner, outer) (sym (drop-drop 1 k (xs ++ x ∷ [])) ∙ ap (drop 1) moved)
      | inr over ↦
          let all : length xs - m ≡ zero = omega arith in
          rw all
    ]

-- the portion of one candidate more
pub portion_push : (span : Span) (found : List ℕ) (x : ℕ) → portion_by span (found ++ x ∷ []) ≡ portion_by span (portion_by span found ++ x ∷ [])
portion_push span found x =
    elim (cases_Bool span.backward) [
      | inl back ↦ rw back (last_push span.most found x)
      | inr front ↦ rw front (take_push span.most found x)
    ]

nothing_after : (k f : ℕ) (rest : List ℕ) → drop k [] ≡ f ∷ rest → ⊥
nothing_after k f rest is =
    let none : [] ≡ f ∷ rest = sym (drop-nil k) ∙ is in
    grind (arith, none)

-- what is left of rising numbers by a test is above what all are above, and passes
pub record Left (p : ℕ → Bool) (low f : ℕ) : Type 0 where
  pub above : low < f
  pub passes : p f ≡ true

left_weaken : (p : ℕ → Bool) (a b f : ℕ) → a ≤ b → Left p b f → Left p a f
left_weaken p a b f le left = record { above = omega (arith, left.above); passes = left.passes }

left_step : (p : ℕ → Bool) (low n f k : ℕ) (found rest : List ℕ) → low < n → p n ≡ true →
    ((j : ℕ) → drop j found ≡ f ∷ rest → Left p n f) → drop k (n ∷ found) ≡ f ∷ rest → Left p low f
left_step p low n f zero found rest above holds later is =
    let same : n ≡ f = grind (arith, is) in
    record { above = rw (← same) above; passes = rw (← same) holds }
left_step p low n f (suc k) found rest above holds later is = left_weaken p low n f (omega arith) (later k is)

left_after : (p : ℕ → Bool) (low high k f : ℕ) (ns rest : List ℕ) → Rises low high ns → drop k (filter p ns) ≡ f ∷ rest → Left p low f
left_after p low high k f [] rest rises is = absurd (nothing_after k f rest is)
left_after p low high k f (n ∷ ns) rest rises is =
    elim (cases_Bool (p n)) [
      | inl holds ↦
          left_step p low n f k (filter p ns) rest rises.0 holds
          (λ j here. left_after p n high j f ns rest rises.2 here) (rw holds at is)
      | inr fails ↦
          left_weaken p low n f (omega (arith, rises.0)) (left_after p n high k f ns rest rises.2 (rw fails at is))
    ]

-- what a number adds to the numbers below f, where the page begins with f
abbrev below : ℕ → List ℕ → ℕ
below f ns = length (filter (λ j. ltb j f) ns)

none_below : (f low high : ℕ) (ns : List ℕ) → Rises low high ns → f ≤ low → below f ns ≡ 0
none_below f low high ns rises le =
    ap length (filter_none (λ j. ltb j f) low high ns rises (λ j above under. grind (arith, nat_tests)))

none_skipped : (span : Span) (low high : ℕ) (ns : List ℕ) → Rises low high ns → span.after ≤ low → length (skipped span ns) ≡ 0
none_skipped span low high ns rises le =
    ap length (filter_none (λ j. leb j span.after) low high ns rises (λ j above under. grind (arith, nat_tests)))

none_within : (span : Span) (low high : ℕ) (ns : List ℕ) → Rises low high ns → span.through ≤ low → within span ns ≡ []
none_within span low high ns rises le =
    filter_none (is_within span) low high ns rises (λ j above under. grind (arith, nat_tests))

below_step : (span : Span) (n high f k : ℕ) (ns rest : List ℕ) → Rises n high ns → span.after < n →
    ((j : ℕ) → drop j (within span ns) ≡ f ∷ rest → below f ns ≡ length (skipped span ns) + j) →
    drop k (n ∷ within span ns) ≡ f ∷ rest → below f (n ∷ ns) ≡ k
below_step span n high f zero ns rest rises above later is =
    let same : n ≡ f = grind (arith, is) in
    let here : ltb n f ≡ false = rw (← same) (grind (arith, nat_tests)) in
    rw here (none_below f n high ns rises (omega (arith, same)))
below_step span n high f (suc k) ns rest rises above later is =
    let left = left_after (is_within span) n high k f ns rest rises is in
    let here : ltb n f ≡ true = grind (arith, nat_tests, left.above) in
    let none = none_skipped span n high ns rises (omega (arith, above)) in
    let rest_below = later k is in
    rw here (omega (arith, none, rest_below))

-- the numbers below a candidate are those before all candidates and the candidates before it
pub count_below : (span : Span) (low high k f : ℕ) (ns rest : List ℕ) → Rises low high ns → drop k (within span ns) ≡ f ∷ rest →
    below f ns ≡ length (skipped span ns) + k
count_below span low high k f [] rest rises is = absurd (nothing_after k f rest is)
count_below span low high k f (n ∷ ns) rest rises is =
    elim (cases_lt span.after n) [
      | inl above ↦
          elim (cases_lt span.through n) [
            | inl beyond ↦
                let out : is_within span n ≡ false = grind (arith, nat_tests) in
                let none : within span ns ≡ [] = none_within span n high ns rises.2 (omega arith) in
                absurd (nothing_after k f rest (rw (out, none) at is))
            | inr inside ↦
                let candidate : is_within span n ≡ true = grind (arith, nat_tests) in
                let not_before : leb n span.after ≡ false = grind (arith, nat_tests) in
                let none = none_skipped span n high ns rises.2 (omega arith) in
                let count : below f (n ∷ ns) ≡ k =
                below_step span n high f k ns rest rises.2 above (λ j here. count_below span n high j f ns rest rises.2 here) (rw candidate at is) in
                rw not_before (omega (arith, count, none))
          ]
      | inr before ↦
          let out : is_within span n ≡ false = grind (arith, nat_tests) in
          let skip : leb n span.after ≡ true = grind (arith, nat_tests) in
          let left = left_after (is_within span) n high k f ns rest rises.2 (rw out at is) in
          let here : ltb n f ≡ true = grind (arith, nat_tests, left.above) in
          let rest_below = count_below span n high k f ns rest rises.2 (rw out at is) in
          rw (here, skip) (omega (arith, rest_below))
    ]

head_taken : (m f : ℕ) (xs rest : List ℕ) → take m xs ≡ f ∷ rest → drop 0 xs ≡ f ∷ drop 1 xs
head_taken zero f xs rest is = absurd (grind (arith, is))
head_taken (suc m) f [] rest is = absurd (grind (arith, is))
head_taken (suc m) f (x ∷ xs) rest is =
    let same : x ≡ f = grind (arith, is) in
    rw same

-- the page's place, by what it begins with
index_back : (span : Span) (high k : ℕ) (ns page : List ℕ) → Rises 0 high ns → page ≡ drop k (within span ns) → 1 ≤ length page →
    length (skipped span ns) + k ≡ index_in ns page
index_back span high k ns [] rises is some = absurd (omega arith)
index_back span high k ns (f ∷ rest) rises is some = sym (count_below span 0 high k f ns rest rises (sym is))

index_front : (span : Span) (high m : ℕ) (ns page : List ℕ) → Rises 0 high ns → page ≡ take m (within span ns) → 1 ≤ length page →
    length (skipped span ns) ≡ index_in ns page
index_front span high m ns [] rises is some = absurd (omega arith)
index_front span high m ns (f ∷ rest) rises is some =
    let count : below f ns ≡ length (skipped span ns) + 0 =
    count_below span 0 high 0 f ns (drop 1 (within span ns)) rises (head_taken m f (within span ns) rest (sym is)) in
    omega (arith, count)

-- the place of the page's first number, as a tally tells it
pub index_of_none : (span : Span) (ns page : List ℕ) → page ≡ portion_by span (within span ns) → length page ≡ 0 →
    0 ≡ index_in ns (portion_by span (within span ns))
index_of_none span ns [] is none = rw (← is)
index_of_none span ns (f ∷ rest) is none = absurd (omega arith)

pub index_of_last : (span : Span) (high s k : ℕ) (ns page : List ℕ) → Rises 0 high ns → span.backward ≡ true → page ≡ portion_by span (within span ns) →
    1 ≤ length page → s ≡ length (skipped span ns) → k ≡ length (within span ns) - span.most → s + k ≡ index_in ns (portion_by span (within span ns))
index_of_last span high s k ns page rises back is some before following =
    let whole : page ≡ drop (length (within span ns) - span.most) (within span ns) = rw back at is in
    rw (← is, before, following) (index_back span high (length (within span ns) - span.most) ns page rises whole some)

pub index_of_first : (span : Span) (high s : ℕ) (ns page : List ℕ) → Rises 0 high ns → span.backward ≡ false → page ≡ portion_by span (within span ns) →
    1 ≤ length page → s ≡ length (skipped span ns) → s ≡ index_in ns (portion_by span (within span ns))
index_of_first span high s ns page rises front is some before =
    let whole : page ≡ take span.most (within span ns) = rw front at is in
    rw (← is, before) (index_front span high span.most ns page rises whole some)
