-- The candidates for a page among the numbers of a chain, and the page out of them.
use Rattle.std.proofs.Common.{◌≡◌, ℕ, zero, suc, ◌+◌, ◌-◌, ◌≤◌, min, if◌then◌else◌, Bool, true, false, List, [], ◌∷◌, Some, None, length, take, drop, slice_get, ltb, leb, refl, sym, ap, ◌∙◌, arith, inl, inr}
use Rattle.std.proofs.Math.Seq.{drop-nil}
use Rattle.std.proofs.lemmas.Bool.{cases_Bool, cases_lt}
use Rattle.std.proofs.lemmas.Bool.Decides.{nat_tests}
use Rattle.std.proofs.lemmas.List.{length-drop, length-take-le, take_all}
use Rattle.std.proofs.lemmas.Option.{none-some, slice_get_within, same_Some}
use Rattle.mam_archive.specs.declared.chains.Chain.{Chain}
use Rattle.mam_pages.proofs.Positions.{after_position, before_position, up_to_position}
use Rattle.mam_pages.proofs.Rising.{filter_none, within_above, within_all, within_below}
use Rattle.mam_pages.proofs.Tallying.{index_of_first, index_of_last, index_of_none}
use Rattle.mam_pages.specs.Spans.{Rises, cut_by, index_in, portion_by, skipped, within}
use Rattle.mam_pages.specs.Stretches.{IsEndsOf, IsOpenSpan, IsStretch, edge_of, first_index_of, start_of, stretch_at}
use Rattle.mam_pages.specs.declared.span.Span.{Span}
use Rattle.mam_pages.specs.declared.stretch.Stretch.{Stretch}
use Rattle.mam_pages.proofs.CutViews.{view, same_view}

-- which edge a span has
forward_open : (span : Span) (last : ℕ) → span.backward ≡ false → edge_of span last ≡ None → span.after ≡ 0
forward_open span last front none = elim (cases_lt 0 span.after) [
  | inl some ↦
      let test : ltb 0 span.after ≡ true = grind (arith, nat_tests) in
      absurd (none-some span.after (sym (rw (front, test) at none)))
  | inr zero_after ↦ omega arith
]

backward_open : (span : Span) (last : ℕ) → span.backward ≡ true → span.through ≤ last → edge_of span last ≡ None → span.through ≡ last
backward_open span last back below none = elim (cases_lt span.through last) [
  | inl some ↦
      let test : ltb span.through last ≡ true = grind (arith, nat_tests) in
      absurd (none-some (suc span.through) (sym (rw (back, test) at none)))
  | inr end ↦ omega arith
]

forward_edge : (span : Span) (last n : ℕ) → span.backward ≡ false → edge_of span last ≡ Some n → span.after ≡ n
forward_edge span last n front is = elim (cases_lt 0 span.after) [
  | inl some ↦
      let test : ltb 0 span.after ≡ true = grind (arith, nat_tests) in
      same_Some span.after n (rw (front, test) at is)
  | inr zero_after ↦
      let test : ltb 0 span.after ≡ false = grind (arith, nat_tests) in
      absurd (none-some n (rw (front, test) at is))
]

backward_edge : (span : Span) (last n : ℕ) → span.backward ≡ true → edge_of span last ≡ Some n → suc span.through ≡ n
backward_edge span last n back is = elim (cases_lt span.through last) [
  | inl some ↦
      let test : ltb span.through last ≡ true = grind (arith, nat_tests) in
      same_Some (suc span.through) n (rw (back, test) at is)
  | inr end ↦
      let test : ltb span.through last ≡ false = grind (arith, nat_tests) in
      absurd (none-some n (rw (back, test) at is))
]

none_skipped : (span : Span) (high : ℕ) (ns : List ℕ) → Rises 0 high ns → span.after ≡ 0 → length (skipped span ns) ≡ 0
none_skipped span high ns rises start =
    ap length (filter_none (λ j. leb j span.after) 0 high ns rises (λ j above under. grind (arith, nat_tests, start)))

-- where no edge is, all are candidates
pub whole_is : (span : Span) (last : ℕ) (ns : List ℕ) (chain : Chain) (s : Stretch) → Rises 0 last ns → IsEndsOf ns chain → IsOpenSpan last span →
    edge_of span last ≡ None → s.skipped ≡ 0 → s.found ≡ chain.count → s.count ≡ chain.count →
    s.number ≡ (if span.backward then chain.last else chain.first) → IsStretch span ns s
whole_is span last ns chain s rises ends reach edge none all count number = elim (cases_Bool span.backward) [
  | inl back ↦
      let start = reach.backward back in
      let end = backward_open span last back reach.below edge in
      let inside : within span ns ≡ ns = within_all span 0 last ns rises (omega (arith, start)) (omega (arith, end)) in
      let position : s.skipped + s.found - 1 ≡ length ns - 1 = omega (arith, none, all, ends.count) in
      let is : s.number ≡ chain.last = rw back at number in
      parts back start inside (λ some. rw back (rw (position, is) ends.last))
  | inr front ↦
      let start = forward_open span last front edge in
      let end = reach.forward front in
      let inside : within span ns ≡ ns = within_all span 0 last ns rises (omega (arith, start)) (omega (arith, end)) in
      let is : s.number ≡ chain.first = rw front at number in
      parts front start inside (λ some. rw front (rw (none, is) ends.first))
]
  where
    parts : {b : Bool} → span.backward ≡ b → span.after ≡ 0 → within span ns ≡ ns → (1 ≤ min s.found span.most → slice_get ns (start_of span s) ≡ Some s.number) → IsStretch span ns s
    parts side start inside first =
        record {
          count = count ∙ ends.count;
          skipped = none ∙ sym (none_skipped span last ns rises start);
          found = all ∙ ends.count ∙ ap length (sym inside);
          whole = inside ∙ sym (rw none (take_all s.found ns (omega (arith, all, ends.count))));
          room = omega (arith, none, all, ends.count);
          start = first;
        }

-- beside the one with an index
pub beside_is : (span : Span) (last i k number : ℕ) (ns : List ℕ) (s : Stretch) → Rises 0 last ns → IsOpenSpan last span →
    edge_of span last ≡ Some k → slice_get ns i ≡ Some k → s ≡ stretch_at span number i (length ns) →
    (1 ≤ min s.found span.most → slice_get ns (start_of span s) ≡ Some number) → IsStretch span ns s
beside_is span last i k number ns s rises reach edge here is first = elim (cases_Bool span.backward) [
  | inl back ↦
      let shape : s ≡ record { number = number; skipped = 0; found = i; count = length ns } = rw back at is in
      let start = reach.backward back in
      let next = backward_edge span last k back edge in
      let inside : within span ns ≡ take i ns =
      within_below span k 0 last ns rises (omega (arith, start)) (omega (arith, next)) ∙ before_position 0 last i k ns rises here in
      let low = slice_get_within ns i k here in
      record {
        count = ap (λ (t : Stretch). t.count) shape;
        skipped = ap (λ (t : Stretch). t.skipped) shape ∙ sym (none_skipped span last ns rises start);
        found = ap (λ (t : Stretch). t.found) shape ∙ sym (ap length inside ∙ length-take-le i ns (omega (arith, low)));
        whole = rw shape inside;
        room = rw shape (omega (arith, low));
        start = λ some. first some ∙ ap Some (sym (ap (λ (t : Stretch). t.number) shape));
      }
  | inr front ↦
      let shape : s ≡ record { number = number; skipped = i + 1; found = length ns - i - 1; count = length ns } = rw front at is in
      let after = forward_edge span last k front edge in
      let end = reach.forward front in
      let one : suc i ≡ i + 1 = omega arith in
      let inside : within span ns ≡ drop (i + 1) ns =
      rw (← one) (within_above span 0 last ns rises (omega (arith, end)) ∙ rw after (after_position 0 last i k ns rises here)) in
      let low = slice_get_within ns i k here in
      let before : length (skipped span ns) ≡ i + 1 = rw (after, ← one) (up_to_position 0 last i k ns rises here) in
      record {
        count = ap (λ (t : Stretch). t.count) shape;
        skipped = ap (λ (t : Stretch). t.skipped) shape ∙ sym before;
        found = ap (λ (t : Stretch). t.found) shape ∙ omega (arith, ap length inside, length-drop (i + 1) ns);
        whole = rw shape (inside ∙ sym (take_all (length ns - i - 1) (drop (i + 1) ns) (omega (arith, length-drop (i + 1) ns))));
        room = rw shape (omega (arith, low));
        start = λ some. first some ∙ ap Some (sym (ap (λ (t : Stretch). t.number) shape));
      }
]

-- the first so many of a list, where it has so many
take_min : (m : ℕ) (ns : List ℕ) → take m ns ≡ take (min (length ns) m) ns
take_min zero ns = let none : min (length ns) zero ≡ zero = omega arith in rw none refl
take_min (suc m) [] = let none : min zero (suc m) ≡ zero = omega arith in rw none refl
take_min (suc m) (n ∷ ns) =
    let more : min (length (n ∷ ns)) (suc m) ≡ suc (min (length ns) m) = omega arith in
    rw more (ap (λ t. n ∷ t) (take_min m ns))

take_take : (m k : ℕ) (ns : List ℕ) → m ≤ k → take m (take k ns) ≡ take m ns
take_take zero k ns le = refl
take_take (suc m) zero ns le = absurd (omega arith)
take_take (suc m) (suc k) [] le = refl
take_take (suc m) (suc k) (n ∷ ns) le = ap (λ t. n ∷ t) (take_take m k ns (omega arith))

-- the page out of a stretch, forward and backward
pub forward_page : (span : Span) (ns : List ℕ) (s : Stretch) (count : ℕ) → span.backward ≡ false → IsStretch span ns s → count ≡ min s.found span.most →
    take count (drop s.skipped ns) ≡ portion_by span (within span ns)
forward_page span ns s count front known some =
    let page : portion_by span (within span ns) ≡ take (min (length (within span ns)) span.most) (within span ns) = rw front (take_min span.most (within span ns)) in
    let size : min (length (within span ns)) span.most ≡ count = omega (arith, some, known.found) in
    sym (page ∙ ap (λ n. take n (within span ns)) size ∙ ap (take count) known.whole ∙ take_take count s.found (drop s.skipped ns) (omega (arith, some)))

pub backward_page : (span : Span) (high last position : ℕ) (ns : List ℕ) (s : Stretch) (count : ℕ) → span.backward ≡ true → Rises 0 high ns → IsOpenSpan last span → IsStretch span ns s →
    count ≡ min s.found span.most → 1 ≤ count → position ≡ s.skipped + s.found - 1 → drop (position + 1 - count) (take (position + 1) ns) ≡ portion_by span (within span ns)
backward_page span high last position ns s count back rises reach known some there at =
    let none : s.skipped ≡ 0 = known.skipped ∙ none_skipped span high ns rises (reach.backward back) in
    let inside : within span ns ≡ take (position + 1) ns =
    known.whole ∙ ap (λ n. take s.found (drop n ns)) none ∙ ap (λ n. take n ns) (omega (arith, at, none, some, there)) in
    let size : length (within span ns) - span.most ≡ position + 1 - count = omega (arith, known.found, at, none, some, there) in
    rw back (rw size (ap (drop (position + 1 - count)) (sym inside)))

pub backward_start : (span : Span) (ns : List ℕ) (s : Stretch) (count : ℕ) → span.backward ≡ true → IsStretch span ns s → count ≡ min s.found span.most → 1 ≤ count →
    slice_get ns (s.skipped + s.found - 1) ≡ Some s.number
backward_start span ns s count back known some there = rw back at (known.start (omega (arith, some, there)))

pub forward_start : (span : Span) (ns : List ℕ) (s : Stretch) (count : ℕ) → span.backward ≡ false → IsStretch span ns s → count ≡ min s.found span.most → 1 ≤ count →
    slice_get ns s.skipped ≡ Some s.number
forward_start span ns s count front known some there = rw front at (known.start (omega (arith, some, there)))

pub no_page : (span : Span) (ns : List ℕ) (s : Stretch) → IsStretch span ns s → min s.found span.most ≡ 0 → [] ≡ portion_by span (within span ns)
no_page span ns s known none = elim (cases_Bool span.backward) [
  | inl back ↦
      let size : length (drop (length (within span ns) - span.most) (within span ns)) ≡ 0 = omega (arith, length-drop (length (within span ns) - span.most) (within span ns), known.found, none) in
      rw back (sym (empty (drop (length (within span ns) - span.most) (within span ns)) size))
  | inr front ↦
      let size : min (length (within span ns)) span.most ≡ 0 = omega (arith, known.found, none) in
      rw front (sym (take_min span.most (within span ns) ∙ ap (λ n. take n (within span ns)) size))
]
  where
    empty : (xs : List ℕ) → length xs ≡ 0 → xs ≡ []
    empty [] is = refl
    empty (x ∷ xs) is = absurd (omega (arith, is))

portion_size : (span : Span) (ns : List ℕ) → length (portion_by span ns) ≡ min (length ns) span.most
portion_size span ns = elim (cases_Bool span.backward) [
  | inl back ↦ rw back (omega (arith, length-drop (length ns - span.most) ns))
  | inr front ↦ rw (front, take_min span.most ns) (omega (arith, length-take-le (min (length ns) span.most) ns (omega arith)))
]

first_index_is : (span : Span) (high : ℕ) (ns : List ℕ) (s : Stretch) (count : ℕ) → Rises 0 high ns → IsStretch span ns s → count ≡ min s.found span.most →
    first_index_of span s count ≡ index_in ns (portion_by span (within span ns))
first_index_is span high ns s count rises known some = elim (cases_lt 0 count) [
  | inl there ↦
      let test : leb count 0 ≡ false = grind (arith, nat_tests) in
      let size : 1 ≤ length (portion_by span (within span ns)) = omega (arith, portion_size span (within span ns), known.found, some, there) in
      elim (cases_Bool span.backward) [
        | inl back ↦
            let index : first_index_of span s count ≡ s.skipped + (s.found - count) = rw (test, back) refl in
            index ∙ (index_of_last span high s.skipped (s.found - count) ns (portion_by span (within span ns)) rises back refl size known.skipped (omega (arith, known.found, some)))
        | inr front ↦
            let index : first_index_of span s count ≡ s.skipped = rw (test, front) refl in
            index ∙ (index_of_first span high s.skipped ns (portion_by span (within span ns)) rises front refl size known.skipped)
      ]
  | inr none ↦
      let test : leb count 0 ≡ true = grind (arith, nat_tests) in
      let size : length (portion_by span (within span ns)) ≡ 0 = omega (arith, portion_size span (within span ns), known.found, some, none) in
      let index : first_index_of span s count ≡ 0 = rw test refl in
      index ∙ (index_of_none span ns (portion_by span (within span ns)) refl size)
]

-- the page out of a stretch
pub stretch_cut : (span : Span) (high : ℕ) (ns : List ℕ) (s : Stretch) (count : ℕ) (numbers : List ℕ) (index : ℕ) → Rises 0 high ns → IsStretch span ns s →
    count ≡ min s.found span.most → numbers ≡ portion_by span (within span ns) → index ≡ first_index_of span s count →
    view numbers index s.count (leb s.found span.most) span.backward ≡ cut_by span ns
stretch_cut span high ns s count numbers index rises known some are at =
    same_view numbers (portion_by span (within span ns)) index (index_in ns (portion_by span (within span ns))) s.count (length ns)
    (leb s.found span.most) (leb (length (within span ns)) span.most) span.backward span.backward are (at ∙ first_index_is span high ns s count rises known some)
    known.count (ap (λ n. leb n span.most) known.found) refl

take_nil : (m : ℕ) → take {A = ℕ} m [] ≡ []
take_nil zero = refl
take_nil (suc m) = refl

nothing : (span : Span) → portion_by span [] ≡ []
nothing span = elim (cases_Bool span.backward) [
  | inl back ↦ rw back (drop-nil (0 - span.most))
  | inr front ↦ rw front (take_nil span.most)
]

-- the page out of no numbers
pub empty_cut : (span : Span) (items ns : List ℕ) → items ≡ [] → ns ≡ [] → view items 0 0 true span.backward ≡ cut_by span ns
empty_cut span items ns none are =
    let low : leb 0 span.most ≡ true = grind (arith, nat_tests) in
    ap (λ t. view t 0 0 true span.backward) none
    ∙ same_view [] (portion_by span []) 0 (index_in [] (portion_by span [])) 0 0 true (leb 0 span.most) span.backward span.backward (sym (nothing span)) (sym (ap (index_in []) (nothing span))) refl (sym low) refl
    ∙ ap (cut_by span) (sym are)
