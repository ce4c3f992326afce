-- The pages of a catch-up.
use Rattle.std.proofs.Common.{◌≡◌, ℕ, zero, suc, ◌+◌, ◌-◌, ◌*◌, ◌/◌, ◌%◌, ◌<◌, ◌≤◌, ◌^◌, min, max, true, false, List, Option, Some, None, length, leb, ◌⊎◌, inl, inr, arith, refl, sym, ap, ap₂, subst, ◌∙◌}
use Rattle.std.proofs.Math.Nat.{add-div_right, add-mod_right, div-add-mod, div-eq_of_lt, div_self, mod_self, mul-zero}
use Rattle.std.proofs.lemmas.Bool.{cases_Bool}
use Rattle.std.proofs.lemmas.Bool.Decides.{nat_tests}
use Rattle.std.specs.Int.{div_ceil}
use Rattle.std.specs.List.{slice_get}
use Rattle.std.specs.Option.{option_map}
use Rattle.mam_archive.proofs.IdDigits.{id_of_same}
use Rattle.mam_archive.specs.Entries.{EntryView}
use Rattle.mam_archive.specs.Ids.{id_of}
use Rattle.law_client.specs.CatchUps.{FollowFrom, TakesPages, from_first, from_id, pages_for, query_after}
use Rattle.mam_pages.proofs.Behind.{cut_after, length-numbers_after, position_by}
use Rattle.mam_pages.proofs.CutViews.{view}
use Rattle.mam_pages.proofs.Placed.{find_kept, placed}
use Rattle.mam_pages.proofs.SpanPages.{page_after, page_first}
use Rattle.mam_pages.proofs.WholeArchives.{matching_all}
use Rattle.mam_pages.specs.Cuts.{CutView, fin_of}
use Rattle.mam_pages.specs.Kept.{Kept}
use Rattle.mam_pages.specs.Matches.{matching}
use Rattle.mam_pages.specs.PageOf.{entry_of_id, page_of}
use Rattle.mam_pages.specs.Spans.{IsNumbered, cut_by, number_of_entry, numbers_after, numbers_of}

-- ---- the page behind a number

-- what such a page request is answered with
record IsAnswered (kept : Kept) (after : Option (List ℕ)) (most base last : ℕ) : Type 0 where
  pub cut : CutView
  pub is : page_of kept (query_after after most) ≡ Some cut
  pub numbers : cut.numbers ≡ numbers_after base (min (last - base) most)
  pub complete : cut.complete ≡ leb (last - base) most

-- the page out of the numbers behind `low`
answered_at : (kept : Kept) (after : Option (List ℕ)) (most first last base low : ℕ) → IsNumbered first last kept.entries → base ≡ max low (first - 1) → 1 ≤ first
    → page_of kept (query_after after most) ≡ Some (cut_by (record { after = low; through = last; most = most; backward = false }) (numbers_of (matching kept (query_after after most))))
    → IsAnswered kept after most base last
answered_at kept after most first last base low known start one is =
    let all : numbers_after (first - 1) (last - (first - 1)) ≡ numbers_of (matching kept (query_after after most)) = matching_all kept (query_after after most) first last known (λ e. refl) in
    let count = min (last - base) most in
    let cut = view (numbers_after base count) (position_by (first - 1) base count) (last - (first - 1)) (leb (last - base) most) false in
    let same : cut ≡ cut_by (record { after = low; through = last; most = most; backward = false }) (numbers_after (first - 1) (last - (first - 1))) =
    cut_after (record { after = low; through = last; most = most; backward = false }) (first - 1) (last - (first - 1)) base (last - base) count base (position_by (first - 1) base count) (numbers_after base count) start (omega arith) refl refl refl refl refl in
    record { cut = cut; is = is ∙ ap Some (sym (same ∙ ap (cut_by (record { after = low; through = last; most = most; backward = false })) all)); numbers = refl; complete = refl }

found_at : (first last base : ℕ) (es : List EntryView) → IsNumbered first last es → last < 2 ^ 64 → first ≤ base → base ≤ last → option_map number_of_entry (entry_of_id (id_of base) es) ≡ Some base
found_at first last base es known few above below =
    let at = placed first last es known in
    find_kept base (first - 1) es id_of_same at.1.follow (omega (arith, at.1.end)) (omega (arith, at.0)) (omega (arith, at.1.end))

answered : (kept : Kept) (after : Option (List ℕ)) (most first last base : ℕ) → IsNumbered first last kept.entries → last < 2 ^ 64 → most ≤ 100 → FollowFrom first last after base → IsAnswered kept after most base last
answered kept after most first last base known few small (from_first none start) =
    let at = placed first last kept.entries known in
    let most_is : most ≡ min 100 most = omega arith in
    subst (λ (o : Option (List ℕ)). IsAnswered kept o most base last) (sym none)
    (answered_at kept None most first last base 0 known (omega (arith, at.0)) at.0 (page_first kept (query_after None most) first last most known refl most_is))
answered kept after most first last base known few small (from_id is above below) =
    let at = placed first last kept.entries known in
    let most_is : most ≡ min 100 most = omega arith in
    subst (λ (o : Option (List ℕ)). IsAnswered kept o most base last) (sym is)
    (answered_at kept (Some (id_of base)) most first last base base known (omega (arith, at.0)) at.0
    (page_after kept (query_after (Some (id_of base)) most) (id_of base) first last most base known refl (found_at first last base kept.entries known few above below) most_is))

-- ---- its last entry

number_at : (k b j : ℕ) → j < k → slice_get (numbers_after b k) j ≡ Some (b + suc j)
number_at zero b j low = absurd (omega arith)
number_at (suc k) b zero low = let next : suc b ≡ b + suc zero = omega arith in ap Some next
number_at (suc k) b (suc j) low =
    let below : j < k = omega arith in
    let number : suc b + suc j ≡ b + suc (suc j) = omega arith in
    number_at k (suc b) j below ∙ ap Some number

last_number_is : (cut : CutView) (base count : ℕ) → cut.numbers ≡ numbers_after base count → 1 ≤ count → (fin_of cut).last ≡ Some (id_of (base + count))
last_number_is cut base count is some =
    let size : length cut.numbers ≡ count = ap length is ∙ length-numbers_after base count in
    let low : count - 1 < count = omega arith in
    let number : base + suc (count - 1) ≡ base + count = omega arith in
    let last : slice_get cut.numbers (length cut.numbers - 1) ≡ Some (base + count) =
    ap₂ (λ ns n. slice_get ns (n - 1)) is size ∙ number_at count base (count - 1) low ∙ ap Some number in
    ap (option_map id_of) last

pub more_left : (n most : ℕ) → leb n most ≡ false → most < n
more_left n most more = grind (arith, nat_tests)

pub all_taken : (n most : ℕ) → leb n most ≡ true → n ≤ most
all_taken n most all = grind (arith, nat_tests)

-- behind a page that isn't complete others follow, behind its last entry
record GoesOn (first last base most : ℕ) (cut : CutView) : Type 0 where
  pub more : most < last - base
  pub last_is : (fin_of cut).last ≡ Some (id_of (base + most))
  pub follow : FollowFrom first last (fin_of cut).last (base + most)

goes_on : (kept : Kept) (after : Option (List ℕ)) (most first last base : ℕ) (a : IsAnswered kept after most base last) → 1 ≤ most → FollowFrom first last after base → a.cut.complete ≡ false → GoesOn first last base most a.cut
goes_on kept after most first last base a some from more =
    let beyond : most < last - base = more_left (last - base) most (sym a.complete ∙ more) in
    let count : min (last - base) most ≡ most = omega arith in
    let is : (fin_of a.cut).last ≡ Some (id_of (base + most)) = last_number_is a.cut base most (a.numbers ∙ ap (numbers_after base) count) some in
    let start : first ≤ base + 1 = starts from in
    record { more = beyond; last_is = is; follow = from_id is (omega arith) (omega arith) }
  where
    starts : {first last base : ℕ} {after : Option (List ℕ)} → FollowFrom first last after base → first ≤ base + 1
    starts (from_first none start) = omega arith
    starts (from_id is above below) = omega arith

same_some : {B : Type 0} {x y : B} → Some x ≡ Some y → x ≡ y
same_some e = cc

-- the next page is asked for behind a later entry
pub later : (kept : Kept) (after : Option (List ℕ)) (most first last base : ℕ) (cut : CutView) → IsNumbered first last kept.entries → last < 2 ^ 64 → 1 ≤ most → most ≤ 100 → FollowFrom first last after base
    → page_of kept (query_after after most) ≡ Some cut → cut.complete ≡ false → (base + most < last) × ((fin_of cut).last ≡ Some (id_of (base + most)))
later kept after most first last base cut known few some small from is more =
    let a : IsAnswered kept after most base last = answered kept after most first last base known few small from in
    let same : a.cut ≡ cut = same_some (sym a.is ∙ is) in
    let on : GoesOn first last base most a.cut = goes_on kept after most first last base a some from (ap (λ (c : CutView). c.complete) same ∙ more) in
    let beyond : most < last - base = on.more in
    (omega arith, ap (λ (c : CutView). (fin_of c).last) (sym same) ∙ on.last_is)

-- ---- how many pages

pub one_page : (n most : ℕ) → 1 ≤ most → n ≤ most → pages_for n most ≡ 1
one_page n most some all =
    elim (cases_Bool (leb most n)) [
      | inl full ↦
          let same : n ≡ most = let low = all_taken most n full in omega arith in
          rw same (let quotient : most / most ≡ 1 = div_self some in let rest : most % most ≡ 0 = mod_self most in omega arith)
      | inr less ↦
          let low : n < most = more_left most n less in
          let quotient : n / most ≡ 0 = div-eq_of_lt low in
          omega arith
    ]

least_of : (q r n most : ℕ) → most * q + r ≡ n → 1 ≤ n → 1 ≤ q + min 1 r
least_of zero r n most sum some = let none : most * zero ≡ zero = mul-zero most in omega arith
least_of (suc q) r n most sum some = omega arith

pub next_page : (n most : ℕ) → 1 ≤ most → most < n → pages_for n most ≡ suc (pages_for (n - most) most)
next_page n most some more =
    let left = n - most in
    let sum : n ≡ left + most = omega arith in
    let quotient : (left + most) / most ≡ left / most + 1 = add-div_right left some in
    let rest : (left + most) % most ≡ left % most = add-mod_right left most in
    let least : 1 ≤ left / most + min 1 (left % most) = least_of (left / most) (left % most) left most (div-add-mod left most) (omega arith) in
    let step : div_ceil (left + most) most ≡ div_ceil left most + 1 = rw (quotient, rest) (omega arith) in
    let whole : div_ceil n most ≡ div_ceil left most + 1 = ap (λ m. div_ceil m most) sum ∙ step in
    omega arith

takes_with : (kept : Kept) (after : Option (List ℕ)) (most first last base : ℕ) → IsNumbered first last kept.entries → last < 2 ^ 64 → 1 ≤ most → most ≤ 100 → FollowFrom first last after base
    → ((cut : CutView) → GoesOn first last base most cut → TakesPages kept most (fin_of cut).last (pages_for (last - (base + most)) most)) → TakesPages kept most after (pages_for (last - base) most)
takes_with kept after most first last base known few some small from rest =
    let a : IsAnswered kept after most base last = answered kept after most first last base known few small from in
    elim (cases_Bool (leb (last - base) most)) [
      | inl all ↦
          subst (TakesPages kept most after) (sym (one_page (last - base) most some (all_taken (last - base) most all))) (a.cut, a.is, inl (a.complete ∙ all, refl))
      | inr more ↦
          let on : GoesOn first last base most a.cut = goes_on kept after most first last base a some from (a.complete ∙ more) in
          let beyond : most < last - base = on.more in
          let left : last - base - most ≡ last - (base + most) = omega arith in
          subst (TakesPages kept most after) (sym (next_page (last - base) most some beyond ∙ ap (λ n. suc (pages_for n most)) left))
          (a.cut, a.is, inr (a.complete ∙ more, rest a.cut on))
    ]

takes_at : (fuel : ℕ) (kept : Kept) (after : Option (List ℕ)) (most first last base : ℕ) → last - base ≤ fuel → IsNumbered first last kept.entries → last < 2 ^ 64 → 1 ≤ most → most ≤ 100 → FollowFrom first last after base
    → TakesPages kept most after (pages_for (last - base) most)
takes_at zero kept after most first last base low known few some small from =
    takes_with kept after most first last base known few some small from (λ cut on. let beyond : most < last - base = on.more in absurd (omega arith))
takes_at (suc fuel) kept after most first last base low known few some small from =
    takes_with kept after most first last base known few some small from
    (λ cut on. let beyond : most < last - base = on.more in takes_at fuel kept (fin_of cut).last most first last (base + most) (omega arith) known few some small on.follow)

pub takes : (kept : Kept) (after : Option (List ℕ)) (most first last base : ℕ) → IsNumbered first last kept.entries → last < 2 ^ 64 → 1 ≤ most → most ≤ 100 → FollowFrom first last after base → TakesPages kept most after (pages_for (last - base) most)
takes kept after most first last base known few some small from = takes_at (last - base) kept after most first last base (omega arith) known few some small from

-- the page is the last one, or so many follow it
abbrev Ends : Kept → ℕ → CutView → ℕ → Type 0
Ends kept most cut n = ((cut.complete ≡ true) × (n ≡ 0)) ⊎ ((cut.complete ≡ false) × TakesPages kept most (fin_of cut).last n)

both : (kept : Kept) (most : ℕ) (cut : CutView) (k l : ℕ) → (TakesPages kept most (fin_of cut).last k → TakesPages kept most (fin_of cut).last l → k ≡ l) → Ends kept most cut k → Ends kept most cut l → k ≡ l
both kept most cut k l rest (inl (all, none)) (inl (all_too, none_too)) = none ∙ sym none_too
both kept most cut k l rest (inl (all, none)) (inr (more, these)) = absurd (cc (sym all ∙ more))
both kept most cut k l rest (inr (more, these)) (inl (all, none)) = absurd (cc (sym all ∙ more))
both kept most cut k l rest (inr (more, these)) (inr (more_too, those)) = rest these those

-- no other number of pages is taken
one_number : (kept : Kept) (most : ℕ) (after : Option (List ℕ)) (n m : ℕ) → TakesPages kept most after n → TakesPages kept most after m → n ≡ m
one_number kept most after zero m these those = absurd these
one_number kept most after (suc n) zero these those = absurd those
one_number kept most after (suc n) (suc m) (cut, is, these) (other, is_other, those) =
    let same : other ≡ cut = same_some (sym is_other ∙ is) in
    ap suc (both kept most cut n m (λ x y. one_number kept most (fin_of cut).last n m x y) these (subst (λ (c : CutView). Ends kept most c m) same those))

pub exactly : (kept : Kept) (after : Option (List ℕ)) (most first last base n : ℕ) → IsNumbered first last kept.entries → last < 2 ^ 64 → 1 ≤ most → most ≤ 100 → FollowFrom first last after base → TakesPages kept most after n → n ≡ pages_for (last - base) most
exactly kept after most first last base n known few some small from these = one_number kept most after n (pages_for (last - base) most) these (takes kept after most first last base known few some small from)
