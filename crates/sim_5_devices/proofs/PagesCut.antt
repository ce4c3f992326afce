-- The page that an archive cuts behind a number: the numbers behind it, as many as were asked for, where there are as many.
use Rattle.std.proofs.Common.{◌≡◌, ℕ, zero, suc, ◌+◌, ◌-◌, ◌<◌, ◌≤◌, ◌^◌, ◌==◌, min, max, leb, true, false, List, [], ◌∷◌, Option, Some, None, length, arith, refl, sym, ap, subst, ◌∙◌, inl, inr, eq-eqb, ne_eqb, option_map}
use Rattle.std.proofs.lemmas.Bool.{cases_eq}
use Rattle.cmd_direct.specs.Direct.{query_after}
use Rattle.mam_archive.proofs.IdDigits.{id_of_same}
use Rattle.mam_archive.specs.Entries.{EntryView}
use Rattle.mam_archive.specs.Ids.{id_of}
use Rattle.law_client.specs.CatchUps.{FollowFrom, from_first, from_id}
use Rattle.mam_pages.proofs.Behind.{cut_after, position_by}
use Rattle.mam_pages.proofs.CutViews.{view}
use Rattle.mam_pages.proofs.Placed.{FollowOn, find_kept, placed}
use Rattle.mam_pages.proofs.SpanPages.{page_after, page_first}
use Rattle.mam_pages.proofs.WholeArchives.{matching_all}
use Rattle.mam_pages.specs.Kept.{Kept}
use Rattle.mam_pages.specs.Matches.{matching}
use Rattle.mam_pages.specs.PageOf.{entry_of_id, page_of}
use Rattle.mam_pages.specs.Spans.{IsNumbered, cut_by, number_of_entry, numbers_after, numbers_of}
use Rattle.sim_5_devices.specs.Shown.{AreGiven, IsGiven}

-- what a page request is answered with
pub record IsPageOf (kept : Kept) (after : Option (List ℕ)) (most first last base : ℕ) : Type 0 where
  pub index : ℕ
  pub is : page_of kept (query_after after most) ≡ Some (view (numbers_after base (min (last - base) most)) index (last - (first - 1)) (leb (last - base) most) false)
  pub index_low : index ≤ last
  pub start : first ≤ base + 1
  pub end : base ≤ last

place_low : (b base count : ℕ) → position_by b base count ≤ base
place_low b base zero = omega arith
place_low b base (suc count) = omega arith

-- the page out of the numbers behind `low`
cut_at : (kept : Kept) (after : Option (List ℕ)) (most first last base low : ℕ) → IsNumbered first last kept.entries → base ≡ max low (first - 1) → 1 ≤ first → first ≤ base + 1 → base ≤ last
    → page_of kept (query_after after most) ≡ Some (cut_by (record { after = low; through = last; most = most; backward = false }) (numbers_of (matching kept (query_after after most))))
    → IsPageOf kept after most first last base
cut_at kept after most first last base low known start one lowest highest is =
    let all : numbers_after (first - 1) (last - (first - 1)) ≡ numbers_of (matching kept (query_after after most)) = matching_all kept (query_after after most) first last known (λ e. refl) in
    let count = min (last - base) most in
    let same : view (numbers_after base count) (position_by (first - 1) base count) (last - (first - 1)) (leb (last - base) most) false
    ≡ cut_by (record { after = low; through = last; most = most; backward = false }) (numbers_after (first - 1) (last - (first - 1))) =
    cut_after (record { after = low; through = last; most = most; backward = false }) (first - 1) (last - (first - 1)) base (last - base) count base (position_by (first - 1) base count) (numbers_after base count) start (omega arith) refl refl refl refl refl in
    let few = place_low (first - 1) base count in
    record {
      index = position_by (first - 1) base count;
      is = is ∙ ap Some (sym (same ∙ ap (cut_by (record { after = low; through = last; most = most; backward = false })) all));
      index_low = omega (arith, few, highest);
      start = lowest;
      end = highest;
    }

found_at : (first last base : ℕ) (es : List EntryView) → IsNumbered first last es → last < 2 ^ 64 → first ≤ base → base ≤ last → option_map number_of_entry (entry_of_id (id_of base) es) ≡ Some base
found_at first last base es known few above below =
    let at = placed first last es known in
    find_kept base (first - 1) es id_of_same at.1.follow (omega (arith, at.1.end)) (omega (arith, at.0)) (omega (arith, at.1.end))

pub page_cut : (kept : Kept) (after : Option (List ℕ)) (most first last base : ℕ) → IsNumbered first last kept.entries → last < 2 ^ 64 → most ≤ 100 → FollowFrom first last after base → IsPageOf kept after most first last base
page_cut kept after most first last base known few small (from_first none start) =
    let at = placed first last kept.entries known in
    let end = at.1.end in
    let most_is : most ≡ min 100 most = omega arith in
    subst (λ (o : Option (List ℕ)). IsPageOf kept o most first last base) (sym none)
    (cut_at kept None most first last base 0 known (omega (arith, at.0)) at.0 (omega arith) (omega (arith, end)) (page_first kept (query_after None most) first last most known refl most_is))
page_cut kept after most first last base known few small (from_id is above below) =
    let at = placed first last kept.entries known in
    let most_is : most ≡ min 100 most = omega arith in
    subst (λ (o : Option (List ℕ)). IsPageOf kept o most first last base) (sym is)
    (cut_at kept (Some (id_of base)) most first last base base known (omega (arith, at.0)) at.0 (omega arith) below
    (page_after kept (query_after (Some (id_of base)) most) (id_of base) first last most base known refl (found_at first last base kept.entries known few above below) most_is))

-- ---- its entries are there

entry_there : (k n : ℕ) (es : List EntryView) → FollowOn n es → n < k → k ≤ n + length es → k < 2 ^ 64 → IsGiven es k
entry_there k n [] follow low high small = absurd (omega arith)
entry_there k n (e ∷ es) follow low high small =
    elim (cases_eq k (suc n)) [
      | inl same ↦
          let number : e.number ≡ k = follow.0 ∙ sym same in
          let here : (e.number == k) ≡ true = eq-eqb e.number k number in
          record { entry = e; there = rw here refl; number = number; small = small }
      | inr other ↦
          let number = follow.0 in
          let apart : (e.number == k) ≡ false = ne_eqb e.number k (λ is. other (sym is ∙ number)) in
          let rest : IsGiven es k = entry_there k (suc n) es follow.1 (omega arith) (omega arith) small in
          record { entry = rest.entry; there = rw apart rest.there; number = rest.number; small = small }
    ]

pub all_given : (first last b count : ℕ) (es : List EntryView) → IsNumbered first last es → last < 2 ^ 64 → first ≤ b + 1 → b + count ≤ last → AreGiven es (numbers_after b count)
all_given first last b zero es known few low high = tt
all_given first last b (suc count) es known few low high =
    let at = placed first last es known in
    let end = at.1.end in
    let one = at.0 in
    (entry_there (suc b) (first - 1) es at.1.follow (omega arith) (omega (arith, end)) (omega arith), all_given first last (suc b) count es known few (omega arith) (omega arith))
