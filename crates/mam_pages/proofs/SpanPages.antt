-- A page out of the entries is the page out of their numbers.
use Rattle.std.proofs.Common.{◌≡◌, ℕ, ◌-◌, ◌≤◌, Bool, true, false, List, [], ◌∷◌, Option, Some, None, length, take, drop, ltb, leb, refl, sym, ap, ◌∙◌, arith}
use Rattle.std.proofs.lemmas.List.{length-map, take-map, drop-map}
use Rattle.std.specs.List.{filter}
use Rattle.std.specs.Option.{option_map}
use Rattle.mam_archive.specs.Entries.{EntryView, newest}
use Rattle.mam_pages.proofs.Placed.{IsPlaced, placed}
use Rattle.mam_pages.proofs.Rising.{filter_numbers, rises_entries, within_above, within_all, within_below}
use Rattle.mam_pages.specs.Kept.{Kept}
use Rattle.mam_pages.specs.Matches.{is_wanted, matching}
use Rattle.mam_pages.specs.PageOf.{cut_out, entry_of_id, index_of_page, is_backward, most_of, page_of}
use Rattle.mam_pages.specs.Spans.{IsNumbered, Rises, cut_by, index_in, number_of_entry, numbers_of, portion_by, within}
use Rattle.mam_pages.specs.declared.query.PageQuery.{PageQuery}
use Rattle.mam_pages.specs.declared.query.PagePosition.{PagePosition}
use Rattle.mam_pages.specs.declared.query.PagePosition.TheVariants.{First, After, Before, Last}
use Rattle.mam_pages.specs.declared.span.Span.{Span}
use Rattle.mam_pages.proofs.CutViews.{same_view}

index_same : (matches page : List EntryView) → index_of_page matches page ≡ index_in (numbers_of matches) (numbers_of page)
index_same matches [] = refl
index_same matches (e ∷ es) =
    sym (ap length (filter_numbers (λ k. ltb k e.number) matches) ∙ length-map (filter (λ f. ltb (number_of_entry f) e.number) matches) number_of_entry)

pub cut_same : (position : PagePosition) (span : Span) (matches found page : List EntryView) → numbers_of found ≡ within span (numbers_of matches) →
    numbers_of page ≡ portion_by span (numbers_of found) → is_backward position ≡ span.backward → cut_out position matches span.most found page ≡ cut_by span (numbers_of matches)
cut_same position span matches found page inside some way =
    let numbers : numbers_of page ≡ portion_by span (within span (numbers_of matches)) = some ∙ ap (portion_by span) inside in
    let size : length found ≡ length (within span (numbers_of matches)) = sym (length-map found number_of_entry) ∙ ap length inside in
    same_view (numbers_of page) (portion_by span (within span (numbers_of matches))) (index_of_page matches page)
    (index_in (numbers_of matches) (portion_by span (within span (numbers_of matches)))) (length matches)
    (length (numbers_of matches)) (leb (length found) span.most) (leb (length (within span (numbers_of matches))) span.most)
    (is_backward position) span.backward numbers (index_same matches page ∙ ap (index_in (numbers_of matches)) numbers)
    (sym (length-map matches number_of_entry)) (ap (λ n. leb n span.most) size) way

newest-map : (most : ℕ) (es : List EntryView) → numbers_of (newest most es) ≡ newest most (numbers_of es)
newest-map most es =
    sym (drop-map number_of_entry (length es - most) es) ∙ ap (λ n. drop (n - most) (numbers_of es)) (sym (length-map es number_of_entry))

-- of the archive's entries that match, the numbers
matches_rise : (kept : Kept) (query : PageQuery) (base last : ℕ) → IsPlaced base last kept.entries →
    Rises base last (numbers_of (matching kept query))
matches_rise kept query base last known =
    rises_entries (is_wanted kept.owner query) base last kept.entries known.follow (omega (arith, known.end))

abbrev span_at : ℕ → ℕ → ℕ → Bool → Span
span_at after through most backward = record { after = after; through = through; most = most; backward = backward }

pub page_first : (kept : Kept) (query : PageQuery) (first last most : ℕ) → IsNumbered first last kept.entries → query.position ≡ First →
    most ≡ most_of query.max → page_of kept query ≡ Some (cut_by (span_at 0 last most false) (numbers_of (matching kept query)))
page_first kept query first last most known position max =
    let known = placed first last kept.entries known in
    let matches = matching kept query in
    let all : within (span_at 0 last most false) (numbers_of matches) ≡ numbers_of matches =
    within_all (span_at 0 last most false) (first - 1) last (numbers_of matches) (matches_rise kept query (first - 1) last known.1) (omega arith) (omega arith) in
    rw (position, ← max) (ap Some (cut_same First (span_at 0 last most false) matches matches (take most matches) (sym all) (sym (take-map number_of_entry most matches)) refl))

pub page_last : (kept : Kept) (query : PageQuery) (first last most : ℕ) → IsNumbered first last kept.entries → query.position ≡ Last →
    most ≡ most_of query.max → page_of kept query ≡ Some (cut_by (span_at 0 last most true) (numbers_of (matching kept query)))
page_last kept query first last most known position max =
    let known = placed first last kept.entries known in
    let matches = matching kept query in
    let all : within (span_at 0 last most true) (numbers_of matches) ≡ numbers_of matches =
    within_all (span_at 0 last most true) (first - 1) last (numbers_of matches) (matches_rise kept query (first - 1) last known.1) (omega arith) (omega arith) in
    rw (position, ← max) (ap Some (cut_same Last (span_at 0 last most true) matches matches (newest most matches) (sym all) (newest-map most matches) refl))

-- an entry with the number that was found
entry_found : (k : ℕ) (found : Option EntryView) → option_map number_of_entry found ≡ Some k → (e : EntryView) × (found ≡ Some e) × (e.number ≡ k)
entry_found k None is = absurd (grind (arith, is))
entry_found k (Some e) is = (e, refl, grind (arith, is))

pub page_after : (kept : Kept) (query : PageQuery) (id : List ℕ) (first last most k : ℕ) → IsNumbered first last kept.entries → query.position ≡ After id →
    option_map number_of_entry (entry_of_id id kept.entries) ≡ Some k → most ≡ most_of query.max →
    page_of kept query ≡ Some (cut_by (span_at k last most false) (numbers_of (matching kept query)))
page_after kept query id first last most k known position is max =
    let known = placed first last kept.entries known in
    let entry = entry_found k (entry_of_id id kept.entries) is in
    let matches = matching kept query in
    let found = filter (λ e. ltb k (number_of_entry e)) matches in
    let inside : numbers_of found ≡ within (span_at k last most false) (numbers_of matches) =
    sym (within_above (span_at k last most false) (first - 1) last (numbers_of matches) (matches_rise kept query (first - 1) last known.1) (omega arith)
    ∙ filter_numbers (λ n. ltb k n) matches) in
    rw (position, entry.1, entry.2, ← max) (ap Some (cut_same (After id) (span_at k last most false) matches found (take most found) inside (sym (take-map number_of_entry most found)) refl))

pub page_before : (kept : Kept) (query : PageQuery) (id : List ℕ) (first last most k : ℕ) → IsNumbered first last kept.entries → query.position ≡ Before id →
    option_map number_of_entry (entry_of_id id kept.entries) ≡ Some k → 1 ≤ k → most ≡ most_of query.max →
    page_of kept query ≡ Some (cut_by (span_at 0 (k - 1) most true) (numbers_of (matching kept query)))
page_before kept query id first last most k known position is low max =
    let known = placed first last kept.entries known in
    let entry = entry_found k (entry_of_id id kept.entries) is in
    let matches = matching kept query in
    let found = filter (λ e. ltb (number_of_entry e) k) matches in
    let inside : numbers_of found ≡ within (span_at 0 (k - 1) most true) (numbers_of matches) =
    sym (within_below (span_at 0 (k - 1) most true) k (first - 1) last (numbers_of matches) (matches_rise kept query (first - 1) last known.1) (omega arith) (omega arith)
    ∙ filter_numbers (λ n. ltb n k) matches) in
    rw (position, entry.1, entry.2, ← max) (ap Some (cut_same (Before id) (span_at 0 (k - 1) most true) matches found (newest most found) inside (newest-map most found) refl))
