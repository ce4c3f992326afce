-- The page that answers a log by the number of its last entry: an archive that keeps its newest entries has that number
-- at its place, or purged it and answers from its first entry on.
use Rattle.std.proofs.Common.{◌≡◌, ◌≢◌, ℕ, zero, suc, ◌+◌, ◌-◌, ◌<◌, ◌≤◌, ◌^◌, min, true, false, List, [], ◌∷◌, Option, Some, None, length, take, drop, map, ltb, leb, refl, ap, ◌∙◌, arith, inl, inr}
use Rattle.std.proofs.lemmas.Bool.{cases_lt, false_from_ne_true, le-leb, lt-leb}
use Rattle.std.proofs.lemmas.Option.{none-some}
use Rattle.std.proofs.lemmas.Slice.Eq.{bytes_eq-Decides}
use Rattle.std.specs.List.{filter, slice_get}
use Rattle.std.specs.Option.{option_or}
use Rattle.std.specs.Str.{bytes_eq}
use Rattle.mam_archive.proofs.IdDigits.{id_of_same}
use Rattle.mam_archive.proofs.NumberedEntries.{FollowFrom, at_position, entry_at, filter_above, find_none, find_one, follow_at, follow_numbered}
use Rattle.mam_archive.specs.Entries.{AreKept, EntryView, entry_numbered}
use Rattle.mam_archive.specs.Ids.{id_of}
use Rattle.cmd_direct.specs.Direct.{as_logged, entries_numbered, next_page, page_from, query_after}
use Rattle.cmd_direct.specs.NextPages.{cut_at, kept_after, page_at, purged}
use Rattle.mam_log.specs.LogPages.{LogPage, last_id, log_of}
use Rattle.mam_log.specs.Views.{same_id}
use Rattle.mam_pages.specs.Cuts.{CutView}
use Rattle.mam_pages.specs.Kept.{kept_by}
use Rattle.mam_pages.specs.Matches.{matching}
use Rattle.mam_pages.specs.PageOf.{candidates, entry_of_id, index_of_page, page_among, page_of}
use Rattle.mam_pages.specs.Spans.{numbers_of}
use Rattle.mam_pages.specs.declared.query.PagePosition.TheVariants.{After}
use Rattle.base_lemmas.proofs.Bytes.{bytes_eq-self}

-- the id of a log's last entry, by its number, which is 0 where there is none
abbrev pub id_after : ℕ → Option (List ℕ)
id_after zero = None
id_after (suc n) = Some (id_of (suc n))

-- the numbers of what is kept follow on one another from the first that wasn't purged
pub kept_follow : (keep last : ℕ) (kept : List EntryView) → AreKept keep last kept → FollowFrom (purged last kept + 1) kept
kept_follow keep last kept known =
    let first : last + 1 - length kept ≡ purged last kept + 1 = omega (arith, known.within) in
    rw first at (follow_numbered last kept known.numbers known.within)

-- behind a purged number stands all that is kept
pub kept_whole : (n last : ℕ) (kept : List EntryView) → n ≤ purged last kept → kept_after n last kept ≡ kept
kept_whole n last kept old = let none : n - purged last kept ≡ zero = omega arith in rw none refl

-- a query that names no one and no time is matched by each entry
all_match : (owner : List ℕ) (after : Option (List ℕ)) (most : ℕ) (es : List EntryView) → matching (kept_by owner es) (query_after after most) ≡ es
all_match owner after most [] = refl
all_match owner after most (e ∷ es) = ap (λ t. e ∷ t) (all_match owner after most es)

-- ids of numbers that differ differ
pub other_id : (m n : ℕ) → m < 2 ^ 64 → n < 2 ^ 64 → m ≢ n → bytes_eq (id_of m) (id_of n) ≡ false
other_id m n small few other =
    false_from_ne_true (bytes_eq (id_of m) (id_of n)) (λ same. other (id_of_same m n small few ((bytes_eq-Decides (id_of m) (id_of n)).0 same)))

-- no entry has the id of a purged number
none_purged : (keep n last : ℕ) (kept : List EntryView) → AreKept keep last kept → 1 ≤ n → n ≤ purged last kept → entry_of_id (id_of n) kept ≡ None
none_purged keep n last kept known some old =
    let high : last ≤ 4294967295 = known.most in
    find_none (λ m. bytes_eq (id_of m) (id_of n)) (purged last kept + 1) kept (kept_follow keep last kept known)
    (λ m above below. other_id m n (omega (arith, known.within)) (omega arith) (λ same. omega arith))

-- the entry with the id of a kept number stands at its place
one_kept : (keep n last : ℕ) (kept : List EntryView) → AreKept keep last kept → purged last kept < n → n ≤ last →
    entry_of_id (id_of n) kept ≡ slice_get kept (n - (purged last kept + 1))
one_kept keep n last kept known new within =
    let high : last ≤ 4294967295 = known.most in
    find_one (λ m. bytes_eq (id_of m) (id_of n)) n (purged last kept + 1) kept (kept_follow keep last kept known) (omega arith)
    ((bytes_eq-Decides (id_of n) (id_of n)).1 refl)
    (λ m above below other. other_id m n (omega (arith, known.within)) (omega arith) other)

-- what stands behind the entry with the id of a kept number
candidates_after : (keep n last : ℕ) (kept : List EntryView) → AreKept keep last kept → purged last kept < n → n ≤ last →
    candidates (After (id_of n)) kept kept ≡ Some (kept_after n last kept)
candidates_after keep n last kept known new within =
    let follow = kept_follow keep last kept known in
    let entry = at_position (n - (purged last kept + 1)) kept (omega (arith, known.within)) in
    let position : entry.0.number ≡ purged last kept + 1 + (n - (purged last kept + 1)) =
    follow_at (purged last kept + 1) kept (n - (purged last kept + 1)) entry.0 follow entry.1 in
    let number : entry.0.number ≡ n = omega arith in
    let first : n + 1 - (purged last kept + 1) ≡ n - purged last kept = omega arith in
    let rest : filter (λ f. ltb n f.number) kept ≡ drop (n - purged last kept) kept = rw first at (filter_above n (purged last kept + 1) kept follow) in
    rw (one_kept keep n last kept known new within, entry.1, number, rest)

page_among_all : (owner : List ℕ) (after : Option (List ℕ)) (most : ℕ) (kept : List EntryView) →
    page_of (kept_by owner kept) (query_after after most) ≡ page_among (query_after after most) kept kept
page_among_all owner after most kept = ap (page_among (query_after after most) kept) (all_match owner after most kept)

-- asked for the page behind a purged number, the archive has none
pub page_after_purged : (keep n last most : ℕ) (owner : List ℕ) (kept : List EntryView) → AreKept keep last kept → 1 ≤ n → n ≤ purged last kept →
    page_of (kept_by owner kept) (query_after (Some (id_of n)) most) ≡ None
page_after_purged keep n last most owner kept known some old =
    page_among_all owner (Some (id_of n)) most kept ∙ rw (none_purged keep n last kept known some old) refl

-- asked for the page behind a kept number, it cuts what stands behind it
pub page_after_kept : (keep n last most : ℕ) (owner : List ℕ) (kept : List EntryView) → AreKept keep last kept → most ≤ 100 → purged last kept < n → n ≤ last →
    page_of (kept_by owner kept) (query_after (Some (id_of n)) most) ≡ Some (cut_at n most last kept)
page_after_kept keep n last most owner kept known cap new within =
    let least : min 100 most ≡ most = omega arith in
    page_among_all owner (Some (id_of n)) most kept ∙ rw (candidates_after keep n last kept known new within, least) refl

-- asked for a page without an id, it cuts all that it keeps, which is what stands behind each purged number
pub page_of_first : (n last most : ℕ) (owner : List ℕ) (kept : List EntryView) → most ≤ 100 → n ≤ purged last kept →
    page_of (kept_by owner kept) (query_after None most) ≡ Some (cut_at n most last kept)
page_of_first n last most owner kept cap old =
    let least : min 100 most ≡ most = omega arith in
    page_among_all owner None most kept ∙ rw (kept_whole n last kept old, least) refl

-- what stands at places of fronts and rests
pub get_in_take : (m : ℕ) (xs : List EntryView) (i : ℕ) (x : EntryView) → slice_get (take m xs) i ≡ Some x → slice_get xs i ≡ Some x
get_in_take zero xs i x at = absurd (none-some x at)
get_in_take (suc m) [] i x at = absurd (none-some x at)
get_in_take (suc m) (y ∷ ys) zero x at = at
get_in_take (suc m) (y ∷ ys) (suc i) x at = get_in_take m ys i x at

pub get_in_drop : (k : ℕ) (xs : List EntryView) (i : ℕ) (x : EntryView) → slice_get (drop k xs) i ≡ Some x → slice_get xs (k + i) ≡ Some x
get_in_drop zero xs i x at = let same : zero + i ≡ i = omega arith in rw same at
get_in_drop (suc k) [] i x at = absurd (none-some x at)
get_in_drop (suc k) (y ∷ ys) i x at = let same : suc k + i ≡ suc (k + i) = omega arith in rw same (get_in_drop k ys i x at)

-- the entries of a page's numbers
numbered_there : (all xs : List EntryView) → ((i : ℕ) (e : EntryView) → slice_get xs i ≡ Some e → entry_numbered e.number all ≡ Some e) →
    entries_numbered (numbers_of xs) all ≡ xs
numbered_there all [] each = refl
numbered_there all (x ∷ xs) each =
    let here : entry_numbered x.number all ≡ Some x = each zero x refl in
    rw here (ap (λ t. x ∷ t) (numbered_there all xs (λ i e at. each (suc i) e at)))

pub entry_is : (s : ℕ) (entries : List EntryView) → FollowFrom s entries → (i : ℕ) (e : EntryView) → slice_get entries i ≡ Some e → entry_numbered e.number entries ≡ Some e
entry_is s entries follow i e at =
    let number : e.number ≡ s + i = follow_at s entries i e follow at in
    let position : e.number - s ≡ i = omega arith in
    entry_at e.number s entries follow (omega arith) ∙ ap (slice_get entries) position ∙ at

pub entries_of_page : (keep n last most : ℕ) (kept : List EntryView) → AreKept keep last kept →
    entries_numbered (numbers_of (take most (kept_after n last kept))) kept ≡ take most (kept_after n last kept)
entries_of_page keep n last most kept known =
    numbered_there kept (take most (kept_after n last kept))
    (λ i e at. entry_is (purged last kept + 1) kept (kept_follow keep last kept known) (n - purged last kept + i) e
    (get_in_drop (n - purged last kept) kept i e (get_in_take most (kept_after n last kept) i e at)))

-- the page of a cut, as a log takes it over
abbrev page_cut : Option (List ℕ) → ℕ → ℕ → ℕ → List EntryView → LogPage
page_cut after n most last kept = record {
  after = after;
  entries = map as_logged (take most (kept_after n last kept));
  complete = leb (length (kept_after n last kept)) most;
  total = length kept;
}

page_from_cut : (after : Option (List ℕ)) (keep n last most : ℕ) (owner : List ℕ) (kept : List EntryView) → AreKept keep last kept →
    page_of (kept_by owner kept) (query_after after most) ≡ Some (cut_at n most last kept) →
    page_from after most (kept_by owner kept) ≡ Some (page_cut after n most last kept)
page_from_cut after keep n last most owner kept known is = rw (is, entries_of_page keep n last most kept known) refl

page_from_none : (after : Option (List ℕ)) (most : ℕ) (owner : List ℕ) (kept : List EntryView) →
    page_of (kept_by owner kept) (query_after after most) ≡ None → page_from after most (kept_by owner kept) ≡ None
page_from_none after most owner kept is = rw is refl

-- the page that a log gets, whatever was purged
next_is : (keep n last most : ℕ) (owner : List ℕ) (kept : List EntryView) → AreKept keep last kept → most ≤ 100 → n ≤ last →
    option_or (page_from (id_after n) most (kept_by owner kept)) (page_from None most (kept_by owner kept)) ≡ Some (page_at n most last kept)
next_is keep zero last most owner kept known cap within =
    let test : leb zero (purged last kept) ≡ true = le-leb zero (purged last kept) (omega arith) in
    rw (page_from_cut None keep zero last most owner kept known (page_of_first zero last most owner kept cap (omega arith)), test) refl
next_is keep (suc n) last most owner kept known cap within =
    elim (cases_lt (purged last kept) (suc n)) [
      | inl new ↦
          let test : leb (suc n) (purged last kept) ≡ false = lt-leb (suc n) (purged last kept) new in
          let found = page_from_cut (Some (id_of (suc n))) keep (suc n) last most owner kept known (page_after_kept keep (suc n) last most owner kept known cap new within) in
          rw (found, test) refl
      | inr old ↦
          let test : leb (suc n) (purged last kept) ≡ true = le-leb (suc n) (purged last kept) old in
          let missing = page_from_none (Some (id_of (suc n))) most owner kept (page_after_purged keep (suc n) last most owner kept known (omega arith) old) in
          let whole = page_from_cut None keep (suc n) last most owner kept known (page_of_first (suc n) last most owner kept cap old) in
          rw (missing, whole, test) refl
    ]

pub next_page_is : (keep n last most : ℕ) (owner : List ℕ) (kept : List EntryView) (pages : List LogPage) → AreKept keep last kept → most ≤ 100 → n ≤ last →
    last_id (log_of pages) ≡ id_after n → next_page most (kept_by owner kept) pages ≡ Some (page_at n most last kept)
next_page_is keep n last most owner kept pages known cap within following =
    ap (λ id. option_or (page_from id most (kept_by owner kept)) (page_from None most (kept_by owner kept))) following
    ∙ next_is keep n last most owner kept known cap within

-- a place is itself
pub same_id-self : (id : Option (List ℕ)) → same_id id id ≡ true
same_id-self None = refl
same_id-self (Some id) = bytes_eq-self id
