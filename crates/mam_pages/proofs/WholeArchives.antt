-- A page out of the entries of a whole archive.
use Rattle.std.proofs.Common.{◌≡◌, ℕ, ◌+◌, ◌-◌, ◌≤◌, Bool, true, List, [], ◌∷◌, None, length, refl, sym, ap, ◌∙◌, arith}
use Rattle.std.specs.List.{filter}
use Rattle.mam_archive.specs.Entries.{EntryView}
use Rattle.mam_pages.proofs.Behind.{numbers_follow}
use Rattle.mam_pages.proofs.Placed.{placed, placed_self}
use Rattle.mam_pages.proofs.Rising.{rises_entries, rises_weaken}
use Rattle.mam_pages.specs.Kept.{AreConsecutive, Kept, first_number, last_number}
use Rattle.mam_pages.specs.Matches.{is_wanted, matching}
use Rattle.mam_pages.specs.Spans.{IsNumbered, Rises, numbers_after, numbers_of}
use Rattle.mam_pages.specs.Walks.{is_in_chain}
use Rattle.mam_pages.specs.declared.query.PageQuery.{PageQuery}

-- the numbers of matching entries go up
pub matching_rise : (kept : Kept) (query : PageQuery) → AreConsecutive kept.entries → Rises 0 (last_number kept.entries) (numbers_of (matching kept query))
matching_rise kept query known =
    let at = placed_self kept.entries known in
    let base = first_number kept.entries - 1 in
    rises_weaken 0 base (last_number kept.entries) (numbers_of (matching kept query)) (omega arith)
    (rises_entries (is_wanted kept.owner query) base (last_number kept.entries) kept.entries at.1.follow (omega (arith, at.1.end)))

filter_every : (p : EntryView → Bool) (es : List EntryView) → ((e : EntryView) → p e ≡ true) → filter p es ≡ es
filter_every p [] passes = refl
filter_every p (e ∷ es) passes = let here = passes e in rw here (ap (λ t. e ∷ t) (filter_every p es passes))

-- where each entry matches, the numbers are those from the first to the last
pub matching_all : (kept : Kept) (query : PageQuery) (first last : ℕ) → IsNumbered first last kept.entries →
    ((e : EntryView) → is_wanted kept.owner query e ≡ true) → numbers_after (first - 1) (last - (first - 1)) ≡ numbers_of (matching kept query)
matching_all kept query first last known passes =
    let at = placed first last kept.entries known in
    let size : length kept.entries ≡ last - (first - 1) = omega (arith, at.1.end) in
    sym (ap numbers_of (filter_every (is_wanted kept.owner query) kept.entries passes) ∙ numbers_follow (first - 1) kept.entries at.1.follow
    ∙ ap (numbers_after (first - 1)) size)

pub numbered_bounds : (first last : ℕ) (es : List EntryView) → IsNumbered first last es → (1 ≤ first) × (first ≤ last + 1)
numbered_bounds first last es known =
    let at = placed first last es known in
    (at.0, omega (arith, at.1.end))

-- where no account is asked for, each entry is in the chain
pub no_account : (owner : List ℕ) (query : PageQuery) (e : EntryView) → query.peer ≡ None → is_in_chain owner query.peer e ≡ true
no_account owner query e none = rw none
