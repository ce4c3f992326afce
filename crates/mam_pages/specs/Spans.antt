-- Where the candidates for a page stand, by numbers alone, and the page by numbers alone.
use Rattle.std.specs.Prelude.{◌≡◌, ℕ, zero, suc, ◌<◌, ◌≤◌, nat_lt, nat_le, Bool, ◌&&◌, List, [], ◌∷◌, Option, filter, map, take, length, if◌then◌else◌}
use Rattle.std.specs.Option.{option_map}
use Rattle.mam_archive.specs.Entries.{EntryView, newest}
use Rattle.mam_pages.specs.Cuts.{CutView}
use Rattle.mam_pages.specs.Kept.{AreConsecutive, Kept, first_number, last_number}
use Rattle.mam_pages.specs.Matches.{matching}
use Rattle.mam_pages.specs.PageOf.{entry_of_id, page_of}
use Rattle.mam_pages.specs.declared.query.PageQuery.{PageQuery}
use Rattle.mam_pages.specs.declared.span.Span.{Span}

abbrev pub number_of_entry : EntryView → ℕ
number_of_entry e = e.number

abbrev pub numbers_of : List EntryView → List ℕ
numbers_of entries = map number_of_entry entries

-- the next so many numbers behind n
abbrev pub numbers_after : ℕ → ℕ → List ℕ
numbers_after n zero = []
numbers_after n (suc k) = suc n ∷ numbers_after (suc n) k

abbrev pub is_within : Span → ℕ → Bool
is_within span n = nat_lt span.after n && nat_le n span.through

abbrev pub within : Span → List ℕ → List ℕ
within span numbers = filter (is_within span) numbers

-- those that stand before the candidates
abbrev pub skipped : Span → List ℕ → List ℕ
skipped span numbers = filter (λ n. nat_le n span.after) numbers

abbrev pub portion_by : Span → List ℕ → List ℕ
portion_by span found = if span.backward then newest span.most found else take span.most found

abbrev pub index_in : List ℕ → List ℕ → ℕ
index_in numbers [] = 0
index_in numbers (n ∷ ns) = length (filter (λ k. nat_lt k n) numbers)

-- the page out of the numbers of the entries that match
abbrev pub cut_by : Span → List ℕ → CutView
cut_by span numbers =
    record {
      numbers = portion_by span (within span numbers);
      first_index = index_in numbers (portion_by span (within span numbers));
      count = length numbers;
      complete = nat_le (length (within span numbers)) span.most;
      backward = span.backward;
    }

-- each is above the one before, the first above `low`, and none is above `high`
abbrev pub Rises : ℕ → ℕ → List ℕ → Type 0
Rises low high [] = Unit {0}
Rises low high (n ∷ ns) = (low < n) × (n ≤ high) × Rises n high ns

-- the archive's entries are numbered from first to last
pub record IsNumbered (first last : ℕ) (entries : List EntryView) : Type 0 where
  pub consecutive : AreConsecutive entries
  pub from : first_number entries ≡ first
  pub to : last_number entries ≡ last

-- this is the number of the entry with the id, or no entry has it
abbrev pub IsNumberOf : List ℕ → ℕ → ℕ → Option ℕ → Type 0
IsNumberOf id first last answer =
    (entries : List EntryView) → IsNumbered first last entries → option_map number_of_entry (entry_of_id id entries) ≡ answer

-- the page that a query is answered with is the one out of this span, or there is none
abbrev pub IsSpanOf : PageQuery → ℕ → ℕ → Option Span → Type 0
IsSpanOf query first last answer =
    (kept : Kept) → IsNumbered first last kept.entries →
    page_of kept query ≡ option_map (λ span. cut_by span (numbers_of (matching kept query))) answer
