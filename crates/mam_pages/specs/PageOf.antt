-- The page that answers a query: a filter of the list of entries, whatever the code walks (XEP-0313 section 4.3,
-- XEP-0059 sections 2.1 to 2.6).
use Rattle.std.specs.Prelude.{ℕ, min, nat_lt, nat_le, Bool, true, false, List, [], ◌∷◌, Option, Some, None, find, filter, map, take, length}
use Rattle.std.specs.Option.{option_map}
use Rattle.std.specs.Str.{bytes_eq}
use Rattle.mam_archive.specs.Entries.{EntryView, newest}
use Rattle.mam_archive.specs.Ids.{id_of}
use Rattle.mam_pages.specs.Cuts.{CutView}
use Rattle.mam_pages.specs.Kept.{Kept}
use Rattle.mam_pages.specs.Matches.{matching}
use Rattle.mam_pages.specs.declared.query.PageQuery.{PageQuery}
use Rattle.mam_pages.specs.declared.query.PagePosition.{PagePosition}
use Rattle.mam_pages.specs.declared.span.TheConstants.{MOST_RESULTS}
use Rattle.mam_pages.specs.declared.query.PagePosition.TheVariants.{First, After, Before, Last}

-- the most entries of a page: at most `MOST_RESULTS`, and so many where nothing is said
abbrev pub most_of : Option ℕ → ℕ
most_of None = MOST_RESULTS
most_of (Some max) = min MOST_RESULTS max

-- the entry with an id
abbrev pub entry_of_id : List ℕ → List EntryView → Option EntryView
entry_of_id id entries = find (λ e. bytes_eq (id_of e.number) id) entries

-- among the entries that match, those in the direction of paging from the place. There are none to name where the id is
-- no id of an entry of the archive, whether or not one that matches.
abbrev pub candidates : PagePosition → List EntryView → List EntryView → Option (List EntryView)
candidates First entries matches = Some matches
candidates Last entries matches = Some matches
candidates (After id) entries matches =
    option_map (λ found. filter (λ e. nat_lt found.number e.number) matches) (entry_of_id id entries)
candidates (Before id) entries matches =
    option_map (λ found. filter (λ e. nat_lt e.number found.number) matches) (entry_of_id id entries)

-- the entries before a place are asked for, or the last ones (XEP-0059 sections 2.3 and 2.5)
abbrev pub is_backward : PagePosition → Bool
is_backward First = false
is_backward (After id) = false
is_backward (Before id) = true
is_backward Last = true

-- the first so many candidates, or the last where the direction is backward
abbrev pub portion : PagePosition → ℕ → List EntryView → List EntryView
portion First most found = take most found
portion (After id) most found = take most found
portion (Before id) most found = newest most found
portion Last most found = newest most found

-- how many of the entries that match stand before the page's first entry, and 0 for an empty page
abbrev pub index_of_page : List EntryView → List EntryView → ℕ
index_of_page matches [] = 0
index_of_page matches (e ∷ es) = length (filter (λ f. nat_lt f.number e.number) matches)

-- the page of the candidates
abbrev pub cut_out : PagePosition → List EntryView → ℕ → List EntryView → List EntryView → CutView
cut_out position matches most found page =
    record {
      numbers = map (λ e. e.number) page;
      first_index = index_of_page matches page;
      count = length matches;
      complete = nat_le (length found) most;
      backward = is_backward position;
    }

abbrev pub page_among : PageQuery → List EntryView → List EntryView → Option CutView
page_among query entries matches =
    option_map
    (λ found. cut_out query.position matches (most_of query.max) found (portion query.position (most_of query.max) found))
    (candidates query.position entries matches)

abbrev pub page_of : Kept → PageQuery → Option CutView
page_of kept query = page_among query kept.entries (matching kept query)
