-- What clauses see of a log, and what ends a page.
use Rattle.std.specs.Prelude.{ℕ, nat_lt, Bool, true, false, ◌&&◌, not, List, [], ◌∷◌, ◌++◌, filter, Option, Some, None, Result, Ok, Err, length, if◌then◌else◌}
use Rattle.std.specs.List.{list_any}
use Rattle.std.specs.Option.{option_map}
use Rattle.std.specs.Str.{bytes_eq}
use Rattle.mam_log.specs.LogPages.{ids_of, last_id}
use Rattle.mam_pages.specs.declared.fin.Fin.{Fin}
use Rattle.mam_log.specs.declared.fin.FinFault.{FinFault}
use Rattle.mam_log.specs.declared.fin.FinFault.TheVariants as faults
use Rattle.mam_log.specs.declared.fin.PageOutcome.{PageOutcome}
use Rattle.mam_log.specs.declared.fin.PageOutcome.TheVariants.{More, Complete}
use Rattle.mam_log.specs.declared.log_entry.LogEntry.{LogEntry}
use Rattle.mam_log.specs.declared.tile.Tile.{Tile}

-- a page that was asked for and has not ended: its query's id, how many results it may have, the id behind which
-- it was asked for, and its results so far
pub record OpenPage : Type 0 where
  pub queryid : List ℕ
  pub max : ℕ
  pub after : Option (List ℕ)
  pub results : List LogEntry

-- a device's log: the entries that were taken over, what is kept of their pages, the open page, and the messages that came
-- live and are held until a page brings them
pub record LogView : Type 0 where
  pub entries : List LogEntry
  pub tiles : List Tile
  pub page : Option OpenPage
  pub held : List LogEntry

-- the id is one of these
abbrev pub is_among : List ℕ → List (List ℕ) → Bool
is_among id ids = list_any (λ other. bytes_eq id other) ids

-- what is held without what a page has brought
abbrev pub unheld : List (List ℕ) → List LogEntry → List LogEntry
unheld ids held = filter (λ e. not (is_among e.id ids)) held

-- the open page, where it has this query id
abbrev pub page_for : List ℕ → Option OpenPage → Option OpenPage
page_for queryid None = None
page_for queryid (Some page) = if bytes_eq page.queryid queryid then Some page else None

-- the first id that is known already or stands before itself
abbrev pub first_repeat : List (List ℕ) → List (List ℕ) → Option (List ℕ)
first_repeat known [] = None
first_repeat known (id ∷ ids) = if list_any (λ other. bytes_eq id other) known then Some id else first_repeat (known ++ id ∷ []) ids

-- both are absent, or are the same id
abbrev pub same_id : Option (List ℕ) → Option (List ℕ) → Bool
same_id None None = true
same_id (Some a) (Some b) = bytes_eq a b
same_id None (Some b) = false
same_id (Some a) None = false

abbrev pub outcome_of : Bool → PageOutcome
outcome_of true = Complete
outcome_of false = More

-- what is said of a page that repeats no id
abbrev pub advance_of : Bool → OpenPage → Result PageOutcome FinFault
advance_of complete page =
    if nat_lt (length page.results) 1 && not complete then Err faults.NoAdvance else Ok (outcome_of complete)

-- what is said of a page's ids: that one repeats, or what follows
abbrev pub repeat_of : Option (List ℕ) → Result PageOutcome FinFault → Result PageOutcome FinFault
repeat_of None otherwise = otherwise
repeat_of (Some id) otherwise = Err (faults.Repeats id)

-- what ending the page answers: the refusals in their order
abbrev pub end_of : LogView → OpenPage → Fin → Result PageOutcome FinFault
end_of log page fin =
    if same_id fin.last (last_id page.results)
    then repeat_of (first_repeat (ids_of log.entries) (ids_of page.results)) (advance_of fin.complete page)
    else Err (faults.Mismatch fin.last (last_id page.results))

abbrev pub page_outcome_of : LogView → Option OpenPage → Fin → Result PageOutcome FinFault
page_outcome_of log None fin = Err faults.Stranger
page_outcome_of log (Some page) fin = end_of log page fin

-- the answer of `fin` with this query id, where memory doesn't run out
abbrev pub fin_answer : LogView → List ℕ → Fin → Result PageOutcome FinFault
fin_answer log queryid fin = page_outcome_of log (page_for queryid log.page) fin

abbrev pub without_page : LogView → LogView
without_page log = record log { page = None }

-- the log with the page's results at its end; they are held no more
abbrev pub with_page : LogView → OpenPage → Fin → LogView
with_page log page fin = record {
  entries = log.entries ++ page.results;
  tiles = log.tiles ++ record { after = page.after; count = length page.results; complete = fin.complete; total = fin.count } ∷ [];
  page = None;
  held = unheld (ids_of page.results) log.held;
}

-- the log after the page has ended well
abbrev pub after_fin : LogView → Fin → LogView
after_fin log fin = elim log.page [ None ↦ log | Some page ↦ with_page log page fin ]

-- the log after a refusal: want of memory and a stranger's query change nothing, any other ends the page
abbrev pub after_refusal : FinFault → LogView → LogView
after_refusal faults.NoMemory log = log
after_refusal faults.Stranger log = log
after_refusal _ log = without_page log

-- the log with a new page, behind its last entry
abbrev pub with_begun : LogView → List ℕ → ℕ → LogView
with_begun log queryid max =
    record log { page = Some (record { queryid = queryid; max = max; after = last_id log.entries; results = [] }) }

-- the log with a result at the end of the open page
abbrev pub with_result : LogView → LogEntry → LogView
with_result log entry = record log { page = option_map (λ (page : OpenPage). record page { results = page.results ++ entry ∷ [] }) log.page }
