-- The definitions of a log, evaluated at small logs.
use Rattle.std.proofs.Common.{◌≡◌, ℕ, Bool, true, false, List, [], ◌∷◌, Option, Some, None, Ok, Err, refl}
use Rattle.mam_log.specs.Breaks.{breaks_of}
use Rattle.mam_log.specs.LogCalls.{after_hold, begun_again, may_hold, restart_answer, with_restart}
use Rattle.mam_log.specs.Views.{LogView, with_begun, with_result, fin_answer, after_fin, after_refusal, page_for}
use Rattle.mam_log.specs.declared.faults.RestartFault.TheVariants as restarts
use Rattle.mam_pages.specs.declared.fin.Fin.{Fin}
use Rattle.mam_log.specs.declared.fin.FinFault.TheVariants as faults
use Rattle.mam_log.specs.declared.fin.PageOutcome.TheVariants.{More, Complete}
use Rattle.mam_log.specs.declared.log_entry.LogEntry.{LogEntry}
use Rattle.mam_log.specs.declared.tile.Tile.{Tile}

-- the ids `a`, `b`, `c`, and the query ids `q`, `r`
abbrev a : List ℕ
a = 97 ∷ []

abbrev b : List ℕ
b = 98 ∷ []

abbrev c : List ℕ
c = 99 ∷ []

abbrev q : List ℕ
q = 113 ∷ []

abbrev r : List ℕ
r = 114 ∷ []

abbrev entry : List ℕ → LogEntry
entry id = record { id = id; entry = record { number = 1; stamp = 0; from = []; to = []; normal = false; id = []; origin = []; bodies = [] } }

-- what a server tells at the end of a page, of an archive of three entries
abbrev told : Bool → Option (List ℕ) → Fin
told complete last = record { complete = complete; first = None; first_index = 0; last = last; count = 3 }

abbrev empty : LogView
empty = record { entries = []; tiles = []; page = None; held = [] }

-- a page of two that is not complete
abbrev two : LogView
two = with_result (with_result (with_begun empty q 2) (entry a)) (entry b)

abbrev tile_of_two : Tile
tile_of_two = record { after = None; count = 2; complete = false; total = 3 }

abbrev took_two : LogView
took_two = record { entries = entry a ∷ entry b ∷ []; tiles = tile_of_two ∷ []; page = None; held = [] }

two_ends : fin_answer two q (told false (Some b)) ≡ Ok More
two_ends = refl

two_joins : after_fin two (told false (Some b)) ≡ took_two
two_joins = refl

-- a page of one behind it, which is complete
abbrev third : LogView
third = with_result (with_begun took_two r 2) (entry c)

third_ends : fin_answer third r (told true (Some c)) ≡ Ok Complete
third_ends = refl

third_joins : after_fin third (told true (Some c)) ≡ record { entries = entry a ∷ entry b ∷ entry c ∷ []; tiles = tile_of_two ∷ record { after = Some b; count = 1; complete = true; total = 3 } ∷ []; page = None; held = [] }
third_joins = refl

-- another query's end
stranger : fin_answer two r (told false (Some b)) ≡ Err faults.Stranger
stranger = refl

no_page : fin_answer empty q (told true None) ≡ Err faults.Stranger
no_page = refl

-- the last result told is not the last that came
another_last : fin_answer two q (told false (Some a)) ≡ Err (faults.Mismatch (Some a) (Some b))
another_last = refl

no_last : fin_answer two q (told false None) ≡ Err (faults.Mismatch None (Some b))
no_last = refl

none_came : fin_answer (with_begun empty q 2) q (told true (Some a)) ≡ Err (faults.Mismatch (Some a) None)
none_came = refl

-- an id twice in the page, and an id that is in the log
twice : fin_answer (with_result two (entry a)) q (told true (Some a)) ≡ Err (faults.Repeats a)
twice = refl

in_the_log : fin_answer (with_result third (entry b)) r (told true (Some b)) ≡ Err (faults.Repeats b)
in_the_log = refl

-- an empty page that is not complete, and one that is
empty_page : fin_answer (with_begun took_two r 2) r (told false None) ≡ Err faults.NoAdvance
empty_page = refl

empty_complete : fin_answer (with_begun took_two r 2) r (told true None) ≡ Ok Complete
empty_complete = refl

empty_joins : after_fin (with_begun took_two r 2) (told true None) ≡ record { entries = entry a ∷ entry b ∷ []; tiles = tile_of_two ∷ record { after = Some b; count = 0; complete = true; total = 3 } ∷ []; page = None; held = [] }
empty_joins = refl

-- a refusal ends the page; want of memory and a stranger's query don't
refused : after_refusal faults.NoAdvance third ≡ took_two
refused = refl

out_of_memory : after_refusal faults.NoMemory third ≡ third
out_of_memory = refl

of_another : after_refusal faults.Stranger third ≡ third
of_another = refl

-- the next page, begun with the end of one that is not the last
goes_on : begun_again (after_fin two (told false (Some b))) r two.page ≡ record took_two { page = Some (record { queryid = r; max = 2; after = Some b; results = [] }) }
goes_on = refl

-- a page asked for anew: it has a place, and loses it with its results
asked_anew : restart_answer (page_for r third.page) ≡ Ok tt
asked_anew = refl

anew : with_restart third q ≡ record took_two { page = Some (record { queryid = q; max = 2; after = None; results = [] }) }
anew = refl

placeless : restart_answer (page_for q two.page) ≡ Err restarts.NoPlace
placeless = refl

another_query : restart_answer (page_for r two.page) ≡ Err restarts.Stranger
another_query = refl

-- a page asked for anew breaks the log where it has an entry and stands behind entries
abbrev page_of : ℕ → Tile
page_of count = record { after = None; count = count; complete = true; total = 3 }

breaks : breaks_of (tile_of_two ∷ page_of 1 ∷ page_of 1 ∷ []) ≡ 2 ∷ 3 ∷ []
breaks = refl

no_break : breaks_of (page_of 0 ∷ page_of 2 ∷ page_of 0 ∷ []) ≡ []
no_break = refl

-- a message is held behind the others; one that is in the log or held already isn't
abbrev held_c : LogView
held_c = after_hold took_two (entry c)

holds : held_c ≡ record took_two { held = entry c ∷ [] }
holds = refl

is_logged : may_hold held_c b ≡ false
is_logged = refl

is_held : may_hold held_c c ≡ false
is_held = refl

-- until a page brings it
brings : after_fin (with_result (with_begun held_c r 2) (entry c)) (told true (Some c)) ≡ after_fin third (told true (Some c))
brings = refl
