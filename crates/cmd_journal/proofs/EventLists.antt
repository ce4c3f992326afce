-- Events that are read one after the other.
use Rattle.std.proofs.Common.{◌≡◌, ℕ, ◌+◌, List, [], ◌∷◌, ◌++◌, map, Some, None, Result, Ok, Err, refl, sym, ap, ◌∙◌, append_assoc}
use Rattle.std.proofs.lemmas.List.{append-nil, map_push}
use Rattle.cmd_journal.specs.Journals.{EventView, begun_last, event_view}
use Rattle.cmd_journal.specs.LineReading.{read_event}
use Rattle.cmd_journal.specs.Reading.{read_events, with_event}
use Rattle.cmd_journal.specs.declared.event.Event.{Event}
use Rattle.cmd_journal.specs.declared.fault.InputFault.{InputFault}
use Rattle.cmd_journal.specs.declared.fault.InputFault.TheVariants.{BadLine}
use Rattle.cmd_schedule.specs.Reading.{Piece, pieces_of}
use Rattle.cmd_schedule.specs.declared.fault.LineWhy.{LineWhy}

-- what was read before, and what is still read
abbrev pub with_events : List EventView → Result (List EventView) InputFault → Result (List EventView) InputFault
with_events front (Ok events) = Ok (front ++ events)
with_events front (Err e) = Err e

regroup : (front : List EventView) (event : EventView) (read : Result (List EventView) InputFault) → with_events front (with_event event read) ≡ with_events (front ++ event ∷ []) read
regroup front event (Ok events) = ap (λ (all : List EventView). Ok all) (simp append_assoc)
regroup front event (Err e) = refl

event_goes_on : (front : List EventView) (last n : ℕ) (piece : Piece) (pieces : List Piece) (event : EventView) → read_event last piece ≡ Ok (Some event)
    → with_events front (read_events last n (piece ∷ pieces)) ≡ with_events (front ++ event ∷ []) (read_events (begun_last last event) (n + 1) pieces)
event_goes_on front last n piece pieces event h = rw h (regroup front event (read_events (begun_last last event) (n + 1) pieces))

-- a bad line
pub events_stop : (front : List EventView) (last n : ℕ) (text rest : List ℕ) (piece : Piece) (reason : LineWhy) (total : Result (List EventView) InputFault)
    → pieces_of text ≡ piece ∷ pieces_of rest → read_event last piece ≡ Err reason → with_events front (read_events last n (pieces_of text)) ≡ total → total ≡ Err (BadLine n reason)
events_stop front last n text rest piece reason total parts read so_far =
    sym so_far ∙ ap (λ (ps : List Piece). with_events front (read_events last n ps)) parts ∙ rw read refl

-- a line behind the events
pub events_end : (front : List EventView) (last n : ℕ) (text rest : List ℕ) (piece : Piece) (total : Result (List EventView) InputFault)
    → pieces_of text ≡ piece ∷ pieces_of rest → read_event last piece ≡ Ok None → with_events front (read_events last n (pieces_of text)) ≡ total → total ≡ Ok front
events_end front last n text rest piece total parts read so_far =
    sym so_far ∙ ap (λ (ps : List Piece). with_events front (read_events last n ps)) parts ∙ rw read (ap (λ (all : List EventView). Ok all) (append-nil front))

pub events_done : (front : List EventView) (last n : ℕ) (total : Result (List EventView) InputFault) → with_events front (read_events last n []) ≡ total → total ≡ Ok front
events_done front last n total so_far = sym so_far ∙ ap (λ (all : List EventView). Ok all) (append-nil front)

-- one event of the text is read
pub next_event : (before now : List Event) (last after n : ℕ) (text rest : List ℕ) (piece : Piece) (event : Event) (total : Result (List EventView) InputFault)
    → pieces_of text ≡ piece ∷ pieces_of rest → read_event last piece ≡ Ok (Some (event_view event)) → now ≡ before ++ event ∷ [] → after ≡ begun_last last (event_view event)
    → with_events (map event_view before) (read_events last n (pieces_of text)) ≡ total → with_events (map event_view now) (read_events after (n + 1) (pieces_of rest)) ≡ total
next_event before now last after n text rest piece event total parts read pushed begun so_far =
    rw (pushed, begun, map_push event_view before event)
    (sym (event_goes_on (map event_view before) last n piece (pieces_of rest) (event_view event) read)
    ∙ ap (λ (ps : List Piece). with_events (map event_view before) (read_events last n ps)) (sym parts) ∙ so_far)
