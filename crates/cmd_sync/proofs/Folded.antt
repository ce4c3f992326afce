-- What events say, from what was seen before them on.
use Rattle.std.proofs.Common.{◌≡◌, ℕ, ◌+◌, ◌<◌, Bool, List, ◌∷◌, drop, get_or, length, sym, ap, ◌∙◌}
use Rattle.std.specs.Prelude.{fold}
use Rattle.std.proofs.lemmas.List.{drop_more}
use Rattle.cl_handlers.specs.declared.events.Event.{Event}
use Rattle.cmd_sync.specs.Courses.{does, seen_next}
use Rattle.cmd_sync.specs.Failures.{failure_of}
use Rattle.cmd_sync.specs.declared.seen.Seen.{Seen}
use Rattle.cmd_sync.specs.declared.stage.Stage.{Stage}

abbrev pub seen_from : Stage → Bool → Seen → List Event → Seen
seen_from stage acknowledged first events = fold (λ before event. seen_next (does stage acknowledged event) (failure_of event) before) first events

pub seen_more : (stage : Stage) (acknowledged : Bool) (before : Seen) (events : List Event) (i : ℕ) (event : Event) (all : Seen) → i < length events → event ≡ get_or events i event
    → seen_from stage acknowledged before (drop i events) ≡ all
    → seen_from stage acknowledged (seen_next (does stage acknowledged event) (failure_of event) before) (drop (i + 1) events) ≡ all
seen_more stage acknowledged before events i event all within is was =
    let here : drop i events ≡ event ∷ drop (i + 1) events = drop_more events i event within ∙ ap (λ (e : Event). e ∷ drop (i + 1) events) (sym is) in
    sym (ap (λ (es : List Event). seen_from stage acknowledged before es) here) ∙ was
