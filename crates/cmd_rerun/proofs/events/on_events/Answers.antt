use Rattle.std.proofs.Common.{◌≡◌, ◌+◌, List, ◌∷◌, drop, map, sym, ap, ◌∙◌, arith}
use Rattle.std.proofs.lemmas.List.{at_drop_more}
use Rattle.cmd_journal.specs.Journals.{event_view}
use Rattle.cmd_journal.specs.declared.event.Event.{Event}
use Rattle.cmd_rerun.proofs.EventRuns.{fresh_first, fresh_on, runs_on}
use Rattle.cmd_rerun.specs.Reruns.{run_of}
use Rattle.cmd_rerun.proofs.events.on_events.Goals as goal

pub on_event-requires : goal.on_event-requires
on_event-requires c =
    let i = c.loop-event.event-index in
    let rest = map event_view (drop (i + 1) c.args.events.now) in
    let ahead : map event_view (drop i c.args.events.now) ≡ event_view c.event-item.result ∷ rest =
    at_drop_more (λ (all : List Event). map event_view all) c.args.events.now i c.event-item.result (omega arith) ∙ ap (λ (e : Event). event_view e ∷ rest) (sym c.event-item.is) in
    fresh_first (event_view c.event-item.result) _ rest (run_of c.loop-event.server c.loop-event.outputs.items) ahead c.loop-event.invariant.fresh

pub loop-event-preserved : goal.loop-event-preserved
loop-event-preserved c =
    let i = c.loop-event.event-index in
    let rest = map event_view (drop (i + 1) c.args.events.now) in
    let ahead : map event_view (drop i c.args.events.now) ≡ event_view c.event-item.result ∷ rest =
    at_drop_more (λ (all : List Event). map event_view all) c.args.events.now i c.event-item.result (omega arith) ∙ ap (λ (e : Event). event_view e ∷ rest) (sym c.event-item.is) in
    record {
      fresh = fresh_on (event_view c.event-item.result) _ rest _ _ ahead c.in_ok-on_event.ensures c.loop-event.invariant.fresh;
      runs = runs_on (event_view c.event-item.result) _ rest _ _ _ ahead c.in_ok-on_event.ensures c.loop-event.invariant.runs;
    }
