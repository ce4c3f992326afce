use Rattle.std.proofs.Common.{◌≡◌, drop, map}
use Rattle.cmd_journal.specs.Journals.{event_view}
use Rattle.cmd_rerun.specs.Reruns.{AreFresh, after_events, run_of}
use Rattle.cmd_rerun.proofs.events.on_events.Given as goal

-- the events that are left come fresh, and lead where all of them do
abbrev pub invariant-loop-event : goal.invariant-loop-event
invariant-loop-event l = record {
  fresh : AreFresh (map event_view (drop l.event-index l.events)) (run_of l.server l.outputs.items);
  runs : after_events (map event_view (drop l.event-index l.events)) (run_of l.server l.outputs.items) ≡ after_events (map event_view l.events) (run_of l.initial.server l.initial.outputs.items);
}
