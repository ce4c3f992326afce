-- The events so far, and what the rest reads as, are what all of the text reads as.
use Rattle.std.proofs.Common.{◌≡◌, ◌+◌, ◌≤◌, length, map}
use Rattle.cmd_journal.specs.Journals.{event_view}
use Rattle.cmd_journal.specs.Reading.{read_events}
use Rattle.cmd_journal.proofs.EventLists.{with_events}
use Rattle.cmd_schedule.specs.Reading.{pieces_of}
use Rattle.cmd_journal.proofs.event_reading.read_events.Given as goal

abbrev pub invariant-loop-rest : goal.invariant-loop-rest
invariant-loop-rest l = record {
  told : with_events (map event_view l.events.items) (read_events l.last l.next (pieces_of l.rest)) ≡ read_events 0 l.number (pieces_of l.text);
  counted : l.next + length l.rest ≤ l.number + length l.text;
}

abbrev pub decreases-loop-rest : goal.decreases-loop-rest
decreases-loop-rest l = length l.rest
