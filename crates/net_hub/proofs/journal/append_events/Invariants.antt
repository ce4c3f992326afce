use Rattle.std.proofs.Common.{◌≡◌, ◌++◌, take}
use Rattle.cmd_journal.specs.Journals.{events_text}
use Rattle.net_hub.proofs.journal.append_events.Given as goal
use Rattle.net_hub.specs.Records.{views_of}

-- the lines of the events so far
abbrev pub invariant-loop-event : goal.invariant-loop-event
invariant-loop-event l = l.out.items ≡ l.initial.out.items ++ events_text (views_of (take l.event-index l.events))
