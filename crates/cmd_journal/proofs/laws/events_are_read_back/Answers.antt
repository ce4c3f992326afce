use Rattle.cmd_journal.proofs.Again.{event_read}
use Rattle.cmd_journal.proofs.laws.events_are_read_back.Goals as goal

pub returns : goal.returns
returns c = event_read
