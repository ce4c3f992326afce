-- The accounts so far, and what the rest reads as, are what all of the text reads as.
use Rattle.std.proofs.Common.{◌≡◌, ◌+◌, ◌≤◌, [], length}
use Rattle.cmd_journal.specs.Reading.{read_registrations}
use Rattle.cmd_journal.proofs.AccountLists.{with_accounts}
use Rattle.cmd_schedule.specs.Reading.{pieces_of}
use Rattle.cmd_journal.proofs.accounts_reading.read_registrations.Given as goal

abbrev pub invariant-loop-alloc : goal.invariant-loop-alloc
invariant-loop-alloc l = record {
  told : with_accounts l.accounts.items (read_registrations l.following l.above l.next (pieces_of l.rest)) ≡ read_registrations l.following [] l.number (pieces_of l.text);
  counted : l.next + length l.rest ≤ l.number + length l.text;
}

abbrev pub decreases-loop-alloc : goal.decreases-loop-alloc
decreases-loop-alloc l = length l.rest
