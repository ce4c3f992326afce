use Rattle.std.proofs.Common.{◌≡◌, ◌+◌, ◌≤◌, [], ◌++◌, drop, length}
use Rattle.srv_state.specs.OutgoingStanzas.{sends_of}
use Rattle.im_forwarding.specs.Results.{asker_view}
use Rattle.srv_handlers.specs.Requests.{sending_entries}
use Rattle.xml_writer.specs.Items.{written_item}
use Rattle.srv_handlers.proofs.queries.add_entries.Given as goal

-- what was made and what is ahead are the whole
abbrev pub invariant-loop-at : goal.invariant-loop-at
invariant-loop-at l = record {
  sends : sends_of l.outgoing_stanzas.items ++ sending_entries written_item l.number (asker_view l.asker) l.archive.entries (drop l.at-index l.numbers) []
      ≡ sends_of l.fn.outgoing_stanzas.items ++ sending_entries written_item l.number (asker_view l.asker) l.archive.entries l.numbers [];
  length : length l.outgoing_stanzas.items ≤ length l.fn.outgoing_stanzas.items + l.at-index;
}
