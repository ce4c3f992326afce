use Rattle.std.proofs.Common.{◌≡◌, [], ◌++◌, drop}
use Rattle.srv_state.specs.OutgoingStanzas.{sends_of}
use Rattle.srv_state.specs.Seen.{server_state_of}
use Rattle.im_forwarding.specs.Passed.{addressed_view}
use Rattle.srv_handlers.specs.Messages.{copying}
use Rattle.srv_handlers.specs.Parts.{IsInside}
use Rattle.srv_route.specs.Routes.{archives_of}
use Rattle.xml_writer.specs.Items.{written_item}
use Rattle.srv_handlers.proofs.copies.add_copies.Given as goal

-- what goes out by now, and what is ahead
abbrev pub invariant-loop-number : goal.invariant-loop-number
invariant-loop-number l = record {
  made : IsInside l.sent (addressed_view l.addressed) (archives_of l.archiving) (server_state_of l.context) l.made;
  sends : sends_of l.outgoing_stanzas.items ++ copying written_item l.sent (addressed_view l.addressed) (archives_of l.archiving) (drop l.number-index l.numbers) (server_state_of l.context) []
      ≡ sends_of l.fn.outgoing_stanzas.items ++ copying written_item l.sent (addressed_view l.addressed) (archives_of l.archiving) l.numbers (server_state_of l.context) [];
}
