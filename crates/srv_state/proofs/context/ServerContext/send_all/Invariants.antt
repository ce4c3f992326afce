use Rattle.std.proofs.Common.{◌≡◌, ◌≤◌, ◌*◌, length}
use Rattle.std.specs.Vec.Iter.{into_iter_items, into_iter_len}
use Rattle.srv_state.specs.OutgoingStanzas.{sends_of}
use Rattle.srv_state.specs.Seen.{step_of}
use Rattle.srv_state.specs.Steps.{acted}
use Rattle.xml_writer.specs.Items.{written_item}
use Rattle.srv_state.proofs.context.ServerContext.send_all.Given as goal

-- what is put and what is left, and room for that
abbrev pub invariant-loop-outgoing_stanza : goal.invariant-loop-outgoing_stanza
invariant-loop-outgoing_stanza l = record {
  step : acted written_item (sends_of (into_iter_items l.outgoing_stanza-iterator)) (step_of l.self) ≡ acted written_item (sends_of (into_iter_items l.initial.outgoing_stanza-iterator)) (step_of l.initial.self);
  left : into_iter_len l.outgoing_stanza-iterator ≡ length (into_iter_items l.outgoing_stanza-iterator);
  room : into_iter_len l.outgoing_stanza-iterator ≤ l.self.live.room;
  out : 3 * into_iter_len l.outgoing_stanza-iterator ≤ l.self.out.spare;
  requests : into_iter_len l.outgoing_stanza-iterator ≤ length l.self.prebuilt.requests.items;
  overflows : into_iter_len l.outgoing_stanza-iterator ≤ length l.self.prebuilt.overflows.items;
}
