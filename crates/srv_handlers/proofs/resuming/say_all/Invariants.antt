use Rattle.std.proofs.Common.{◌≡◌, ◌+◌, ◌≤◌, [], length}
use Rattle.std.specs.Vec.Iter.{into_iter_items, into_iter_len}
use Rattle.srv_state.specs.Seen.{step_of}
use Rattle.srv_state.specs.Steps.{acted}
use Rattle.sm_acks.specs.Queues.{stanzas_in}
use Rattle.srv_handlers.specs.Resumptions.{saying}
use Rattle.xml_writer.specs.Items.{written_item}
use Rattle.srv_handlers.proofs.resuming.say_all.Given as goal

-- what is put and what is left, and room for that
abbrev pub invariant-loop-bytes : goal.invariant-loop-bytes
invariant-loop-bytes l = record {
  step : acted written_item (saying l.conn (stanzas_in (into_iter_items l.bytes-iterator)) []) (step_of l.context) ≡ acted written_item (saying l.conn (stanzas_in (into_iter_items l.initial.bytes-iterator)) []) (step_of l.initial.context);
  live : l.context.live ≡ l.initial.context.live;
  left : into_iter_len l.bytes-iterator ≡ length (into_iter_items l.bytes-iterator);
  room : into_iter_len l.bytes-iterator ≤ l.context.out.spare;
  spent : l.initial.context.out.spare + into_iter_len l.bytes-iterator ≤ l.context.out.spare + into_iter_len l.initial.bytes-iterator;
}
