use Rattle.std.proofs.Common.{◌≡◌, length}
use Rattle.std.specs.Vec.Iter.{into_iter_items, into_iter_len}
use Rattle.srv_core.specs.Taken.{Went}
use Rattle.srv_state.specs.Seen.{step_of}
use Rattle.srv_core.proofs.items.on_items.Given as goal

-- what took effect, and what is left
abbrev pub invariant-loop-item : goal.invariant-loop-item
invariant-loop-item l = record {
  went : Went l.conn (into_iter_items l.initial.item-iterator) (into_iter_items l.item-iterator) (step_of l.initial.context) (step_of l.context);
  left : into_iter_len l.item-iterator ≡ length (into_iter_items l.item-iterator);
}
