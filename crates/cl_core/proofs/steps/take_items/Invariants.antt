use Rattle.std.specs.Vec.Iter.{into_iter_items}
use Rattle.cl_core.specs.Feeds.{IsAlong}
use Rattle.cl_handlers.specs.Speech.{in_bytes}
use Rattle.cl_handlers.specs.Views.{client_step_of}
use Rattle.cl_core.proofs.steps.take_items.Given as goal

abbrev pub invariant-loop-item : goal.invariant-loop-item
invariant-loop-item l = IsAlong in_bytes (client_step_of l.fn.state l.fn.out) l.fn.items.items (client_step_of l.state l.out) (into_iter_items l.item-iterator)
