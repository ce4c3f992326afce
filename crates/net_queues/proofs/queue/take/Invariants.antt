use Rattle.std.proofs.Common.{◌≡◌}
use Rattle.crossbeam_channel.specs.Claims.{view, IsSeatAt}
use Rattle.crossbeam_channel.specs.Ends.{receives_on}
use Rattle.net_queues.proofs.queue.take.Given as goal

abbrev pub invariant-loop : goal.invariant-loop
invariant-loop g l = IsSeatAt (receives_on l.at) l.pass × (view l.pass ≡ view l.fn.pass)
