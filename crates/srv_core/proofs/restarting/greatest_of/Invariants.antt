-- What is left leads to the same moment.
use Rattle.std.proofs.Common.{◌≡◌, drop, map}
use Rattle.srv_core.specs.Restarts.{greatest, stamps_of}
use Rattle.srv_state.specs.Seen.{kept_of}
use Rattle.srv_core.proofs.restarting.greatest_of.Given as goal

abbrev pub invariant-loop-archive : goal.invariant-loop-archive
invariant-loop-archive l = greatest l.moment (stamps_of (map kept_of (drop l.archive-index l.archives))) ≡ greatest l.now (stamps_of (map kept_of l.archives))
