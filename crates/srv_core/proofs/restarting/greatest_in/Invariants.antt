-- What is left leads to the same moment.
use Rattle.std.proofs.Common.{◌≡◌, drop, map}
use Rattle.srv_core.specs.Restarts.{greatest, stamp_of}
use Rattle.srv_core.proofs.restarting.greatest_in.Given as goal

abbrev pub invariant-loop-position : goal.invariant-loop-position
invariant-loop-position l = greatest l.moment (map stamp_of (drop l.position l.archive.entries)) ≡ greatest l.now (map stamp_of l.archive.entries)
