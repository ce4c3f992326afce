use Rattle.std.proofs.Common.{◌≡◌, drop}
use Rattle.net_owner.specs.Positions.{are_over}
use Rattle.net_owner.proofs.stepping.all_ended.Given as goal

abbrev pub invariant-loop-position : goal.invariant-loop-position
invariant-loop-position g l = are_over l.positions ≡ are_over (drop l.position-index l.positions)
