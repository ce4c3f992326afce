use Rattle.std.proofs.Common.{◌≡◌, ◌≤◌, ◌-◌}
use Rattle.crossbeam_channel.specs.Claims.{view, IsSeatAt}
use Rattle.crossbeam_channel.specs.Ends.{sends_on}
use Rattle.net_owner.proofs.LongerArrivals.{IsAccepting}
use Rattle.net_owner.proofs.accepting.accept_all.Given as goal

-- as many connections came in and were sent as are counted, and the door did not fail
abbrev pub invariant-loop-taken : goal.invariant-loop-taken
invariant-loop-taken g l =
    IsSeatAt (sends_on l.to) l.pass × IsAccepting (view l.pass) l.taken (g.D.Door.handed l.fn.door) (g.D.Door.handed l.door) × (l.taken ≤ l.count)
    × (g.D.Door.faults l.door ≡ g.D.Door.faults l.fn.door)
    × (g.D.Door.given l.door ≡ g.D.Door.given l.fn.door)

abbrev pub decreases-loop-taken : goal.decreases-loop-taken
decreases-loop-taken g l = l.count - l.taken
