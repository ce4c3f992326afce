use Rattle.std.proofs.Common.{◌≡◌, ◌++◌, map, take, drop}
use Rattle.sm_outbox.specs.Submissions.{in_state}
use Rattle.sm_outbox.proofs.submissions.settle.Given as goal

abbrev pub invariant-loop-i : goal.invariant-loop-i
invariant-loop-i l = l.items ≡ map (in_state l.state) (take l.i l.fn.items) ++ drop l.i l.fn.items
