use Rattle.std.proofs.Common.{◌≡◌, ◌-◌, ◌≤◌, drop}
use Rattle.sm_acks.specs.Arena.{path, path_of}
use Rattle.sm_acks.proofs.nodes.Ends.position.Given as goal

-- the place is that of the node behind the first k
abbrev pub invariant-loop-k : goal.invariant-loop-k
invariant-loop-k l = record {
  within : l.k ≤ l.i;
  is : drop l.k (path_of l.nodes.slots l.self) ≡ path l.nodes.slots (l.self.len - l.k) l.at;
}

abbrev pub decreases-loop-k : goal.decreases-loop-k
decreases-loop-k l = l.i - l.k
