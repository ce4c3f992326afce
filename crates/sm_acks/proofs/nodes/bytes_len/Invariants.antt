use Rattle.std.proofs.Common.{◌≡◌, ◌+◌, ◌-◌, ◌≤◌, ◌^◌, length, min}
use Rattle.std.specs.List.{concat}
use Rattle.sm_acks.specs.Arena.{AreHeld, bytes_along, path}
use Rattle.sm_acks.proofs.nodes.bytes_len.Given as goal

-- how many bytes were counted, and how many are left to count
abbrev pub invariant-loop-left : goal.invariant-loop-left
invariant-loop-left l = record {
  held : AreHeld l.nodes.slots (path l.nodes.slots l.left l.at);
  most : l.len ≤ 2 ^ 64 - 1;
  sum : min (l.len + length (concat (bytes_along l.nodes.slots (path l.nodes.slots l.left l.at)))) (2 ^ 64 - 1)
      ≡ min (length (concat (bytes_along l.nodes.slots (path l.nodes.slots l.count l.first)))) (2 ^ 64 - 1);
}

abbrev pub decreases-loop-left : goal.decreases-loop-left
decreases-loop-left l = l.left
