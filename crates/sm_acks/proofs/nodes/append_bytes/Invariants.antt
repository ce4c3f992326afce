use Rattle.std.proofs.Common.{◌≡◌, ◌≤◌, ◌++◌, length}
use Rattle.std.specs.List.{concat}
use Rattle.sm_acks.specs.Arena.{AreHeld, bytes_along, path}
use Rattle.sm_acks.proofs.nodes.append_bytes.Given as goal

-- what was appended, and what is left to append
abbrev pub invariant-loop-left : goal.invariant-loop-left
invariant-loop-left l = record {
  held : AreHeld l.nodes.slots (path l.nodes.slots l.left l.at);
  room : length (concat (bytes_along l.nodes.slots (path l.nodes.slots l.left l.at))) ≤ l.out.spare;
  items : l.out.items ++ concat (bytes_along l.nodes.slots (path l.nodes.slots l.left l.at)) ≡ l.fn.out.items ++ concat (bytes_along l.nodes.slots (path l.nodes.slots l.count l.first));
}

abbrev pub decreases-loop-left : goal.decreases-loop-left
decreases-loop-left l = l.left
