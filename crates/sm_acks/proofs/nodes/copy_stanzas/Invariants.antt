use Rattle.std.proofs.Common.{◌≡◌, ◌++◌}
use Rattle.sm_acks.specs.Arena.{AreHeld, bytes_along, path}
use Rattle.sm_acks.specs.Queues.{stanzas_in}
use Rattle.sm_acks.proofs.nodes.copy_stanzas.Given as goal

-- what was copied, and what is left to copy
abbrev pub invariant-loop-left : goal.invariant-loop-left
invariant-loop-left l = record {
  held : AreHeld l.nodes.slots (path l.nodes.slots l.left l.at);
  items : stanzas_in l.out.items ++ bytes_along l.nodes.slots (path l.nodes.slots l.left l.at) ≡ stanzas_in l.fn.out.items ++ bytes_along l.nodes.slots (path l.nodes.slots l.count l.first);
}

abbrev pub decreases-loop-left : goal.decreases-loop-left
decreases-loop-left l = l.left
