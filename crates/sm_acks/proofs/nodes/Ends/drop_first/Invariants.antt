use Rattle.std.proofs.Common.{◌≡◌, ℕ, ◌+◌, drop}
use Rattle.slab.specs.Slab.{slab_len}
use Rattle.sm_acks.specs.Arena.{IsLinked, Lacks, node_at, path_of, stanzas_at}
use Rattle.sm_acks.proofs.nodes.Ends.drop_first.Given as goal

-- so many of the first nodes were taken out
abbrev pub invariant-loop : goal.invariant-loop
invariant-loop l = record {
  linked : IsLinked l.nodes.slots l.self;
  path : path_of l.nodes.slots l.self ≡ drop l.counter (path_of l.fn.nodes.slots l.fn.self);
  stanzas : stanzas_at l.nodes.slots l.self ≡ drop l.counter (stanzas_at l.fn.nodes.slots l.fn.self);
  len : l.self.len + l.counter ≡ l.fn.self.len;
  others : (at : ℕ) → Lacks at (path_of l.fn.nodes.slots l.fn.self) → node_at l.nodes.slots at ≡ node_at l.fn.nodes.slots at;
  nodes : slab_len l.nodes + l.counter ≡ slab_len l.fn.nodes;
  capacity : l.nodes.capacity ≡ l.fn.nodes.capacity;
}
