use Rattle.std.proofs.Common.{◌≡◌, ◌<◌, ◌+◌, ◌++◌, ◌⊎◌, ℕ, List, length}
use Rattle.std.specs.BTreeMap.{btree_map_len}
use Rattle.net_hub.proofs.sending.send_all.Given as goal
use Rattle.net_hub.specs.Bundles.{IsShutFor, bytes_for}
use Rattle.net_hub.specs.Sendings.{HaveSent, IsClosed, StayClosed, numbers_of}

-- What was sent, with what the rest has, is what all bundles have. Who is shut by a bundle that is no longer there is closed.
abbrev pub invariant-loop-conn : goal.invariant-loop-conn
invariant-loop-conn g l = record {
  numbers : numbers_of g.O.Outgoing.told l.senders.items ≡ numbers_of g.O.Outgoing.told l.initial.senders.items;
  sent : (before : ℕ → List ℕ) → HaveSent g.O.Outgoing.told before l.initial.senders.items
      → (done : ℕ → List ℕ) × ((k : ℕ) → done k ++ bytes_for k l.rest ≡ before k ++ bytes_for k l.initial.rest) × HaveSent g.O.Outgoing.told done l.senders.items;
  closed : StayClosed g.O.Outgoing.closed l.initial.senders.items l.senders.items;
  shut : (i : ℕ) → IsShutFor (i + 1) l.initial.rest → i < length l.senders.items → IsShutFor (i + 1) l.rest ⊎ IsClosed g.O.Outgoing.closed l.senders.items i;
}

abbrev pub decreases-loop-conn : goal.decreases-loop-conn
decreases-loop-conn g l = btree_map_len l.rest
