use Rattle.std.proofs.Common.{◌≡◌, ◌<◌, ℕ, length}
use Rattle.net_hub.proofs.sending.close_all.Given as goal
use Rattle.net_hub.specs.Sendings.{IsClosed, numbers_of}

-- so many are closed
abbrev pub invariant-loop-conn : goal.invariant-loop-conn
invariant-loop-conn g l = record {
  numbers : numbers_of g.O.Outgoing.told l.senders.items ≡ numbers_of g.O.Outgoing.told l.initial.senders.items;
  closed : (i : ℕ) → i < l.conn → i < length l.senders.items → IsClosed g.O.Outgoing.closed l.senders.items i;
}
