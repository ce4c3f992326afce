use Rattle.std.proofs.Common.{◌≡◌}
use Rattle.net_owner.proofs.stepping.Owner+R+I+Pair+I+O+T.drain.Given as goal
use Rattle.net_owner.specs.Halves.{IsHeld}
use Rattle.net_owner.specs.StartedReaders.{workers_of}

abbrev pub invariant-loop : goal.invariant-loop
invariant-loop g l = record {
  held : IsHeld g.I.Incoming.told g.T.Taker.numbers l.self;
  workers : workers_of l.self.positions.items ≡ workers_of l.initial.self.positions.items;
  shut : g.T.Taker.shut l.self.taker;
}
