use Rattle.std.proofs.Common.{◌≡◌, length}
use Rattle.net_owner.proofs.stepping.Owner+R+I+Pair+I+O+T.run.Given as goal
use Rattle.net_owner.specs.Halves.{IsHeld}
use Rattle.net_owner.specs.Owners.{IsGoing}
use Rattle.net_owner.specs.StartedReaders.{HasStarted}
use Rattle.net_owner.specs.Troubles.{HasMet}
use Rattle.net_traits.specs.ToldSince.{ToldSince}

abbrev pub invariant-loop : goal.invariant-loop
invariant-loop g l = record {
  going : IsGoing g.T.Taker.events l.self;
  queue : l.self.to ≡ l.initial.self.to;
  held : IsHeld g.I.Incoming.told g.T.Taker.numbers l.self;
  readers : HasStarted l.initial.self.positions.items l.self.positions.items (g.S.Spawner.started l.initial.spawner) (g.S.Spawner.started l.spawner);
  many : length (g.T.Taker.numbers l.self.taker) ≡ length l.self.positions.items;
  right : ToldSince (g.C.Clock.told l.initial.clock) (g.E.Entropy.drawn l.initial.entropy) (g.C.Clock.told l.clock) (g.E.Entropy.drawn l.entropy) (g.T.Taker.keeps l.self.taker);
  met : HasMet l.self.met (g.S.Spawner.faults l.initial.spawner) (g.E.Entropy.faults l.initial.entropy) (g.S.Spawner.faults l.spawner) (g.E.Entropy.faults l.entropy);
  fixed : g.T.Taker.fixed l.self.taker ≡ g.T.Taker.fixed l.initial.self.taker;
}
