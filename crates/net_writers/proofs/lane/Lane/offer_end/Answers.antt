use Rattle.std.proofs.Common.{subst, sym, true, ◌≤◌, length}
use Rattle.crossbeam_channel.specs.Claims.{view}
use Rattle.net_writers.specs.Lanes.{IsPut}
use Rattle.net_writers.proofs.LongerLanes.{may_put, end_put, end_refused}
use Rattle.net_writers.proofs.lane.Lane.offer_end.Goals as goal

pub offer-requires-clause-channel : goal.offer-requires-clause-channel
offer-requires-clause-channel g c = c.requires.lane.2.seat

pub offer-requires-clause-may : goal.offer-requires-clause-may
offer-requires-clause-may g c = may_put _ _ _ _ _ _ c.requires.lane.2.put

pub returns-then-offer-clause-lane : goal.returns-then-offer-clause-lane
returns-then-offer-clause-lane g c = λ bytes count lane. record {
  seat = c.offer.ensures.channel;
  room = lane.room;
  queue = lane.queue;
  put = end_put bytes count _ _ _ _ _ c.requires.open c.requires.due lane.put (c.offer.ensures.put c.if-offer.true);
}

pub returns-clause-lane : goal.returns-clause-lane
returns-clause-lane g c = λ bytes count lane. record {
  seat = c.offer.ensures.channel;
  room = lane.room;
  queue = lane.queue;
  put = subst (λ v. IsPut bytes count true c.args.self.now.shut c.args.self.now.ended v) (sym (c.offer.ensures.same c.if-offer.false))
      (end_refused bytes count _ _ _ _ c.requires.open lane.put (subst (λ n. n ≤ length (view c.args.self.now.pass).put) lane.room (c.offer.ensures.full c.if-offer.false)));
}
