use Rattle.std.proofs.Common.{subst, sym, refl, true, ◌≤◌, ◌+◌, ◌++◌, length}
use Rattle.crossbeam_channel.specs.Claims.{view}
use Rattle.net_writers.specs.Lanes.{IsPut}
use Rattle.net_writers.specs.declared.parcel.Parcel.TheVariants.{Put}
use Rattle.net_writers.proofs.LongerLanes.{may_put, put_more, put_refused, put_dropped}
use Rattle.net_writers.proofs.lane.Lane.put.Goals as goal

pub returns-then-self-clause-lane : goal.returns-then-self-clause-lane
returns-then-self-clause-lane g c = λ bytes count lane. record {
  seat = lane.seat;
  room = lane.room;
  queue = lane.queue;
  put = put_dropped bytes c.args.parcel.items count _ _ _ _ c.if-self.true lane.put;
}

pub offer-requires-clause-channel : goal.offer-requires-clause-channel
offer-requires-clause-channel g c = c.requires.lane.2.seat

pub offer-requires-clause-may : goal.offer-requires-clause-may
offer-requires-clause-may g c = may_put _ _ _ _ _ _ c.requires.lane.2.put

pub returns-then-offer-clause-lane : goal.returns-then-offer-clause-lane
returns-then-offer-clause-lane g c = λ bytes count lane. record {
  seat = c.offer.ensures.channel;
  room = lane.room;
  queue = lane.queue;
  put = put_more bytes count _ _ _ _ _ (Put c.args.parcel) c.if-self.false c.requires.open refl lane.put (c.offer.ensures.put c.if-offer.true);
}

pub returns-clause-lane : goal.returns-clause-lane
returns-clause-lane g c = λ bytes count lane. record {
  seat = c.offer.ensures.channel;
  room = lane.room;
  queue = lane.queue;
  put = subst (λ v. IsPut (bytes ++ c.args.parcel.items) (count + 1) true c.args.self.now.shut c.args.self.now.ended v) (sym (c.offer.ensures.same c.if-offer.false))
      (put_refused bytes c.args.parcel.items count _ _ _ _ c.if-self.false c.requires.open lane.put (subst (λ n. n ≤ length (view c.args.self.now.pass).put) lane.room (c.offer.ensures.full c.if-offer.false)));
}
