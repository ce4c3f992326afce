use Rattle.std.proofs.Common.{◌+◌, ◌++◌, ◌∙◌, rules, refl, sym}
use Rattle.std.specs.Vec.Iter.{into_iter_items}
use Rattle.net_writers.specs.Lanes.{IsLane}
use Rattle.net_writers.proofs.HandedParcels.{all_handed, next_handed, none_handed}
use Rattle.net_writers.proofs.lane.Lane.put_all.Goals as goal

pub loop-parcel-init : goal.loop-parcel-init
loop-parcel-init g c = record {
  lane = c.requires.lane;
  unshut = c.requires.open;
  handed = λ bytes count lane. none_handed (λ b n. IsLane b n c.args.self.now) bytes count (into_iter_items c.into_iter-parcel-iterator.result) c.args.parcels.items c.into_iter-parcel-iterator.ensures.into_iter_gives.0 lane;
  left = search rules;
  worker = refl;
}

pub loop-parcel-preserved : goal.loop-parcel-preserved
loop-parcel-preserved g c =
    let at = c.loop-parcel.invariant in
    let left = into_iter_items c.loop-parcel.parcel-iterator in let next = into_iter_items c.next.new.self in record {
      lane = (at.lane.0 ++ c.in-Some.parcel.items, at.lane.1 + 1, c.put.ensures.lane at.lane.0 at.lane.1 at.lane.2);
      unshut = c.put.ensures.shut;
      handed = λ bytes count lane. next_handed (λ b n. IsLane b n c.loop-parcel.self) (λ b n. IsLane b n c.put.new.self) _ _ left next c.in-Some.parcel c.in-Some.ensures.steps.0 c.put.ensures.lane (at.handed bytes count lane);
      left = search rules;
      worker = c.put.ensures.worker ∙ at.worker;
    }

pub returns-clause-lane : goal.returns-clause-lane
returns-clause-lane g c = λ bytes count lane. let at = c.loop-parcel.invariant in
    all_handed (λ b n. IsLane b n c.loop-parcel.self) _ _ (into_iter_items c.loop-parcel.parcel-iterator) (sym at.left ∙ c.in-None.ensures.steps.0) (at.handed bytes count lane)
