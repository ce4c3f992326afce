use Rattle.net_writers.specs.Lanes.{IsLane}
use Rattle.net_writers.proofs.HandedParcels.{with_last, without_last}
use Rattle.net_writers.proofs.LongerLanes.{of_more_lane}
use Rattle.net_writers.proofs.lane.Lane.put_parcels.Goals as goal

pub put-requires-clause-lane : goal.put-requires-clause-lane
put-requires-clause-lane g c = let l = c.requires.lane in (_, _, c.put_all.ensures.lane l.0 l.1 l.2)

pub returns-then-is_empty-clause-lane : goal.returns-then-is_empty-clause-lane
returns-then-is_empty-clause-lane g c = λ bytes count more n are lane.
    without_last (λ b m. IsLane b m c.put_all.new.self) bytes more count n c.args.parcels are (λ b m k less. of_more_lane b m k c.put_all.new.self less) (c.is_empty.ensures.none c.if-is_empty.true) (c.put_all.ensures.lane bytes count lane)

pub returns-clause-lane : goal.returns-clause-lane
returns-clause-lane g c = λ bytes count more n are lane.
    with_last (λ b m. IsLane b m c.put_all.new.self) (λ b m. IsLane b m c.put.new.self) bytes more count n c.args.parcels are (λ b m k less. of_more_lane b m k c.put.new.self less) c.put.ensures.lane (c.is_empty.ensures.some c.if-is_empty.false) (c.put_all.ensures.lane bytes count lane)
