use Rattle.std.proofs.Common.{◌+◌, ◌++◌, ◌∙◌, ℕ, List, append-nil, ap, arith, subst, sym}
use Rattle.net_writers.specs.Lanes.{IsLane}
use Rattle.net_writers.proofs.HandedParcels.{of_some}
use Rattle.net_writers.proofs.LongerLanes.{of_more_lane}
use Rattle.net_writers.proofs.lane.Lane.put_open.Goals as goal

pub returns-then-self-clause-lane : goal.returns-then-self-clause-lane
returns-then-self-clause-lane g c = λ bytes count more n are none lane.
    subst (λ (b : List ℕ). IsLane b (count + n) c.args.self.now) (sym (ap (λ l. bytes ++ l) (none c.if-self.true) ∙ append-nil bytes)) (of_more_lane bytes count (count + n) c.args.self.now (omega arith) lane)

pub returns-clause-lane : goal.returns-clause-lane
returns-clause-lane g c = λ bytes count more n are none lane. c.put_parcels.ensures.lane bytes count more n are lane

pub returns-clause-still : goal.returns-clause-still
returns-clause-still g c = let l = c.requires.lane in (_, _, c.put_parcels.ensures.lane l.0 l.1 _ _ (of_some c.args.parcels) l.2)
