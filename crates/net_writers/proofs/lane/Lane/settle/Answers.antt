use Rattle.std.proofs.Common.{subst, ap}
use Rattle.crossbeam_channel.specs.Claims.{view, IsSeatAt}
use Rattle.net_queues.specs.declared.rule.Side.{Side}
use Rattle.net_writers.specs.declared.parcel.Parcel.{Parcel}
use Rattle.net_writers.specs.Lanes.{IsPut}
use Rattle.net_writers.proofs.LongerLanes.{may_put}
use Rattle.net_writers.proofs.LeftLanes.{left}
use Rattle.net_writers.proofs.lane.Lane.settle.Goals as goal

pub regain-requires-clause-channel : goal.regain-requires-clause-channel
regain-requires-clause-channel g c = let l = c.requires.lane.2 in (l.seat, subst (λ q. IsSeatAt q c.join-half.result.pass) l.queue c.join-half.ensures.seat)

pub regain-requires-clause-may : goal.regain-requires-clause-may
regain-requires-clause-may g c = (may_put _ _ _ _ _ _ c.requires.lane.2.put, ap (λ (v : Side Parcel). v.takes) c.join-half.ensures.shape)

pub returns-clause-left : goal.returns-clause-left
returns-clause-left g c = λ bytes count none lane. let told = g.O.Outgoing.told in let job = c.args.self in
    left bytes count job.overrun job.shut (view job.pass) c.join-half.ensures.body c.regain.ensures.all.0 (view c.join-half.result.pass).got c.join-half.ensures.broken (told job.worker.half) (told c.join-half.result.half)
    (subst (λ e. IsPut bytes count job.overrun job.shut e (view job.pass)) c.requires.ended lane.put) c.regain.ensures.all.1 (ap (λ (v : Side Parcel). v.got) c.join-half.ensures.shape) c.join-half.ensures.puts (c.join-half.ensures.sent none) c.join-half.ensures.number
