use Rattle.std.proofs.Common.{◌≡◌, subst, sym, true}
use Rattle.crossbeam_channel.specs.Claims.{view}
use Rattle.net_owner.proofs.Settled.{given}
use Rattle.net_owner.proofs.settling.settle.Goals as goal
use Rattle.net_owner.specs.Owners.{HasGiven}
use Rattle.net_owner.specs.Merge.{items_of}
use Rattle.net_owner.specs.Feeds.{has_end, number}

pub returns-clause-feed : goal.returns-clause-feed
returns-clause-feed g c =
    let told = g.I.Incoming.told in let job = c.args.worker in let got = (view c.args.pass.now).got in let r = c.retire.ensures.all in
    let is : job.from ≡ c.args.number = c.requires.job.1 in
    subst (λ k. HasGiven told job (items_of number k got) c.join-half.result.half) is
    (given told job c.join-half.result got r.0 c.join-half.ensures r.1 (subst (λ k. has_end (items_of number k got) ≡ true) (sym is) c.requires.ended))
