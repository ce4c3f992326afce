use Rattle.std.proofs.Common.{◌∙◌, ◌<◌, ap, subst, sym}
use Rattle.crossbeam_channel.specs.Claims.{view}
use Rattle.net_owner.proofs.Settled.{all_taken}
use Rattle.net_owner.proofs.settling.settle_acceptor.Goals as goal
use Rattle.net_owner.specs.Acceptors.{counted_times}

pub returns-clause-all : goal.returns-clause-all
returns-clause-all g c quiet =
    all_taken g.D.Door.faults g.D.Door.handed g.D.Door.given c.args.worker c.join-door.result (view c.args.pass.now).got c.retire.ensures.all.0 c.join-door.ensures c.retire.ensures.all.1 c.requires.closed ∙ c.join-door.ensures.all quiet

pub returns-clause-fewer : goal.returns-clause-fewer
returns-clause-fewer g c failed =
    subst (λ n. n < c.args.worker.count)
    (sym (all_taken g.D.Door.faults g.D.Door.handed g.D.Door.given c.args.worker c.join-door.result (view c.args.pass.now).got c.retire.ensures.all.0 c.join-door.ensures c.retire.ensures.all.1 c.requires.closed))
    (c.join-door.ensures.fewer failed)

pub returns-clause-handed : goal.returns-clause-handed
returns-clause-handed g c =
    c.join-door.ensures.handed_is
    ∙ ap (λ n. counted_times n (g.D.Door.handed c.args.worker.door))
    (sym (all_taken g.D.Door.faults g.D.Door.handed g.D.Door.given c.args.worker c.join-door.result (view c.args.pass.now).got c.retire.ensures.all.0 c.join-door.ensures c.retire.ensures.all.1 c.requires.closed))
