use Rattle.std.proofs.Common.{◌∙◌, ap, subst}
use Rattle.base_io.specs.Counts.{Rose}
use Rattle.net_hub.proofs.JoinedReaders.{with_acceptor}
use Rattle.net_hub.proofs.Served.{ok_then, served_as}
use Rattle.net_hub.proofs.together.serve_with.Goals as goal
use Rattle.cmd_journal.specs.AccountsFiles.{accounts_text}
use Rattle.net_hub.specs.GivenLinks.{AreFewer, AreGivenBack}
use Rattle.net_traits.proofs.ToldSince.{since_such}

pub returns-in-Ok-start-clause-served : goal.returns-in-Ok-start-clause-served
returns-in-Ok-start-clause-served g c =
    ok_then _ _ c.serve_started-served.result.0
    (λ text since. since_such _ _ since (served_as _ _ _ c.args.n since.moments since.bytes _ _ _ text.items (ap (λ r. accounts_text r.file) c.in-Ok.ensures.taker)
    (ap (λ j. j.count) c.in-Ok-start.ensures.job ∙ c.new-2.ensures.count) (ap g.D.Door.given (ap (λ j. j.door) c.in-Ok-start.ensures.job ∙ c.new-2.ensures.door)) since.such))
    c.serve_started-served.ensures.served

pub returns-in-Ok-start-clause-all_back : goal.returns-in-Ok-start-clause-all_back
returns-in-Ok-start-clause-all_back g c worker entropy memory =
    let handed = g.D.Door.handed in let given = g.D.Door.given in let new = c.serve_started-served.result.1 in let door = ap (λ j. j.door) c.in-Ok-start.ensures.job ∙ c.new-2.ensures.door in
    subst (λ d. AreGivenBack (handed d) (handed new) (given d) (given new)) door (c.serve_started-served.ensures.all_back worker entropy memory)

pub returns-in-Ok-start-clause-link_fault : goal.returns-in-Ok-start-clause-link_fault
returns-in-Ok-start-clause-link_fault g c is =
    let failed = c.serve_started-served.ensures.link_fault is in let new = c.serve_started-served.result.1 in let door = ap (λ j. j.door) c.in-Ok-start.ensures.job ∙ c.new-2.ensures.door in (
      subst (λ d. Rose (g.D.Door.faults d) (g.D.Door.faults new)) door failed.0,
      subst (λ n. AreFewer n (g.D.Door.given c.args.door) (g.D.Door.given new)) (ap (λ j. j.count) c.in-Ok-start.ensures.job ∙ c.new-2.ensures.count)
          (subst (λ d. AreFewer c.in-Ok-start.acceptor.count (g.D.Door.given d) (g.D.Door.given new)) door failed.1),
    )

pub returns-in-Ok-start-clause-workers : goal.returns-in-Ok-start-clause-workers
returns-in-Ok-start-clause-workers g c =
    let given = g.D.Door.given in let started = g.S.Spawner.started in let door = ap (λ j. j.door) c.in-Ok-start.ensures.job ∙ c.new-2.ensures.door in
    with_acceptor _ (given c.in-Ok-start.acceptor.door) (given c.args.door) (given c.serve_started-served.result.1) (started c.args.spawner.now) (started c.start.new.self) (started c.serve_started-served.new.spawner)
    c.in-Ok.ensures.positions (ap given door) c.in-Ok-start.ensures.started c.serve_started-served.ensures.readers
