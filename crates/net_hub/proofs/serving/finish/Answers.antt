use Rattle.std.proofs.Common.{◌≡◌, ◌∙◌, ◌+◌, ◌++◌, ℕ, Some, ap, arith, refl, subst, sym}
use Rattle.std.specs.Prelude.{◌⊎◌, IsSome}
use Rattle.std.proofs.lemmas.List.{length-map}
use Rattle.crossbeam_channel.specs.Claims.{view}
use Rattle.crossbeam_channel.specs.Ends.{sends_on}
use Rattle.base_io.specs.Counts.{Rose}
use Rattle.net_hub.proofs.CountedLinks.{all_back, are_fewer}
use Rattle.net_hub.proofs.DoorFaults.{door_fault, door_rose}
use Rattle.net_hub.proofs.JoinedReaders.{back_many}
use Rattle.net_hub.proofs.Ready.{ready}
use Rattle.net_hub.proofs.Written.{is_written}
use Rattle.net_hub.proofs.serving.finish.Goals as goal
use Rattle.net_hub.specs.Backs.{AreBack, AreReady}
use Rattle.net_hub.specs.declared.fault.HubFault.TheVariants.{LinkFault, NoMemory}
use Rattle.net_owner.specs.Acceptors.{IsStopCounted}
use Rattle.net_owner.specs.Arrivals.{arrivals}
use Rattle.net_owner.specs.Positions.{IsPlaced}
use Rattle.net_owner.specs.Merge.{items_of}
use Rattle.net_owner.specs.Feeds.{number}
use Rattle.net_hub.specs.Records.{bares_of, views_of}
use Rattle.cmd_rerun.specs.Journaling.{journal_text}

pub settle_all-requires-clause-ready : goal.settle_all-requires-clause-ready
settle_all-requires-clause-ready g c =
    let told = g.I.Incoming.told in let out = g.O.Outgoing.told in let h = c.args.owner in let es = bares_of h.taker.events.items in let got = (view h.pass).got in
    let next : (i : ℕ) → i + 1 ≡ 1 + i = λ i. omega arith in
    subst (λ l. AreReady told out l (λ job. sends_on job.to ≡ sends_on h.to) 1 h.positions.items h.taker.senders.items) (sym c.settle_acceptor-door.ensures.got)
    (ready told out es got (λ job. sends_on job.to ≡ sends_on h.to) 1 h.positions.items h.taker.senders.items (sym (length-map h.taker.senders.items (λ s. (out s.half).number)) ∙ c.requires.many)
    (c.requires.going.here.started c.requires.met) c.requires.over
    (λ i p at. (subst (λ k. IsPlaced es got k p) (next i) (c.requires.going.kept.placed i p at), c.requires.going.still.same i p at)) c.requires.held.paired)

pub returns-in-Some-clause-all_back : goal.returns-in-Some-clause-all_back
returns-in-Some-clause-all_back g c =
    let h = c.args.owner in let back = c.settle_all.ensures.back in let handed = g.D.Door.handed in let given = g.D.Door.given in
    all_back g.I.Incoming.told g.O.Outgoing.told (view c.settle_acceptor-door.new.pass).got h.positions.items h.taker.senders.items (handed c.args.acceptor.door) (handed c.settle_all.new.door) (arrivals (items_of number 0 (view h.pass).got))
    (given c.args.acceptor.door) (given c.settle_all.new.door) back.0 back.2 (back.1 ∙ ap (λ l. l ++ back.0) c.settle_acceptor-door.ensures.given)
    (let many = c.requires.going.here.many c.requires.met in omega (arith, many)) (c.settle_all.ensures.handed ∙ c.settle_acceptor-door.ensures.handed)

pub returns-in-Ok-clause-all_back : goal.returns-in-Ok-clause-all_back
returns-in-Ok-clause-all_back g c =
    let h = c.args.owner in let back = c.settle_all.ensures.back in let handed = g.D.Door.handed in let given = g.D.Door.given in
    all_back g.I.Incoming.told g.O.Outgoing.told (view c.settle_acceptor-door.new.pass).got h.positions.items h.taker.senders.items (handed c.args.acceptor.door) (handed c.settle_all.new.door) (arrivals (items_of number 0 (view h.pass).got))
    (given c.args.acceptor.door) (given c.settle_all.new.door) back.0 back.2 (back.1 ∙ ap (λ l. l ++ back.0) c.settle_acceptor-door.ensures.given)
    (let many = c.requires.going.here.many c.requires.met in omega (arith, many)) (c.settle_all.ensures.handed ∙ c.settle_acceptor-door.ensures.handed)

pub returns-clause-all_back : goal.returns-clause-all_back
returns-clause-all_back g c =
    let h = c.args.owner in let back = c.settle_all.ensures.back in let handed = g.D.Door.handed in let given = g.D.Door.given in
    all_back g.I.Incoming.told g.O.Outgoing.told (view c.settle_acceptor-door.new.pass).got h.positions.items h.taker.senders.items (handed c.args.acceptor.door) (handed c.settle_all.new.door) (arrivals (items_of number 0 (view h.pass).got))
    (given c.args.acceptor.door) (given c.settle_all.new.door) back.0 back.2 (back.1 ∙ ap (λ l. l ++ back.0) c.settle_acceptor-door.ensures.given)
    (let many = c.requires.going.here.many c.requires.met in omega (arith, many)) (c.settle_all.ensures.handed ∙ c.settle_acceptor-door.ensures.handed)

pub returns-in-Some-clause-failed : goal.returns-in-Some-clause-failed
returns-in-Some-clause-failed g c is =
    let h = c.args.owner in let back = c.settle_all.ensures.back in let faults = g.D.Door.faults in let given = g.D.Door.given in
    let cause : IsStopCounted (faults c.args.acceptor.door) (faults c.settle_acceptor-door.result.0) (Some c.in-Some.fault) = subst (λ s. IsStopCounted (faults c.args.acceptor.door) (faults c.settle_acceptor-door.result.0) s) c.in-Some.is c.settle_acceptor-door.ensures.cause in (
      subst (λ n. Rose (faults c.args.acceptor.door) n) (sym c.settle_all.ensures.faults) (door_rose c.in-Some.fault c.of_door.result _ _ c.of_door.ensures is cause),
      are_fewer g.I.Incoming.told g.O.Outgoing.told (view c.settle_acceptor-door.new.pass).got h.positions.items h.taker.senders.items (arrivals (items_of number 0 (view h.pass).got)) c.args.acceptor.count
          (given c.args.acceptor.door) (given c.settle_all.new.door) back.0 back.2 (back.1 ∙ ap (λ l. l ++ back.0) c.settle_acceptor-door.ensures.given)
          (let many = c.requires.going.here.many c.requires.met in omega (arith, many)) (c.settle_acceptor-door.ensures.fewer (subst IsSome (sym c.in-Some.is) refl)),
    )

pub returns-in-Some-clause-faults : goal.returns-in-Some-clause-faults
returns-in-Some-clause-faults g c = subst (λ e. (e ≡ LinkFault) ⊎ (e ≡ NoMemory)) (sym c.of_door.ensures) (door_fault c.in-Some.fault)

pub returns-in-Ok-clause-served : goal.returns-in-Ok-clause-served
returns-in-Ok-clause-served g c moment drawn kept =
    let told = g.I.Incoming.told in let out = g.O.Outgoing.told in let h = c.args.owner in let given = g.D.Door.given in let back = c.settle_all.ensures.back in
    is_written told out (view h.pass).got h.taker h.positions.items c.args.acceptor.count moment drawn (given c.args.acceptor.door) (given c.settle_all.new.door) back.0 c.in-Ok.text.items
    c.requires.going.kept kept (c.requires.going.here.started c.requires.met)
    (let many = c.requires.going.here.many c.requires.met in let all = c.settle_acceptor-door.ensures.all c.in-None.is in omega (arith, many, all))
    (subst (λ l. AreBack told out l 1 h.positions.items h.taker.senders.items back.0) c.settle_acceptor-door.ensures.got back.2)
    (back.1 ∙ ap (λ l. l ++ back.0) c.settle_acceptor-door.ensures.given)
    (c.in-Ok.ensures ∙ ap (λ l. journal_text h.taker.file (views_of l)) c.as_slice.ensures.value)

pub returns-in-Some-clause-readers : goal.returns-in-Some-clause-readers
returns-in-Some-clause-readers g c =
    let h = c.args.owner in let back = c.settle_all.ensures.back in let given = g.D.Door.given in
    back_many g.I.Incoming.told g.O.Outgoing.told (view c.settle_acceptor-door.new.pass).got h.positions.items h.taker.senders.items (given c.args.acceptor.door) (given c.settle_all.new.door) back.0 back.2
    (back.1 ∙ ap (λ l. l ++ back.0) c.settle_acceptor-door.ensures.given) (c.requires.going.here.started c.requires.met)

pub returns-in-Ok-clause-readers : goal.returns-in-Ok-clause-readers
returns-in-Ok-clause-readers g c =
    let h = c.args.owner in let back = c.settle_all.ensures.back in let given = g.D.Door.given in
    back_many g.I.Incoming.told g.O.Outgoing.told (view c.settle_acceptor-door.new.pass).got h.positions.items h.taker.senders.items (given c.args.acceptor.door) (given c.settle_all.new.door) back.0 back.2
    (back.1 ∙ ap (λ l. l ++ back.0) c.settle_acceptor-door.ensures.given) (c.requires.going.here.started c.requires.met)

pub returns-clause-readers : goal.returns-clause-readers
returns-clause-readers g c =
    let h = c.args.owner in let back = c.settle_all.ensures.back in let given = g.D.Door.given in
    back_many g.I.Incoming.told g.O.Outgoing.told (view c.settle_acceptor-door.new.pass).got h.positions.items h.taker.senders.items (given c.args.acceptor.door) (given c.settle_all.new.door) back.0 back.2
    (back.1 ∙ ap (λ l. l ++ back.0) c.settle_acceptor-door.ensures.given) (c.requires.going.here.started c.requires.met)
