use Rattle.std.proofs.Common.{refl, ◌<◌, subst, ap, true}
use Rattle.net_owner.proofs.HeldHalves.{first_same, held_marked}
use Rattle.net_owner.proofs.MoreReaders.{still_there}
use Rattle.net_owner.proofs.OwnerSteps.{started_below, started_is}
use Rattle.net_owner.proofs.stepping.Owner+R+I+Pair+I+O+T.mark.Goals as goal
use Rattle.net_owner.specs.Positions.{IsStarted}
use Rattle.net_owner.specs.declared.position.Slot.{Slot}

pub index_mut-requires : goal.index_mut-requires
index_mut-requires g c = subst (λ n. c.in-Some.index < n) c.as_slice.ensures.len (started_below c.as_slice.result.now c.in-Some.index c.in-Some.ensures.1)

pub returns-in-Some-clause-held : goal.returns-in-Some-clause-held
returns-in-Some-clause-held g c =
    let s = subst (λ l. IsStarted l c.in-Some.index) c.as_slice.ensures.value c.in-Some.ensures.1 in
    let q = record c.index_mut.result.now { ended = true } in
    held_marked g.I.Incoming.told g.T.Taker.numbers c.args.self.now _ c.args.self.now.taker c.in-Some.index s.position q (first_same _ _ refl) refl s.there
    (ap (λ (r : Slot _ _ _). r.worker) (started_is c.args.self.now.positions.items c.in-Some.index s c.index_mut.result.now c.index_mut.ensures.value)) c.requires.held

pub returns-in-Some-clause-workers : goal.returns-in-Some-clause-workers
returns-in-Some-clause-workers g c =
    let s = subst (λ l. IsStarted l c.in-Some.index) c.as_slice.ensures.value c.in-Some.ensures.1 in
    let q = record c.index_mut.result.now { ended = true } in
    still_there c.args.self.now.positions.items c.in-Some.index s.position q s.there
    (ap (λ (r : Slot _ _ _). r.worker) (started_is c.args.self.now.positions.items c.in-Some.index s c.index_mut.result.now c.index_mut.ensures.value))
