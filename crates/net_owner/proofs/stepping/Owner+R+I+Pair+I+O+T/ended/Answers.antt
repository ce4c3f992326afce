use Rattle.std.proofs.Common.{refl, ◌<◌, inl, inr, subst, ap, true, arith}
use Rattle.net_owner.proofs.HeldHalves.{first_same, held_marked}
use Rattle.net_owner.proofs.MoreReaders.{still_there}
use Rattle.net_owner.proofs.OwnerSteps.{on_ok, pass_over, started_below, started_is, write_end}
use Rattle.net_owner.proofs.stepping.Owner+R+I+Pair+I+O+T.ended.Goals as goal
use Rattle.net_owner.specs.Events.{Gone}
use Rattle.net_owner.specs.Positions.{HasNoReader, IsStarted}
use Rattle.net_owner.specs.declared.position.Slot.{Slot}
use Rattle.net_owner.specs.declared.item.Item.{Item}
use Rattle.net_owner.specs.declared.item.What.TheVariants.{Ended}

pub index_mut-requires : goal.index_mut-requires
index_mut-requires g c = subst (λ n. c.in-Some.index < n) c.as_slice.ensures.len (started_below c.as_slice.result.now c.in-Some.index c.in-Some.ensures.1)

pub returns-in-None-clause-going : goal.returns-in-None-clause-going
returns-in-None-clause-going g c =
    let item : Item _ = record { from = c.args.from; what = Ended } in
    pass_over g.T.Taker.events c.args.self.now item c.requires.going (inl (subst (λ l. HasNoReader l c.args.from) c.as_slice.ensures.value c.in-None.ensures)) (inr refl)

pub returns-in-Some-clause-going : goal.returns-in-Some-clause-going
returns-in-Some-clause-going g c =
    let item : Item _ = record { from = c.args.from; what = Ended } in
    let s = subst (λ l. IsStarted l c.in-Some.index) c.as_slice.ensures.value c.in-Some.ensures.1 in
    let q = record c.index_mut.result.now { ended = true } in
    on_ok c.gone.result (λ n. write_end g.T.Taker.events c.args.self.now item c.gone.new.self _ Gone c.in-Some.index q c.requires.going s c.in-Some.ensures.0 refl n refl
    (ap (λ (r : Slot _ _ _). r.worker) (started_is c.args.self.now.positions.items c.in-Some.index s c.index_mut.result.now c.index_mut.ensures.value)) refl) c.gone.ensures.gone

pub returns-in-Some-clause-held : goal.returns-in-Some-clause-held
returns-in-Some-clause-held g c =
    let s = subst (λ l. IsStarted l c.in-Some.index) c.as_slice.ensures.value c.in-Some.ensures.1 in
    let q = record c.index_mut.result.now { ended = true } in
    held_marked g.I.Incoming.told g.T.Taker.numbers c.args.self.now _ c.gone.new.self c.in-Some.index s.position q (first_same _ _ c.gone.ensures.halves) refl s.there
    (ap (λ (r : Slot _ _ _). r.worker) (started_is c.args.self.now.positions.items c.in-Some.index s c.index_mut.result.now c.index_mut.ensures.value)) c.requires.held

pub returns-in-Some-clause-workers : goal.returns-in-Some-clause-workers
returns-in-Some-clause-workers g c =
    let s = subst (λ l. IsStarted l c.in-Some.index) c.as_slice.ensures.value c.in-Some.ensures.1 in
    let q = record c.index_mut.result.now { ended = true } in
    still_there c.args.self.now.positions.items c.in-Some.index s.position q s.there
    (ap (λ (r : Slot _ _ _). r.worker) (started_is c.args.self.now.positions.items c.in-Some.index s c.index_mut.result.now c.index_mut.ensures.value))

pub gone-requires : goal.gone-requires
gone-requires g c =
    let i = c.in-Some.index in
    let below = started_below c.args.self.now.positions.items i (subst (λ l. IsStarted l i) c.as_slice.ensures.value c.in-Some.ensures.1) in
    record { position = (omega (arith, c.in-Some.ensures.0), omega (arith, c.in-Some.ensures.0, below, c.requires.many)) }
