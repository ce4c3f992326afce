use Rattle.std.proofs.Common.{refl, inl, inr, subst, arith}
use Rattle.net_owner.proofs.HeldHalves.{first_same, held_with}
use Rattle.net_owner.proofs.OwnerSteps.{on_ok, pass_over, started_below, write_down}
use Rattle.net_owner.proofs.stepping.Owner+R+I+Pair+I+O+T.gave.Goals as goal
use Rattle.net_owner.specs.Events.{Gave}
use Rattle.net_owner.specs.Positions.{HasNoReader, IsStarted}
use Rattle.net_owner.specs.declared.item.Item.{Item}
use Rattle.net_owner.specs.declared.item.What.TheVariants as what

pub returns-in-None-clause-going : goal.returns-in-None-clause-going
returns-in-None-clause-going g c =
    let item : Item _ = record { from = c.args.from; what = what.Gave c.args.piece } in
    pass_over g.T.Taker.events c.args.self.now item c.requires.going (inl (subst (λ l. HasNoReader l c.args.from) c.as_slice.ensures.value c.in-None.ensures)) (inr refl)

pub returns-in-Some-clause-going : goal.returns-in-Some-clause-going
returns-in-Some-clause-going g c =
    let item : Item _ = record { from = c.args.from; what = what.Gave c.args.piece } in
    let s = c.in-Some.ensures in
    on_ok c.piece.result (λ n. write_down g.T.Taker.events c.args.self.now item c.piece.new.self (Gave c.args.piece.bytes.items) c.in-Some.field-0 c.requires.going (subst (λ l. IsStarted l c.in-Some.field-0) c.as_slice.ensures.value s.1) s.0 refl n) c.piece.ensures.gave

pub returns-in-Some-clause-held : goal.returns-in-Some-clause-held
returns-in-Some-clause-held g c =
    held_with g.I.Incoming.told g.T.Taker.numbers c.args.self.now c.piece.new.self c.args.self.now.closed c.args.self.now.met (first_same _ _ c.piece.ensures.halves) c.requires.held

pub piece-requires : goal.piece-requires
piece-requires g c =
    let i = c.in-Some.field-0 in
    let below = started_below c.args.self.now.positions.items i (subst (λ l. IsStarted l i) c.as_slice.ensures.value c.in-Some.ensures.1) in
    record { position = (omega (arith, c.in-Some.ensures.0), omega (arith, c.in-Some.ensures.0, below, c.requires.many)) }
