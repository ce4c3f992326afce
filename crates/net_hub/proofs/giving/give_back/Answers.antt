use Rattle.std.proofs.Common.{◌∙◌, ap, arith, refl, subst}
use Rattle.std.specs.Vec.Iter.{into_iter_items}
use Rattle.net_hub.proofs.Backs.{left_all, left_empty, left_first, left_next, left_none, paired_begin, paired_empty, paired_first, paired_none, paired_rest}
use Rattle.net_hub.proofs.JoinedReaders.{left_more}
use Rattle.net_hub.proofs.giving.give_back.Goals as goal
use Rattle.net_owner.specs.Readers.{HasRead}

pub loop-position-init : goal.loop-position-init
loop-position-init g c =
    let told = g.I.Incoming.told in let out = g.O.Outgoing.told in
    let left = into_iter_items c.into_iter-position-iterator.result in let first = c.into_iter-position-iterator.ensures.into_iter_gives.0 in
    record {
      paired = paired_begin told out c.args.positions.items left c.args.senders.items c.from_vec-senders.result.items c.requires first c.from_vec-senders.ensures.items;
      given = left_first told out c.args.positions.items left c.args.senders.items c.from_vec-senders.result.items (g.D.Door.given c.args.door.now) first c.from_vec-senders.ensures.items;
      faults = refl;
      handed = refl;
    }

pub give_back_halves-requires : goal.give_back_halves-requires
give_back_halves-requires g c =
    let at = c.loop-position in
    c.join-half.ensures.number ∙ ap (λ j. (g.I.Incoming.told j.half).number) c.in-Some-worker.worker-is
    ∙ paired_first g.I.Incoming.told g.O.Outgoing.told (into_iter_items at.position-iterator) at.senders.items c.in-Some.position (into_iter_items c.next.new.self) c.in-Some-pop_front.sender c.pop_front.new.self.items c.in-Some-worker.worker at.invariant.paired c.in-Some.ensures.steps.0 c.in-Some-pop_front.ensures.items c.in-Some-worker.is

pub loop-position-preserved-in-Some-worker : goal.loop-position-preserved-in-Some-worker
loop-position-preserved-in-Some-worker g c =
    let told = g.I.Incoming.told in let out = g.O.Outgoing.told in let given = g.D.Door.given in let at = c.loop-position in
    let left = into_iter_items at.position-iterator in let next = into_iter_items c.next.new.self in
    let p = c.in-Some.position in let s = c.in-Some-pop_front.sender in let rest = c.pop_front.new.self.items in let job = c.in-Some-worker.worker in
    let first = c.in-Some.ensures.steps.0 in let front = c.in-Some-pop_front.ensures.items in
    let read = subst (λ j. HasRead told j c.join-half.result) c.in-Some-worker.worker-is c.join-half.ensures in record {
      paired = paired_rest told out left at.senders.items p next s rest at.invariant.paired first front;
      given = left_next told out c.args.positions.items left next c.args.senders.items at.senders.items rest (given c.args.door.now) (given at.door) (given c.give_back_halves.new.self) p s job _ at.invariant.given first front c.in-Some-worker.is
          (record { answer = c.join-half.result; read = read; link_is = refl }) c.give_back_halves.ensures.given;
      faults = c.give_back_halves.ensures.faults ∙ at.invariant.faults;
      handed = c.give_back_halves.ensures.handed ∙ at.invariant.handed;
    }

pub loop-position-preserved-in-Some-pop_front : goal.loop-position-preserved-in-Some-pop_front
loop-position-preserved-in-Some-pop_front g c =
    let told = g.I.Incoming.told in let out = g.O.Outgoing.told in let given = g.D.Door.given in let at = c.loop-position in
    let left = into_iter_items at.position-iterator in let next = into_iter_items c.next.new.self in
    let p = c.in-Some.position in let s = c.in-Some-pop_front.sender in let rest = c.pop_front.new.self.items in
    let first = c.in-Some.ensures.steps.0 in let front = c.in-Some-pop_front.ensures.items in record {
      paired = paired_rest told out left at.senders.items p next s rest at.invariant.paired first front;
      given = left_none told out c.args.positions.items left next c.args.senders.items at.senders.items rest (given c.args.door.now) (given at.door) p s at.invariant.given first front c.in-None-worker.is;
      faults = at.invariant.faults;
      handed = at.invariant.handed;
    }

pub unreachable-requires : goal.unreachable-requires
unreachable-requires g c =
    let at = c.loop-position in let ok = at.senders.ok in let none = c.in-None-pop_front.ensures.cases.0 in
    paired_none g.I.Incoming.told g.O.Outgoing.told (into_iter_items at.position-iterator) at.senders.items c.in-Some.position (into_iter_items c.next.new.self) c.in-Some-worker-2.field-0 at.invariant.paired c.in-Some.ensures.steps.0 (omega (arith, ok, none)) c.in-Some-worker-2.is

pub loop-position-preserved : goal.loop-position-preserved
loop-position-preserved g c =
    let told = g.I.Incoming.told in let out = g.O.Outgoing.told in let given = g.D.Door.given in let at = c.loop-position in
    let left = into_iter_items at.position-iterator in let next = into_iter_items c.next.new.self in
    let p = c.in-Some.position in let rest = c.pop_front.new.self.items in
    let ok = at.senders.ok in let no_one = c.in-None-pop_front.ensures.cases.0 in let first = c.in-Some.ensures.steps.0 in record {
      paired = paired_empty told out left at.senders.items rest p next at.invariant.paired first (omega (arith, ok, no_one)) c.in-None-pop_front.ensures.items;
      given = left_empty told out c.args.positions.items left next c.args.senders.items at.senders.items rest (given c.args.door.now) (given at.door) p at.invariant.given first (omega (arith, ok, no_one)) c.in-None-pop_front.ensures.items c.in-None-worker-2.is;
      faults = at.invariant.faults;
      handed = at.invariant.handed;
    }

pub returns-clause-given : goal.returns-clause-given
returns-clause-given g c =
    let at = c.loop-position in let none = at.position-iterator.rest.ok in let over = c.in-None.ensures.steps.0 in
    left_all g.I.Incoming.told g.O.Outgoing.told c.args.positions.items (into_iter_items at.position-iterator) c.args.senders.items at.senders.items
    (g.D.Door.given c.args.door.now) (g.D.Door.given at.door) at.invariant.given (omega (arith, none, over))

pub returns-clause-readers : goal.returns-clause-readers
returns-clause-readers g c =
    let at = c.loop-position in let none = at.position-iterator.rest.ok in let over = c.in-None.ensures.steps.0 in let given = g.D.Door.given in
    left_more g.I.Incoming.told g.O.Outgoing.told c.args.positions.items c.args.senders.items (given c.args.door.now) (given at.door)
    (left_all g.I.Incoming.told g.O.Outgoing.told c.args.positions.items (into_iter_items at.position-iterator) c.args.senders.items at.senders.items (given c.args.door.now) (given at.door) at.invariant.given (omega (arith, none, over)))
