use Rattle.std.proofs.Common.{◌≡◌, ◌∙◌, ◌+◌, arith, refl, subst}
use Rattle.crossbeam_channel.specs.Claims.{view}
use Rattle.crossbeam_channel.specs.Ends.{sends_on}
use Rattle.std.specs.Vec.Iter.{into_iter_items}
use Rattle.net_hub.proofs.Backs.{back_all, back_few, back_first, back_next, back_of, ready_begin, ready_first}
use Rattle.net_hub.proofs.settling.settle_all.Goals as goal
use Rattle.net_owner.specs.Owners.{HasGiven}
use Rattle.net_owner.specs.Merge.{items_of}
use Rattle.net_owner.specs.Feeds.{number}

pub loop-position-init : goal.loop-position-init
loop-position-init g c =
    let told = g.I.Incoming.told in let out = g.O.Outgoing.told in let got = (view c.args.pass.now).got in
    let left = into_iter_items c.into_iter-position-iterator.result in let first = c.into_iter-position-iterator.ensures.into_iter_gives.0 in
    record {
      channel = c.requires.channel;
      owner = c.requires.owner;
      got = refl;
      ready = ready_begin told out got (λ job. sends_on job.to ≡ sends_on c.args.to.now) 1 c.args.positions.items left c.args.senders.items c.from_vec-senders.result.items c.requires.ready first c.from_vec-senders.ensures.items;
      back = back_first told out got c.args.positions.items left c.args.senders.items c.from_vec-senders.result.items (g.D.Door.given c.args.door.now) first c.from_vec-senders.ensures.items;
      faults = refl;
      handed = refl;
    }

pub overflow_add-number : goal.overflow_add-number
overflow_add-number g c =
    let few = back_few _ _ _ _ _ _ _ _ _ _ c.loop-position.invariant.back in let all = c.requires.few in omega (arith, few, all)

pub loop-position-preserved : goal.loop-position-preserved
loop-position-preserved g c =
    let told = g.I.Incoming.told in let out = g.O.Outgoing.told in let got = (view c.args.pass.now).got in let at = c.loop-position in
    let left = into_iter_items at.position-iterator in let next = into_iter_items c.next.new.self in
    let p = c.in-Some.position in let s = c.in-Some-pop_front.sender in let job = c.in-Some-worker.worker in
    let first = c.in-Some.ensures.steps.0 in let front = c.in-Some-pop_front.ensures.items in
    let ready = ready_first told out got (λ job. sends_on job.to ≡ sends_on c.args.to.now) (at.number + 1) left at.senders.items p next s c.pop_front.new.self.items at.invariant.ready first front in
    let given = subst (λ l. HasGiven told job (items_of number (at.number + 1) l) c.settle-half.result) at.invariant.got (subst (λ j. HasGiven told j (items_of number (at.number + 1) (view at.pass).got) c.settle-half.result) c.in-Some-worker.worker-is c.settle-half.ensures.feed) in
    let is = back_of told out got (λ job. sends_on job.to ≡ sends_on c.args.to.now) (at.number + 1) p s job c.settle-half.result ready.0 c.in-Some-worker.is given in
    record {
      channel = c.settle-half.ensures.channel;
      owner = c.settle-half.ensures.owner;
      got = c.settle-half.ensures.got ∙ at.invariant.got;
      ready = ready.1;
      back = back_next told out got at.number c.args.positions.items left next c.args.senders.items at.senders.items c.pop_front.new.self.items _ (g.D.Door.given at.door) (g.D.Door.given c.give_back_halves.new.self) p s _ at.invariant.back first front is c.give_back_halves.ensures.given;
      faults = c.give_back_halves.ensures.faults ∙ at.invariant.faults;
      handed = c.give_back_halves.ensures.handed ∙ at.invariant.handed;
    }

pub returns-clause-back : goal.returns-clause-back
returns-clause-back g c =
    let at = c.loop-position in let none = at.position-iterator.rest.ok in let over = c.in-None.ensures.steps.0 in
    back_all g.I.Incoming.told g.O.Outgoing.told (view c.args.pass.now).got (λ job. sends_on job.to ≡ sends_on c.args.to.now) (at.number + 1) at.number c.args.positions.items (into_iter_items at.position-iterator) c.args.senders.items at.senders.items
    (g.D.Door.given c.args.door.now) (g.D.Door.given at.door) at.invariant.back at.invariant.ready (omega (arith, none, over))
