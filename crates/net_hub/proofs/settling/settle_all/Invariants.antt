use Rattle.std.proofs.Common.{◌≡◌, ◌+◌, true, false}
use Rattle.crossbeam_channel.specs.Claims.{IsSeatAt, view}
use Rattle.crossbeam_channel.specs.Ends.{sends_on}
use Rattle.std.specs.Vec.Iter.{into_iter_items}
use Rattle.net_hub.proofs.settling.settle_all.Given as goal
use Rattle.net_hub.specs.Backs.{AreBackYet, AreReady}

-- those so far were given back, and those that are left are ready
abbrev pub invariant-loop-position : goal.invariant-loop-position
invariant-loop-position g l = record {
  channel : IsSeatAt (sends_on l.to) l.pass;
  owner : ((view l.pass).takes ≡ true) × ((view l.pass).sends ≡ false);
  got : (view l.pass).got ≡ (view l.fn.pass).got;
  ready : AreReady g.I.Incoming.told g.O.Outgoing.told (view l.fn.pass).got (λ job. sends_on job.to ≡ sends_on l.to) (l.number + 1) (into_iter_items l.position-iterator) l.senders.items;
  back : AreBackYet g.I.Incoming.told g.O.Outgoing.told (view l.fn.pass).got l.number l.fn.positions.items (into_iter_items l.position-iterator) l.fn.senders.items l.senders.items (g.D.Door.given l.fn.door) (g.D.Door.given l.door);
  faults : g.D.Door.faults l.door ≡ g.D.Door.faults l.fn.door;
  handed : g.D.Door.handed l.door ≡ g.D.Door.handed l.fn.door;
}
