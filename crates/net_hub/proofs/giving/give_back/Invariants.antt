use Rattle.std.proofs.Common.{◌≡◌}
use Rattle.std.specs.Vec.Iter.{into_iter_items}
use Rattle.net_hub.proofs.giving.give_back.Given as goal
use Rattle.net_hub.specs.Backs.{AreLeftYet, ArePaired}

-- the places that are left stand beside the senders that are left, and the links of the others were given back
abbrev pub invariant-loop-position : goal.invariant-loop-position
invariant-loop-position g l = record {
  paired : ArePaired (g.I.Incoming.told) (g.O.Outgoing.told) (into_iter_items l.position-iterator) l.senders.items;
  given : AreLeftYet (g.I.Incoming.told) (g.O.Outgoing.told) l.fn.positions.items (into_iter_items l.position-iterator) l.fn.senders.items l.senders.items (g.D.Door.given l.fn.door) (g.D.Door.given l.door);
  faults : g.D.Door.faults l.door ≡ g.D.Door.faults l.fn.door;
  handed : g.D.Door.handed l.door ≡ g.D.Door.handed l.fn.door;
}
