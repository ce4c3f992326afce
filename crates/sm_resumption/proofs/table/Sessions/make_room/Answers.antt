use Rattle.std.specs.Prelude.{nat_eq}
use Rattle.std.specs.HashMap as hash
use Rattle.sm_resumption.proofs.IndexFacts.{indexed_mended, indexed_same}
use Rattle.sm_resumption.specs.Indexed.{IsIndexed}
use Rattle.sm_resumption.specs.Stored.{IsStored, collected}
use Rattle.sm_resumption.proofs.StoredFacts.{same_collected, same_kept}
use Rattle.sm_resumption.proofs.table.Sessions.make_room.Goals as goal

pub invariant_of-self-in_err-reserve-2 : goal.invariant_of-self-in_err-reserve-2
invariant_of-self-in_err-reserve-2 c =
    rw c.reserve.ensures.items (
      same_kept (hash.get nat_eq c.self.inside.rows) (hash.get nat_eq c.reserve-2.new.self) c.self.inside.numbers.items c.self.inside.next c.reserve-2.ensures.entries.2 c.self.invariant.0,
      rw (same_collected (hash.get nat_eq c.self.inside.rows) (hash.get nat_eq c.reserve-2.new.self) c.self.inside.numbers.items c.reserve-2.ensures.entries.2) c.self.invariant.1,
    )

pub invariant_of-self-else-not-self : goal.invariant_of-self-else-not-self
invariant_of-self-else-not-self c =
    rw c.reserve.ensures.items (
      same_kept (hash.get nat_eq c.self.inside.rows) (hash.get nat_eq c.reserve-2.new.self) c.self.inside.numbers.items c.self.inside.next c.reserve-2.ensures.entries.2 c.self.invariant.0,
      rw (same_collected (hash.get nat_eq c.self.inside.rows) (hash.get nat_eq c.reserve-2.new.self) c.self.inside.numbers.items c.reserve-2.ensures.entries.2)
          (indexed_same c.self.inside.index c.reserve-3.new.self _ c.reserve-3.ensures.conns c.reserve-3.ensures.waits c.reserve-3.ensures.whole c.reserve-3.ensures.sessions_by_account c.self.invariant.1),
    )

pub invariant_of-self-in_err-reserve-3 : goal.invariant_of-self-in_err-reserve-3
invariant_of-self-in_err-reserve-3 c =
    rw c.reserve.ensures.items (
      same_kept (hash.get nat_eq c.self.inside.rows) (hash.get nat_eq c.reserve-2.new.self) c.self.inside.numbers.items c.self.inside.next c.reserve-2.ensures.entries.2 c.self.invariant.0,
      rw (same_collected (hash.get nat_eq c.self.inside.rows) (hash.get nat_eq c.reserve-2.new.self) c.self.inside.numbers.items c.reserve-2.ensures.entries.2)
          (indexed_same c.self.inside.index c.reserve-3.new.self _ c.reserve-3.ensures.conns c.reserve-3.ensures.waits c.reserve-3.ensures.whole c.reserve-3.ensures.sessions_by_account c.self.invariant.1),
    )

pub invariant_of-self-then-not-self : goal.invariant_of-self-then-not-self
invariant_of-self-then-not-self c =
    let same = c.reserve-2.ensures.entries.2 in
    let kept : IsStored (hash.get nat_eq c.reserve-2.new.self) c.self.inside.numbers.items c.self.inside.next (collected (hash.get nat_eq c.reserve-2.new.self) c.self.inside.numbers.items) = same_kept (hash.get nat_eq c.self.inside.rows) (hash.get nat_eq c.reserve-2.new.self) c.self.inside.numbers.items c.self.inside.next same c.self.invariant.0 in
    let indexed : IsIndexed c.reserve-3.new.self (collected (hash.get nat_eq c.reserve-2.new.self) c.self.inside.numbers.items) =
    rw (same_collected (hash.get nat_eq c.self.inside.rows) (hash.get nat_eq c.reserve-2.new.self) c.self.inside.numbers.items same)
    (indexed_same c.self.inside.index c.reserve-3.new.self _ c.reserve-3.ensures.conns c.reserve-3.ensures.waits c.reserve-3.ensures.whole c.reserve-3.ensures.sessions_by_account c.self.invariant.1) in
    rw c.reserve.ensures.items (
      kept,
      indexed_mended c.self.inside.next c.reserve-3.new.self c.mend.new.self c.self.inside.numbers.items (hash.get nat_eq c.reserve-2.new.self) (collected (hash.get nat_eq c.reserve-2.new.self) c.self.inside.numbers.items)
          kept.listed kept.found (rw (c.deref.ensures.value, c.reserve.ensures.items) at c.mend.ensures.placed) c.mend.ensures.sessions_by_account c.mend.ensures.ordered indexed,
    )
