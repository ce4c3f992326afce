use Rattle.std.proofs.Common.{◌+◌, ◌-◌, ◌^◌, ◌<◌, [], ◌∷◌, ◌++◌, ap, arith}
use Rattle.std.specs.Prelude.{nat_eq}
use Rattle.std.specs.HashMap as hash
use Rattle.sm_resumption.proofs.IndexFacts.{indexed_as, indexed_pushed}
use Rattle.sm_resumption.specs.Indexed.{IsIndexed}
use Rattle.sm_resumption.proofs.StoredFacts.{ShownAs, opened, pushed_row}
use Rattle.sm_resumption.specs.Moves.{fresh_row}
use Rattle.sm_resumption.specs.Rows.{IsTable, Table}
use Rattle.sm_resumption.specs.Stored.{IsStored}
use Rattle.sm_resumption.proofs.table.Sessions.push_row.Goals as goal
use Rattle.sm_resumption.proofs.table.Sessions.push_row.Goals.{After-self-1}

pushed : (c : After-self-1) → ShownAs (hash.get nat_eq c.insert.new.self) c.push.new.self.items (c.self.inside.next + 1) (c.args.self.now.rows ++ fresh_row c.self.inside.next c.args.account c.args.resource c.args.conn c.args.queue ∷ [])
pushed c =
    let seen = ap (λ (t : Table). t.rows) c.self.view_is in
    let next = ap (λ (t : Table). t.next) c.self.view_is in
    let low : c.self.inside.next < 2 ^ 64 - 1 = omega arith in
    let stored : IsStored (hash.get nat_eq c.self.inside.rows) c.self.inside.numbers.items c.self.inside.next c.args.self.now.rows = opened (hash.get nat_eq c.self.inside.rows) c.self.inside.numbers.items c.self.inside.next c.args.self.now.rows seen c.self.invariant.0 in
    let updates = rw (c.fresh-shown.ensures, c.new.ensures) at c.in-Ok-insert.ensures.updates.0 in
    rw c.in-Ok.ensures.items
    (pushed_row c.self.inside.next c.args.account c.args.conn c.args.queue c.args.resource (hash.get nat_eq c.self.inside.rows) (hash.get nat_eq c.insert.new.self) c.self.inside.numbers.items c.args.self.now.rows
    stored low c.requires.conn c.requires.name updates)

pub invariant_of-self : goal.invariant_of-self
invariant_of-self c =
    let seen = ap (λ (t : Table). t.rows) c.self.view_is in
    let table : IsTable c.args.self.now.rows c.self.inside.next = (opened (hash.get nat_eq c.self.inside.rows) c.self.inside.numbers.items c.self.inside.next c.args.self.now.rows seen c.self.invariant.0).table in
    let indexed : IsIndexed c.self.inside.index c.args.self.now.rows = indexed_as c.self.inside.index _ c.args.self.now.rows seen c.self.invariant.1 in (
      (pushed c).kept,
      rw (pushed c).shown
          (indexed_pushed c.self.inside.next c.args.account c.args.conn c.args.queue c.args.resource c.self.inside.index c.enter.new.self c.reservation.new.self c.args.self.now.rows table c.requires.conn
          c.enter.ensures.here c.enter.ensures.conns c.enter.ensures.waits c.enter.ensures.whole c.enter.ensures.sessions_by_account c.reservation.ensures.here c.reservation.ensures.others c.reservation.ensures.conns c.reservation.ensures.waits c.reservation.ensures.whole indexed),
    )

pub returns-clause-rows : goal.returns-clause-rows
returns-clause-rows c = let next = ap (λ (t : Table). t.next) c.self.view_is in rw (← next) (pushed c).shown
