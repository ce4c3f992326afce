use Rattle.std.proofs.Common.{ap}
use Rattle.std.specs.Prelude.{nat_eq}
use Rattle.std.specs.HashMap as hash
use Rattle.sm_resumption.proofs.IndexFacts.{indexed_parked, indexed_as, indexed_swept}
use Rattle.sm_resumption.specs.Indexed.{IsIndexed}
use Rattle.sm_resumption.proofs.StoredFacts.{Changed, changed_row, opened, there_is}
use Rattle.sm_resumption.proofs.TableFacts.{lawful_parked}
use Rattle.sm_resumption.specs.Moves.{parked}
use Rattle.sm_resumption.specs.Rows.{IsTable, Table}
use Rattle.sm_resumption.proofs.table.Sessions.park_row.Goals as goal
use Rattle.sm_resumption.proofs.table.Sessions.park_row.Goals.{After-wait}

changed : (c : After-wait) → Changed c.args.number c.self.inside.next (parked c.args.now) c.in-Some.row.now (hash.get nat_eq (c.get_mut.follows.lender c.park.new.self)) c.self.inside.numbers.items c.args.self.now.rows
changed c =
    let seen = ap (λ (t : Table). t.rows) c.self.view_is in
    let table : IsTable c.args.self.now.rows c.self.inside.next = (opened (hash.get nat_eq c.self.inside.rows) c.self.inside.numbers.items c.self.inside.next c.args.self.now.rows seen c.self.invariant.0).table in
    changed_row c.args.number c.self.inside.next (parked c.args.now) c.in-Some.row.now c.park.new.self (hash.get nat_eq c.self.inside.rows) (hash.get nat_eq (c.get_mut.follows.lender c.park.new.self)) c.self.inside.numbers.items c.args.self.now.rows
    seen c.self.invariant.0 c.in-Some.ensures.value (((c.get_mut.follows.holds c.park.new.self).3 (there_is c.in-Some.row.now _ c.in-Some.ensures.value)).0) c.park.ensures (lawful_parked c.args.number c.self.inside.next c.args.now c.args.self.now.rows table)

pub invariant_of-self : goal.invariant_of-self
invariant_of-self c =
    let seen = ap (λ (t : Table). t.rows) c.self.view_is in
    let table : IsTable c.args.self.now.rows c.self.inside.next = (opened (hash.get nat_eq c.self.inside.rows) c.self.inside.numbers.items c.self.inside.next c.args.self.now.rows seen c.self.invariant.0).table in
    let stored = opened (hash.get nat_eq c.self.inside.rows) c.self.inside.numbers.items c.self.inside.next c.args.self.now.rows seen c.self.invariant.0 in
    let indexed : IsIndexed c.sweep.new.self c.args.self.now.rows = indexed_swept c.self.inside.index c.sweep.new.self (hash.get nat_eq c.self.inside.rows) c.args.self.now.rows stored.found c.sweep.ensures.conns c.sweep.ensures.waits c.sweep.ensures.whole c.sweep.ensures.sessions_by_account c.sweep.ensures.ordered
    (indexed_as c.self.inside.index _ c.args.self.now.rows seen c.self.invariant.1) in
    ((changed c).kept, rw (changed c).written (indexed_parked c.args.number c.self.inside.next c.args.now c.in-Some.row.now c.sweep.new.self c.forget.new.self c.wait.new.self c.args.self.now.rows table (changed c).found c.forget.ensures.conns c.forget.ensures.waits c.forget.ensures.whole c.forget.ensures.sessions_by_account c.wait.ensures.conns c.wait.ensures.here c.wait.ensures.waits c.wait.ensures.whole c.wait.ensures.sessions_by_account c.wait.ensures.ordered indexed))

pub returns-clause-rows : goal.returns-clause-rows
returns-clause-rows c = (changed c).written
