use Rattle.std.proofs.Common.{ap}
use Rattle.std.specs.Prelude.{nat_eq}
use Rattle.std.specs.HashMap as hash
use Rattle.sm_resumption.proofs.HousedFacts.{housed_attached}
use Rattle.sm_resumption.proofs.IndexFacts.{indexed_attached, indexed_as}
use Rattle.sm_resumption.specs.Indexed.{IsIndexed}
use Rattle.sm_resumption.proofs.StoredFacts.{Changed, changed_row, opened, there_is}
use Rattle.sm_resumption.proofs.TableFacts.{lawful_attached}
use Rattle.sm_resumption.specs.Moves.{attached}
use Rattle.sm_resumption.specs.Rows.{IsTable, Table}
use Rattle.sm_resumption.proofs.table.Sessions.attach_row.Goals as goal
use Rattle.sm_resumption.proofs.table.Sessions.attach_row.Goals.{After-enter}

changed : (c : After-enter) → Changed c.args.number c.self.inside.next (attached c.args.conn c.args.queue) c.in-Some.row.now (hash.get nat_eq (c.get_mut.follows.lender c.attach.new.self)) c.self.inside.numbers.items c.args.self.now.rows
changed c =
    let seen = ap (λ (t : Table). t.rows) c.self.view_is in
    let table : IsTable c.args.self.now.rows c.self.inside.next = (opened (hash.get nat_eq c.self.inside.rows) c.self.inside.numbers.items c.self.inside.next c.args.self.now.rows seen c.self.invariant.0).table in
    changed_row c.args.number c.self.inside.next (attached c.args.conn c.args.queue) c.in-Some.row.now c.attach.new.self (hash.get nat_eq c.self.inside.rows) (hash.get nat_eq (c.get_mut.follows.lender c.attach.new.self)) c.self.inside.numbers.items c.args.self.now.rows
    seen c.self.invariant.0 c.in-Some.ensures.value (((c.get_mut.follows.holds c.attach.new.self).3 (there_is c.in-Some.row.now _ c.in-Some.ensures.value)).0) c.attach.ensures.row (lawful_attached c.args.number c.args.conn c.args.queue c.args.self.now.rows c.requires.conn)

pub invariant_of-self : goal.invariant_of-self
invariant_of-self c =
    let seen = ap (λ (t : Table). t.rows) c.self.view_is in
    let table : IsTable c.args.self.now.rows c.self.inside.next = (opened (hash.get nat_eq c.self.inside.rows) c.self.inside.numbers.items c.self.inside.next c.args.self.now.rows seen c.self.invariant.0).table in
    let indexed : IsIndexed c.self.inside.index c.args.self.now.rows = indexed_as c.self.inside.index _ c.args.self.now.rows seen c.self.invariant.1 in
    ((changed c).kept, rw (changed c).written (indexed_attached c.args.number c.self.inside.next c.args.conn c.args.queue c.in-Some.row.now c.self.inside.index c.forget.new.self c.enter.new.self c.args.self.now.rows table (changed c).found c.requires.conn c.forget.ensures.conns c.forget.ensures.waits c.forget.ensures.whole c.forget.ensures.sessions_by_account c.enter.ensures.here c.enter.ensures.conns c.enter.ensures.waits c.enter.ensures.whole c.enter.ensures.sessions_by_account indexed))

pub returns-clause-rows : goal.returns-clause-rows
returns-clause-rows c = (changed c).written

pub returns-clause-pool : goal.returns-clause-pool
returns-clause-pool c = rw (changed c).found c.attach.ensures.pool

pub returns-clause-housed : goal.returns-clause-housed
returns-clause-housed c =
    rw (changed c).written
    (housed_attached c.args.number c.args.conn c.args.queue c.in-Some.row.now c.args.self.now.rows c.args.pool.now c.attach.new.pool (changed c).found c.requires.queue c.attach.ensures.pool c.requires.housed)
