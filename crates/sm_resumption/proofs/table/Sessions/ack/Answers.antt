use Rattle.std.proofs.Common.{ap, refl, ◌∙◌}
use Rattle.std.specs.Prelude.{nat_eq}
use Rattle.std.specs.HashMap as hash
use Rattle.sm_resumption.proofs.DeliveryFacts.{acknowledged_others, others_of_queue, others_stand, sender_acknowledged, tried_others}
use Rattle.sm_resumption.proofs.HousedFacts.{housed_tried}
use Rattle.sm_resumption.proofs.IndexFacts.{indexed_as, indexed_tried}
use Rattle.sm_resumption.specs.Indexed.{IsIndexed}
use Rattle.sm_resumption.proofs.StoredFacts.{Tried, opened, there_is, tried_row}
use Rattle.sm_resumption.proofs.RowFacts.{keeps_acknowledged}
use Rattle.sm_resumption.proofs.TableFacts.{lawful_kept}
use Rattle.sm_resumption.specs.Moves.{acknowledged}
use Rattle.sm_resumption.specs.Rows.{IsTable, Table}
use Rattle.sm_resumption.proofs.table.Sessions.ack.Goals as goal
use Rattle.sm_resumption.proofs.table.Sessions.ack.Goals.{After-self-in-Some-1}

tried : (c : After-self-in-Some-1) → Tried c.ack.result c.args.number c.self.inside.next (acknowledged c.args.h) c.in-Some.row.now (hash.get nat_eq (c.get_mut.follows.lender c.ack.new.self)) c.self.inside.numbers.items c.args.self.now.rows
tried c =
    let seen = ap (λ (t : Table). t.rows) c.self.view_is in
    let table : IsTable c.args.self.now.rows c.self.inside.next = (opened (hash.get nat_eq c.self.inside.rows) c.self.inside.numbers.items c.self.inside.next c.args.self.now.rows seen c.self.invariant.0).table in
    tried_row c.ack.result c.args.number c.self.inside.next (acknowledged c.args.h) c.in-Some.row.now c.ack.new.self (hash.get nat_eq c.self.inside.rows) (hash.get nat_eq (c.get_mut.follows.lender c.ack.new.self)) c.self.inside.numbers.items c.args.self.now.rows
    seen c.self.invariant.0 c.in-Some.ensures.value (((c.get_mut.follows.holds c.ack.new.self).3 (there_is c.in-Some.row.now _ c.in-Some.ensures.value)).0) c.ack.ensures.ok c.ack.ensures.err
    (lawful_kept c.args.number c.self.inside.next (acknowledged c.args.h) c.args.self.now.rows table (keeps_acknowledged c.args.h))

pub invariant_of-self : goal.invariant_of-self
invariant_of-self c =
    let seen = ap (λ (t : Table). t.rows) c.self.view_is in
    let indexed : IsIndexed c.self.inside.index c.args.self.now.rows = indexed_as c.self.inside.index _ c.args.self.now.rows seen c.self.invariant.1 in
    ((tried c).kept, indexed_tried c.ack.result c.args.number c.self.inside.next (acknowledged c.args.h) c.in-Some.row.now c.self.inside.index (hash.get nat_eq (c.get_mut.follows.lender c.ack.new.self)) c.self.inside.numbers.items c.args.self.now.rows (keeps_acknowledged c.args.h) (tried c) indexed)

pub returns-clause-answer : goal.returns-clause-answer
returns-clause-answer c = rw (tried c).found c.ack.ensures.answer

pub returns-clause-ok : goal.returns-clause-ok
returns-clause-ok c = (tried c).ok

pub returns-clause-err : goal.returns-clause-err
returns-clause-err c = (tried c).err

pub returns-clause-pool : goal.returns-clause-pool
returns-clause-pool c = rw (tried c).found c.ack.ensures.pool

pub returns-clause-housed : goal.returns-clause-housed
returns-clause-housed c =
    housed_tried c.ack.result c.args.h c.args.number c.self.inside.next c.in-Some.row.now (hash.get nat_eq (c.get_mut.follows.lender c.ack.new.self)) c.self.inside.numbers.items c.args.self.now.rows c.args.pool.now c.ack.new.pool
    (tried c) c.ack.ensures.pool c.requires.housed

pub returns-clause-acknowledges : goal.returns-clause-acknowledges
returns-clause-acknowledges c =
    rw (tried c).found
    (λ n d next reached sender move is.
    let after = sender_acknowledged c.args.h n c.in-Some.row.now c.args.pool.now c.ack.new.pool d next (c.requires.housed.few c.args.number c.in-Some.row.now (tried c).found) c.ack.ensures.pool reached sender move is in
    (c.ack.ensures.answer ∙ after.0, after.1))

pub returns-clause-exact : goal.returns-clause-exact
returns-clause-exact c = rw (tried c).found c.ack.ensures.exact

pub returns-clause-others : goal.returns-clause-others
returns-clause-others c =
    rw (tried c).found
    (others_stand c.args.number c.in-Some.row.now c.args.self.now.rows _ c.args.pool.now c.ack.new.pool (tried c).found
    (tried_others c.ack.result c.args.number c.self.inside.next (acknowledged c.args.h) c.in-Some.row.now (hash.get nat_eq (c.get_mut.follows.lender c.ack.new.self)) c.self.inside.numbers.items c.args.self.now.rows (record { same = λ r. refl }) (tried c))
    (others_of_queue c.args.number c.in-Some.row.now c.args.self.now.rows c.args.pool.now c.ack.new.pool (tried c).found c.requires.housed (acknowledged_others c.args.h c.in-Some.row.now c.args.pool.now c.ack.new.pool c.ack.ensures.pool)))
