use Rattle.std.proofs.Common.{ap, ◌∙◌}
use Rattle.std.specs.Prelude.{nat_eq}
use Rattle.std.specs.HashMap as hash
use Rattle.sm_resumption.proofs.DeliveryFacts.{others_of_queue, others_stand, sender_put}
use Rattle.sm_resumption.proofs.HousedFacts.{housed_joined}
use Rattle.sm_resumption.proofs.IndexFacts.{indexed_kept, indexed_as}
use Rattle.sm_resumption.specs.Indexed.{IsIndexed}
use Rattle.sm_resumption.proofs.StoredFacts.{Changed, changed_row, opened, there_is}
use Rattle.sm_resumption.proofs.TableFacts.{lawful_kept}
use Rattle.sm_resumption.proofs.RowFacts.{keeps_all, with_row_id}
use Rattle.sm_resumption.specs.Rows.{IsTable, Table, row_of}
use Rattle.sm_resumption.proofs.table.Sessions.put_reserved.Goals as goal
use Rattle.sm_resumption.proofs.table.Sessions.put_reserved.Goals.{After-self-in-Some-1}

changed : (c : After-self-in-Some-1) → Changed c.args.number c.self.inside.next (λ r. r) c.in-Some.row.now (hash.get nat_eq (c.get_mut.follows.lender c.put.new.self)) c.self.inside.numbers.items c.args.self.now.rows
changed c =
    let seen = ap (λ (t : Table). t.rows) c.self.view_is in
    let table : IsTable c.args.self.now.rows c.self.inside.next = (opened (hash.get nat_eq c.self.inside.rows) c.self.inside.numbers.items c.self.inside.next c.args.self.now.rows seen c.self.invariant.0).table in
    changed_row c.args.number c.self.inside.next (λ r. r) c.in-Some.row.now c.put.new.self (hash.get nat_eq c.self.inside.rows) (hash.get nat_eq (c.get_mut.follows.lender c.put.new.self)) c.self.inside.numbers.items c.args.self.now.rows
    seen c.self.invariant.0 c.in-Some.ensures.value (((c.get_mut.follows.holds c.put.new.self).3 (there_is c.in-Some.row.now _ c.in-Some.ensures.value)).0) c.put.ensures.row (lawful_kept c.args.number c.self.inside.next (λ r. r) c.args.self.now.rows table keeps_all)

pub invariant_of-self : goal.invariant_of-self
invariant_of-self c =
    let seen = ap (λ (t : Table). t.rows) c.self.view_is in
    let table : IsTable c.args.self.now.rows c.self.inside.next = (opened (hash.get nat_eq c.self.inside.rows) c.self.inside.numbers.items c.self.inside.next c.args.self.now.rows seen c.self.invariant.0).table in
    let indexed : IsIndexed c.self.inside.index c.args.self.now.rows = indexed_as c.self.inside.index _ c.args.self.now.rows seen c.self.invariant.1 in
    ((changed c).kept, rw (changed c).written (indexed_kept c.args.number (λ r. r) c.in-Some.row.now c.self.inside.index c.args.self.now.rows keeps_all (changed c).found indexed))

pub returns-clause-rows : goal.returns-clause-rows
returns-clause-rows c = (changed c).written ∙ with_row_id c.args.number c.args.self.now.rows

pub returns-clause-housed : goal.returns-clause-housed
returns-clause-housed c =
    rw ((changed c).written, with_row_id)
    (housed_joined c.args.number c.args.bytes.items c.in-Some.row.now c.args.self.now.rows c.args.pool.now c.put.new.pool (changed c).found (rw (changed c).found at c.requires.few) c.put.ensures.pool c.requires.housed)

pub returns-clause-puts : goal.returns-clause-puts
returns-clause-puts c =
    rw (changed c).found (λ d next sender move. sender_put c.args.bytes.items c.in-Some.row.now c.args.pool.now c.put.new.pool d next c.put.ensures.pool sender move)

pub returns-clause-others : goal.returns-clause-others
returns-clause-others c =
    rw (changed c).found
    (others_stand c.args.number c.in-Some.row.now c.args.self.now.rows _ c.args.pool.now c.put.new.pool (changed c).found (λ m other. ap (row_of m) ((changed c).written ∙ with_row_id c.args.number c.args.self.now.rows))
    (others_of_queue c.args.number c.in-Some.row.now c.args.self.now.rows c.args.pool.now c.put.new.pool (changed c).found c.requires.housed c.put.ensures.pool.others))
