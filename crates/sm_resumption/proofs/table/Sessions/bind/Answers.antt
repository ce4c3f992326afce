use Rattle.std.proofs.Common.{refl}
use Rattle.sm_resumption.proofs.DeliveryFacts.{begins, bound_others}
use Rattle.sm_resumption.specs.Deliveries.{OthersStand}
use Rattle.sm_resumption.specs.Moves.{fresh_row}
use Rattle.sm_resumption.proofs.BindFacts.{free_less, none_at_less, none_named_less, table_less}
use Rattle.sm_resumption.proofs.HousedFacts.{housed_push}
use Rattle.sm_resumption.specs.Housed.{IsFree, IsHoused}
use Rattle.sm_resumption.specs.Rows.{is_named, less, row_named}
use Rattle.sm_resumption.proofs.table.Sessions.bind.Goals as goal

pub push_row-number-requires-clause-conn : goal.push_row-number-requires-clause-conn
push_row-number-requires-clause-conn c =
    rw c.end_named-ended.ensures.rows
    (none_at_less c.args.conn c.args.self.now.next (row_named c.args.account c.as_str.result.now c.args.self.now.rows) c.args.self.now.rows c.end_named-ended.ensures.table c.requires.conn)

pub push_row-number-requires-clause-name : goal.push_row-number-requires-clause-name
push_row-number-requires-clause-name c =
    rw (c.end_named-ended.ensures.rows, c.as_str.ensures)
    (none_named_less c.args.account c.args.self.now.next c.args.resource c.args.self.now.rows c.end_named-ended.ensures.table)

pub returns-clause-housed : goal.returns-clause-housed
returns-clause-housed c =
    let rest = less (row_named c.args.account c.as_str.result.now c.args.self.now.rows) c.args.self.now.rows in
    let housed : IsHoused rest c.end_named-ended.new.pool = rw (← c.end_named-ended.ensures.rows) c.end_named-ended.ensures.housed in
    rw (c.push_row-number.ensures.rows, c.end_named-ended.ensures.rows, c.end_named-ended.ensures.next)
    (housed_push c.args.self.now.next c.args.account c.args.conn c.args.queue c.args.resource rest c.end_named-ended.new.pool
    (table_less c.args.self.now.next (row_named c.args.account c.as_str.result.now c.args.self.now.rows) c.args.self.now.rows c.end_named-ended.ensures.table)
    (free_less c.args.queue c.args.self.now.next (is_named c.args.account c.as_str.result.now) c.args.self.now.rows c.args.pool.now c.end_named-ended.new.pool c.end_named-ended.ensures.table c.requires.queue c.end_named-ended.ensures.pool)
    housed)

pub returns-clause-begins : goal.returns-clause-begins
returns-clause-begins c =
    let free : IsFree c.args.queue (less (row_named c.args.account c.as_str.result.now c.args.self.now.rows) c.args.self.now.rows) c.end_named-ended.new.pool =
    free_less c.args.queue c.args.self.now.next (is_named c.args.account c.as_str.result.now) c.args.self.now.rows c.args.pool.now c.end_named-ended.new.pool c.end_named-ended.ensures.table c.requires.queue c.end_named-ended.ensures.pool in
    begins (fresh_row c.args.self.now.next c.args.account c.args.resource c.args.conn c.args.queue).end _ c.end_named-ended.new.pool refl refl free

pub returns-clause-others : goal.returns-clause-others
returns-clause-others c =
    let stand : OthersStand (row_named c.args.account c.args.resource c.args.self.now.rows) c.args.self.now.rows c.end_named-ended.new.self.rows c.args.pool.now c.end_named-ended.new.pool =
    rw (← c.as_str.ensures) c.end_named-ended.ensures.others in
    rw (c.push_row-number.ensures.rows)
    (bound_others c.args.self.now.next 1 (row_named c.args.account c.args.resource c.args.self.now.rows) (fresh_row c.end_named-ended.new.self.next c.args.account c.args.resource c.args.conn c.args.queue) c.args.self.now.rows
    c.end_named-ended.new.self.rows c.args.pool.now c.end_named-ended.new.pool c.end_named-ended.ensures.table.ascending c.end_named-ended.ensures.next stand)
