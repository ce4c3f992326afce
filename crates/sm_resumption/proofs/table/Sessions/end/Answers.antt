use Rattle.std.proofs.Common.{refl, sym}
use Rattle.sm_resumption.proofs.BindFacts.{housed_end}
use Rattle.sm_resumption.proofs.DeliveryFacts.{ended_others}
use Rattle.sm_resumption.specs.Housed.{IsGone}
use Rattle.sm_resumption.specs.Rows.{row_of}
use Rattle.sm_resumption.proofs.table.Sessions.end.Goals as goal

pub returns-in_err-row-clause-housed : goal.returns-in_err-row-clause-housed
returns-in_err-row-clause-housed c =
    rw c.in_err-row.ensures.rows
    (housed_end c.args.number _ c.args.self.now.rows c.args.pool.now c.args.pool.now (sym c.in_err-row.ensures.row) (record { each = λ q. refl }) c.requires)

pub returns-clause-housed : goal.returns-clause-housed
returns-clause-housed c =
    let gone : IsGone c.in_ok-row.row.end.queue c.args.pool.now c.drop_queue.new.self =
    rw (← c.queue.ensures) (record { gone = c.drop_queue.ensures.queue; others = c.drop_queue.ensures.others }) in
    rw c.in_ok-row.ensures.rows
    (housed_end c.args.number _ c.args.self.now.rows c.args.pool.now c.drop_queue.new.self (sym c.in_ok-row.ensures.row) gone c.requires)

pub returns-in_err-row-clause-others : goal.returns-in_err-row-clause-others
returns-in_err-row-clause-others c =
    rw c.in_err-row.ensures.rows
    (ended_others c.args.number (row_of c.args.number c.args.self.now.rows) c.args.self.now.rows c.args.pool.now c.args.pool.now refl c.requires (rw (← c.in_err-row.ensures.row) (record { each = λ q. refl })))

pub returns-clause-others : goal.returns-clause-others
returns-clause-others c =
    let gone : IsGone c.in_ok-row.row.end.queue c.args.pool.now c.drop_queue.new.self =
    rw (← c.queue.ensures) (record { gone = c.drop_queue.ensures.queue; others = c.drop_queue.ensures.others }) in
    rw c.in_ok-row.ensures.rows
    (ended_others c.args.number (row_of c.args.number c.args.self.now.rows) c.args.self.now.rows c.args.pool.now c.drop_queue.new.self refl c.requires (rw (← c.in_ok-row.ensures.row) gone))
