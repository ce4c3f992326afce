use Rattle.std.proofs.Common.{◌≡◌, refl}
use Rattle.sm_resumption.proofs.DeliveryFacts.{none_mapped, others_of_none}
use Rattle.sm_resumption.proofs.RowFacts.{same_row}
use Rattle.sm_resumption.specs.Moves.{number_of}
use Rattle.sm_resumption.specs.Rows.{is_named, row_named, row_of}
use Rattle.sm_resumption.proofs.table.Sessions.end_named.Goals as goal

pub returns-in-Some-clause-ended : goal.returns-in-Some-clause-ended
returns-in-Some-clause-ended c =
    let same : row_of c.in-Some.number c.args.self.now.rows ≡ row_named c.args.account c.args.resource.now c.args.self.now.rows =
    same_row c.args.self.now.next 1 c.in-Some.number (is_named c.args.account c.args.resource.now) c.args.self.now.rows c.in-Some.ensures.table.ascending c.in-Some.ensures.number in
    rw (← same) c.end.ensures.ended

pub returns-in-Some-clause-pool : goal.returns-in-Some-clause-pool
returns-in-Some-clause-pool c =
    let same : row_of c.in-Some.number c.args.self.now.rows ≡ row_named c.args.account c.args.resource.now c.args.self.now.rows =
    same_row c.args.self.now.next 1 c.in-Some.number (is_named c.args.account c.args.resource.now) c.args.self.now.rows c.in-Some.ensures.table.ascending c.in-Some.ensures.number in
    rw (← same) c.end.ensures.pool

pub returns-in-Some-clause-others : goal.returns-in-Some-clause-others
returns-in-Some-clause-others c =
    let same : row_of c.in-Some.number c.args.self.now.rows ≡ row_named c.args.account c.args.resource.now c.args.self.now.rows =
    same_row c.args.self.now.next 1 c.in-Some.number (is_named c.args.account c.args.resource.now) c.args.self.now.rows c.in-Some.ensures.table.ascending c.in-Some.ensures.number in
    rw (← same) c.end.ensures.others

pub returns-in-None-clause-others : goal.returns-in-None-clause-others
returns-in-None-clause-others c =
    rw (none_mapped number_of (row_named c.args.account c.args.resource.now c.args.self.now.rows) c.in-None.ensures.number) (others_of_none c.args.self.now.rows c.args.self.now.rows c.args.pool.now c.args.pool.now refl (record { each = λ q. refl }))
