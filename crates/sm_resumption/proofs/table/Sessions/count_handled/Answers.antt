use Rattle.sm_resumption.proofs.DeliveryFacts.{handles_if}
use Rattle.sm_resumption.specs.Rows.{row_of}
use Rattle.sm_resumption.proofs.table.Sessions.count_handled.Goals as goal

pub returns-clause-handles : goal.returns-clause-handles
returns-clause-handles c = handles_if (row_of c.args.number c.args.self.now.rows)
