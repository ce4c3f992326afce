use Rattle.std.proofs.Common.{ap, ◌∙◌}
use Rattle.std.specs.List.{find}
use Rattle.sm_resumption.proofs.BindFacts.{named_of}
use Rattle.sm_resumption.proofs.RowFacts.{found_among}
use Rattle.sm_resumption.specs.Rows.{is_named, is_of, row_of}
use Rattle.sm_resumption.specs.Stored.{passes}
use Rattle.sm_resumption.proofs.table.Sessions.by_name.Goals as goal

pub returns-clause-number : goal.returns-clause-number
returns-clause-number c =
    c.first_sought.ensures ∙ ap (find (λ n. passes (is_named c.args.account c.args.resource.now) (row_of n c.args.self.now.rows))) c.of_account.ensures.numbers
    ∙ found_among c.args.self.now.next 1 (is_named c.args.account c.args.resource.now) (is_of c.args.account) (λ n. row_of n c.args.self.now.rows) c.args.self.now.rows c.of_account.ensures.table.ascending
    (λ r passed. named_of c.args.account c.args.resource.now r passed) (λ n r is. is)
