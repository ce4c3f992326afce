use Rattle.std.proofs.Common.{ap, ◌∙◌}
use Rattle.std.specs.Prelude.{is_some, nat_lt}
use Rattle.std.specs.List.{find}
use Rattle.std.proofs.lemmas.List.{take_rest}
use Rattle.sm_resumption.proofs.StoredFacts.{climbs_pair, first_from}
use Rattle.sm_resumption.specs.Rows.{row_of}
use Rattle.sm_resumption.proofs.table.Sessions.next_after.Goals as goal

pub above-requires : goal.above-requires
above-requires c = climbs_pair c.args.self.now.next 1 c.listed-numbers.result.now c.listed-numbers.ensures.climbing

pub returns-clause-number : goal.returns-clause-number
returns-clause-number c =
    c.first_living.ensures
    ∙ ap (find (λ n. is_some (row_of n c.args.self.now.rows))) (take_rest c.listed-numbers.result.now c.above.result)
    ∙ first_from c.args.number (λ n. is_some (row_of n c.args.self.now.rows)) c.listed-numbers.result.now c.above.result c.above.ensures.bound (λ k below. c.above.ensures.low k 0 below) (λ k after within. c.above.ensures.high k 0 after within)
    ∙ ap (find (λ n. nat_lt c.args.number n)) c.listed-numbers.ensures.all
