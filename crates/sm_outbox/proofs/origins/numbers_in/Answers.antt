use Rattle.sm_outbox.proofs.OriginIds.{numbers_split}
use Rattle.sm_outbox.proofs.origins.numbers_in.Goals as goal

pub returns-in_default-clause-none : goal.returns-in_default-clause-none
returns-in_default-clause-none c epoch n small fits is = rw c.in_default.is at (numbers_split c.args.text.now c.split_once.result epoch n c.split_once.ensures.cases small is)

pub returns-in_default-number_in-clause-none : goal.returns-in_default-number_in-clause-none
returns-in_default-number_in-clause-none c epoch n small fits is =
    let parts = rw c.in-Some.is at (numbers_split c.args.text.now c.split_once.result epoch n c.split_once.ensures.cases small is) in
    c.in_default-number_in.ensures.none epoch small parts.0

pub returns-in_default-number_in-2-clause-none : goal.returns-in_default-number_in-2-clause-none
returns-in_default-number_in-2-clause-none c epoch n small fits is =
    let parts = rw c.in-Some.is at (numbers_split c.args.text.now c.split_once.result epoch n c.split_once.ensures.cases small is) in
    c.in_default-number_in-2.ensures.none n fits parts.1
