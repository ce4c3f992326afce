use Rattle.cl_intents.proofs.Ids.{by_numbers, no_dot, no_origin}
use Rattle.cl_intents.proofs.log_entries.is_origin.Goals as goal

pub returns-in_default : goal.returns-in_default
returns-in_default c = no_origin c.args.resource.now c.args.epoch c.args.n c.args.id.now c.in_default.ensures

pub returns-in_default-following : goal.returns-in_default-following
returns-in_default-following c = no_dot c.args.resource.now c.args.epoch c.args.n c.args.id.now c.in-Some.dotted.now c.in-Some.ensures c.in_default-following.ensures

pub returns : goal.returns
returns c =
    by_numbers c.args.resource.now c.args.epoch c.args.n c.args.id.now c.in-Some.dotted.now c.in-Some-following.numbers.now c.are_numbers.result c.in-Some.ensures c.in-Some-following.ensures c.are_numbers.ensures
