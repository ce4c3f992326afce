use Rattle.std.proofs.Common.{◌∷◌, ◌++◌, decimal}
use Rattle.sm_outbox.proofs.OriginIds.{after_resource, no_numbers}
use Rattle.sm_outbox.proofs.origins.read_origin.Goals as goal

pub returns-in_default-following-clause-none : goal.returns-in_default-following-clause-none
returns-in_default-following-clause-none c epoch n small fits is =
    c.in_default-following.ensures (decimal epoch ++ 46 ∷ decimal n) (after_resource c.args.resource.now c.args.id.now c.in-Some.dotted.now epoch n c.in-Some.ensures is)

pub returns-clause-none : goal.returns-clause-none
returns-clause-none c = no_numbers c.args.resource.now c.args.id.now c.in-Some.dotted.now c.in-Some-following.numbers.now c.numbers_in.result c.in-Some.ensures c.in-Some-following.ensures c.numbers_in.ensures.none
