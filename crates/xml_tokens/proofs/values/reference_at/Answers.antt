use Rattle.std.proofs.Common.{inl, inr}
use Rattle.xml_tokens.proofs.ValueRuns.{reference_says, reference_open, reference_fails, reference_shorter}
use Rattle.xml_tokens.proofs.values.reference_at.Goals as goal

pub returns-in_err-rest-clause-none : goal.returns-in_err-rest-clause-none
returns-in_err-rest-clause-none c =
    rw c.from_residual.ensures (reference_open c.args.after.now c.split_until.result.1.now c.split_until.ensures.following c.in_err-rest.ensures.cases)

pub returns-in-Character-clause-found : goal.returns-in-Character-clause-found
returns-in-Character-clause-found c =
    reference_says c.args.after.now c.split_until.result.0.now c.split_until.result.1.now c.in_ok-rest.rest.now _ c.in-Character.c c.split_until.ensures.front c.split_until.ensures.following c.in_ok-rest.ensures.cases.0 c.in-Character.ensures

pub returns-in-Character-clause-shorter : goal.returns-in-Character-clause-shorter
returns-in-Character-clause-shorter c =
    reference_shorter c.args.after.now _ c.in_ok-rest.rest.now _ c.split_until.ensures.following c.in_ok-rest.ensures.cases.0

pub returns-in-Unknown-clause-none : goal.returns-in-Unknown-clause-none
returns-in-Unknown-clause-none c =
    reference_fails c.args.after.now c.split_until.result.0.now c.split_until.result.1.now c.in_ok-rest.rest.now _ c.referred.result c.split_until.ensures.front c.split_until.ensures.following c.in_ok-rest.ensures.cases.0 c.referred.ensures (inl c.in-Unknown.is)

pub returns-in-Malformed-clause-none : goal.returns-in-Malformed-clause-none
returns-in-Malformed-clause-none c =
    reference_fails c.args.after.now c.split_until.result.0.now c.split_until.result.1.now c.in_ok-rest.rest.now _ c.referred.result c.split_until.ensures.front c.split_until.ensures.following c.in_ok-rest.ensures.cases.0 c.referred.ensures (inr c.in-Malformed.is)
