use Rattle.std.proofs.Common.{arith}
use Rattle.std.proofs.lemmas.Option.{IfSome_then}
use Rattle.std.proofs.lemmas.Result.{IfOk-weaker}
use Rattle.base_lemmas.proofs.Options.{IfNone_then}
use Rattle.xml_tokens.proofs.ValueRuns.{after_plain, plain_taken, special_fails, special_first, special_within}
use Rattle.xml_tokens.proofs.values.take_bytes.Goals as goal

pub take_special-requires : goal.take_special-requires
take_special-requires c =
    special_first c.split_plain.result.1.now c.in-Some.after.now c.args.rest.now _ c.split_plain.ensures.following c.in-Some.ensures.cases.0

pub returns-in-Some-clause-left : goal.returns-in-Some-clause-left
returns-in-Some-clause-left c =
    let whole = plain_taken c.extend_from_slice.new.self.items c.args.value.now.items c.split_plain.result.0.now c.split_plain.result.1.now c.args.rest.now
    c.split_plain.ensures.front c.split_plain.ensures.following c.in_ok-extend_from_slice.ensures.items in
    IfOk-weaker c.take_special.result _ _
    (λ o some. IfSome_then o some (λ left e. after_plain _ _ c.extend_from_slice.new.self.items c.split_plain.result.1.now _ c.in-Some.ensures.cases.0 e whole))
    c.take_special.ensures.left

pub returns-in-Some-clause-shorter : goal.returns-in-Some-clause-shorter
returns-in-Some-clause-shorter c =
    let within = special_within c.split_plain.result.1.now c.in-Some.after.now c.args.rest.now _ c.split_plain.ensures.following c.in-Some.ensures.cases.0 in
    IfOk-weaker c.take_special.result _ _ (λ o some. IfSome_then o some (λ left e. omega (arith, within, e))) c.take_special.ensures.shorter

pub returns-in-Some-clause-nothing : goal.returns-in-Some-clause-nothing
returns-in-Some-clause-nothing c =
    IfOk-weaker c.take_special.result _ _
    (λ o none. IfNone_then o none (λ fails. special_fails c.split_plain.result.1.now c.args.rest.now c.split_plain.ensures.following (rw c.in-Some.ensures.cases.0 fails)))
    c.take_special.ensures.nothing

pub returns-in-None-clause-left : goal.returns-in-None-clause-left
returns-in-None-clause-left c =
    plain_taken c.extend_from_slice.new.self.items c.args.value.now.items c.split_plain.result.0.now c.split_plain.result.1.now c.args.rest.now
    c.split_plain.ensures.front c.split_plain.ensures.following c.in_ok-extend_from_slice.ensures.items
