use Rattle.std.proofs.Common.{◌∙◌, ◌-◌, ◌^◌}
use Rattle.xml_tokens.specs.Spelling.{written_byte, is_plain_as}
use Rattle.xml_tokens.proofs.SpellingRuns.{plain_is, escaped_is, needs, needs_escape, len_escaped, len_plain, shorter_escaped}
use Rattle.xml_tokens.proofs.spelling.count_run.Goals as goal

pub escape-requires : goal.escape-requires
escape-requires c =
    needs c.args.form c.in-Some.b.now (needs_escape (written_byte c.args.form) (is_plain_as c.args.form) (plain_is c.args.form) c.split_plain_as.result.1.now c.args.rest.now c.in-Some.left.now c.in-Some.b.now c.split_plain_as.ensures.following c.in-Some.ensures.cases.0)

pub returns-in-Some-clause-len : goal.returns-in-Some-clause-len
returns-in-Some-clause-len c =
    len_escaped (written_byte c.args.form) (is_plain_as c.args.form) (plain_is c.args.form) c.split_plain_as.result.0.now c.split_plain_as.result.1.now c.args.rest.now c.in-Some.left.now c.escape.result.now c.in-Some.b.now c.args.len c.saturating_add-before.result c.saturating_add.result (2 ^ 64 - 1)
    c.split_plain_as.ensures.front c.split_plain_as.ensures.following c.in-Some.ensures.cases.0 (c.escape.ensures ∙ escaped_is c.args.form c.in-Some.b.now (needs_escape (written_byte c.args.form) (is_plain_as c.args.form) (plain_is c.args.form) c.split_plain_as.result.1.now c.args.rest.now c.in-Some.left.now c.in-Some.b.now c.split_plain_as.ensures.following c.in-Some.ensures.cases.0)) c.saturating_add-before.ensures c.saturating_add.ensures

pub returns-in-Some-clause-shorter : goal.returns-in-Some-clause-shorter
returns-in-Some-clause-shorter c =
    λ _. shorter_escaped (written_byte c.args.form) (is_plain_as c.args.form) (plain_is c.args.form) c.split_plain_as.result.1.now c.args.rest.now c.in-Some.left.now c.in-Some.b.now c.split_plain_as.ensures.following c.in-Some.ensures.cases.0

pub returns-in-None-clause-len : goal.returns-in-None-clause-len
returns-in-None-clause-len c =
    len_plain (written_byte c.args.form) (is_plain_as c.args.form) (plain_is c.args.form) c.split_plain_as.result.0.now c.split_plain_as.result.1.now c.args.rest.now c.args.len c.saturating_add-before.result (2 ^ 64 - 1) c.split_plain_as.ensures.front c.split_plain_as.ensures.following c.saturating_add-before.ensures
