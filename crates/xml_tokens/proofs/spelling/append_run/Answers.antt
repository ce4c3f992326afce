use Rattle.std.proofs.Common.{◌∙◌}
use Rattle.xml_tokens.specs.Spelling.{written_byte, is_plain_as}
use Rattle.xml_tokens.proofs.SpellingRuns.{plain_is, escaped_is, needs, room_for_plain, needs_escape, room_for_escape, items_escaped, spare_escaped, shorter_escaped, items_plain, spare_plain}
use Rattle.xml_tokens.proofs.spelling.append_run.Goals as goal

pub append_reserved-requires : goal.append_reserved-requires
append_reserved-requires c =
    room_for_plain (written_byte c.args.form) (is_plain_as c.args.form) (plain_is c.args.form) c.split_plain_as.result.0.now c.split_plain_as.result.1.now c.args.rest.now c.args.out.now.spare
    c.split_plain_as.ensures.front c.split_plain_as.ensures.following c.requires

pub escape-requires : goal.escape-requires
escape-requires c =
    needs c.args.form c.in-Some.b.now (needs_escape (written_byte c.args.form) (is_plain_as c.args.form) (plain_is c.args.form) c.split_plain_as.result.1.now c.args.rest.now c.in-Some.left.now c.in-Some.b.now c.split_plain_as.ensures.following c.in-Some.ensures.cases.0)

pub append_reserved-requires-in-Some : goal.append_reserved-requires-in-Some
append_reserved-requires-in-Some c =
    room_for_escape (written_byte c.args.form) (is_plain_as c.args.form) (plain_is c.args.form) c.split_plain_as.result.0.now c.split_plain_as.result.1.now c.args.rest.now c.in-Some.left.now c.escape.result.now c.in-Some.b.now c.args.out.now.spare c.append_reserved.new.self.spare
    c.split_plain_as.ensures.front c.split_plain_as.ensures.following c.in-Some.ensures.cases.0 (c.escape.ensures ∙ escaped_is c.args.form c.in-Some.b.now (needs_escape (written_byte c.args.form) (is_plain_as c.args.form) (plain_is c.args.form) c.split_plain_as.result.1.now c.args.rest.now c.in-Some.left.now c.in-Some.b.now c.split_plain_as.ensures.following c.in-Some.ensures.cases.0)) c.requires c.append_reserved.ensures.spare

pub returns-in-Some-clause-items : goal.returns-in-Some-clause-items
returns-in-Some-clause-items c =
    items_escaped (written_byte c.args.form) (is_plain_as c.args.form) (plain_is c.args.form) c.args.out.now.items c.append_reserved.new.self.items c.append_reserved-in-Some.new.self.items c.split_plain_as.result.0.now c.split_plain_as.result.1.now c.args.rest.now c.in-Some.left.now c.escape.result.now c.in-Some.b.now
    c.split_plain_as.ensures.front c.split_plain_as.ensures.following c.in-Some.ensures.cases.0 (c.escape.ensures ∙ escaped_is c.args.form c.in-Some.b.now (needs_escape (written_byte c.args.form) (is_plain_as c.args.form) (plain_is c.args.form) c.split_plain_as.result.1.now c.args.rest.now c.in-Some.left.now c.in-Some.b.now c.split_plain_as.ensures.following c.in-Some.ensures.cases.0)) c.append_reserved.ensures.items c.append_reserved-in-Some.ensures.items

pub returns-in-Some-clause-spare : goal.returns-in-Some-clause-spare
returns-in-Some-clause-spare c =
    spare_escaped (written_byte c.args.form) (is_plain_as c.args.form) (plain_is c.args.form) c.split_plain_as.result.0.now c.split_plain_as.result.1.now c.args.rest.now c.in-Some.left.now c.escape.result.now c.in-Some.b.now c.args.out.now.spare c.append_reserved.new.self.spare c.append_reserved-in-Some.new.self.spare
    c.split_plain_as.ensures.front c.split_plain_as.ensures.following c.in-Some.ensures.cases.0 (c.escape.ensures ∙ escaped_is c.args.form c.in-Some.b.now (needs_escape (written_byte c.args.form) (is_plain_as c.args.form) (plain_is c.args.form) c.split_plain_as.result.1.now c.args.rest.now c.in-Some.left.now c.in-Some.b.now c.split_plain_as.ensures.following c.in-Some.ensures.cases.0)) c.append_reserved.ensures.spare c.append_reserved-in-Some.ensures.spare

pub returns-in-Some-clause-shorter : goal.returns-in-Some-clause-shorter
returns-in-Some-clause-shorter c =
    λ _. shorter_escaped (written_byte c.args.form) (is_plain_as c.args.form) (plain_is c.args.form) c.split_plain_as.result.1.now c.args.rest.now c.in-Some.left.now c.in-Some.b.now c.split_plain_as.ensures.following c.in-Some.ensures.cases.0

pub returns-in-None-clause-items : goal.returns-in-None-clause-items
returns-in-None-clause-items c =
    items_plain (written_byte c.args.form) (is_plain_as c.args.form) (plain_is c.args.form) c.args.out.now.items c.append_reserved.new.self.items c.split_plain_as.result.0.now c.split_plain_as.result.1.now c.args.rest.now
    c.split_plain_as.ensures.front c.split_plain_as.ensures.following c.append_reserved.ensures.items

pub returns-in-None-clause-spare : goal.returns-in-None-clause-spare
returns-in-None-clause-spare c =
    spare_plain (written_byte c.args.form) (is_plain_as c.args.form) (plain_is c.args.form) c.split_plain_as.result.0.now c.split_plain_as.result.1.now c.args.rest.now c.args.out.now.spare c.append_reserved.new.self.spare
    c.split_plain_as.ensures.front c.split_plain_as.ensures.following c.append_reserved.ensures.spare
