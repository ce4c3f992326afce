use Rattle.std.proofs.Common.{Some, None, arith}
use Rattle.std.proofs.lemmas.Str.Pattern.{split_parts}
use Rattle.cmd_schedule.proofs.Words.{cut_after, cut_whole}
use Rattle.cmd_schedule.proofs.fields.cut_word.Goals as goal

pub returns-in-Some : goal.returns-in-Some
returns-in-Some c =
    let parts = split_parts 32 c.args.text.now (Some (c.in-Some.front, c.in-Some.rest)) c.in-Some.ensures.cases (omega arith) in
    rw parts.0 (cut_after c.in-Some.front.now c.in-Some.rest.now parts.1)

pub returns-in-None : goal.returns-in-None
returns-in-None c = cut_whole c.args.text.now (split_parts 32 c.args.text.now None c.in-None.ensures.cases (omega arith))
