use Rattle.std.proofs.Common.{◌≡◌, true, false, refl, sym}
use Rattle.std.proofs.lemmas.Str.{is_utf8-from_IsUtf8}
use Rattle.std.specs.Str.{is_utf8}
use Rattle.cmd_schedule.proofs.Words.{not_spelled}
use Rattle.cmd_rewriting.proofs.headings.heading.Goals as goal

pub returns-in-Ok : goal.returns-in-Ok
returns-in-Ok c =
    let spelled : is_utf8 c.args.line.now ≡ true = is_utf8-from_IsUtf8 c.args.line.now c.in-Ok.ensures.cases.1 in
    rw (spelled, sym c.in-Ok.ensures.cases.0) c.heading_of.ensures

pub returns-in-Err : goal.returns-in-Err
returns-in-Err c =
    let spelled : is_utf8 c.args.line.now ≡ false = not_spelled c.args.line.now c.in-Err.ensures.cases.0 in
    rw spelled refl
