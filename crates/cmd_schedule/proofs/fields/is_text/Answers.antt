use Rattle.std.proofs.Common.{◌≡◌, true, arith}
use Rattle.std.proofs.lemmas.Bool.Decides.{nat_tests}
use Rattle.std.proofs.lemmas.Str.{is_utf8-from_IsUtf8}
use Rattle.std.specs.Str.{is_utf8}
use Rattle.cmd_schedule.proofs.fields.is_text.Goals as goal

pub returns-then-text-le1000 : goal.returns-then-text-le1000
returns-then-text-le1000 c =
    let spelled : is_utf8 c.args.text.now ≡ true = is_utf8-from_IsUtf8 c.args.text.now c.utf8.text in
    grind (arith, nat_tests)
