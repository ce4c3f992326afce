use Rattle.std.proofs.Common.{◌≡◌, ◌≢◌, get_or, eqb, arith, rules}
use Rattle.std.proofs.lemmas.Bool.Decides.{nat_tests}
use Rattle.im_payload.proofs.Numbers.{parsed_err, parsed_ok}
use Rattle.im_payload.proofs.readers.u64_spelled.Goals as goal

pub returns-in-Ok : goal.returns-in-Ok
returns-in-Ok c =
    let byte : c.starts_with.result ≡ eqb (get_or c.args.text.now 0 0) 43 = search rules in
    let plus : get_or c.args.text.now 0 0 ≢ 43 = grind (arith, nat_tests) in
    parsed_ok 64 c.args.text.now c.parse.result _ plus c.parse.ensures.value.0 c.in-Ok.is

pub returns-in-Err : goal.returns-in-Err
returns-in-Err c =
    let byte : c.starts_with.result ≡ eqb (get_or c.args.text.now 0 0) 43 = search rules in
    let plus : get_or c.args.text.now 0 0 ≢ 43 = grind (arith, nat_tests) in
    parsed_err 64 c.args.text.now c.parse.result _ plus c.parse.ensures.value.0 c.in-Err.is
