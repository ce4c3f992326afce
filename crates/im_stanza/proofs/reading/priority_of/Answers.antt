use Rattle.std.proofs.Common.{◌≡◌, ◌≢◌, get_or, eqb, arith, rules, w8, ◌∙◌}
use Rattle.std.proofs.lemmas.Bool.Decides.{nat_tests}
use Rattle.std.proofs.lemmas.Int.{to_z-of_z}
use Rattle.im_stanza.proofs.Priorities.{parsed, parsed_fits}
use Rattle.im_stanza.proofs.reading.priority_of.Goals as goal

pub returns-in-Ok : goal.returns-in-Ok
returns-in-Ok c =
    let byte : c.starts_with.result ≡ eqb (get_or c.args.text.now 0 0) 43 = search rules in
    let plus : get_or c.args.text.now 0 0 ≢ 43 = grind (arith, nat_tests) in
    let is = parsed c.args.text.now c.parse.result plus c.parse.ensures.value.0 in
    to_z-of_z w8 _ (parsed_fits c.args.text.now c.parse.result _ c.in-Ok.is c.parse.ensures.value.0) ∙ rw c.in-Ok.is at is

pub returns-in-Err : goal.returns-in-Err
returns-in-Err c =
    let byte : c.starts_with.result ≡ eqb (get_or c.args.text.now 0 0) 43 = search rules in
    let plus : get_or c.args.text.now 0 0 ≢ 43 = grind (arith, nat_tests) in
    let is = parsed c.args.text.now c.parse.result plus c.parse.ensures.value.0 in
    rw c.in-Err.is at is
