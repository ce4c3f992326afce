use Rattle.std.proofs.Common.{◌≡◌, ◌∙◌, false, sym, arith, rules}
use Rattle.auth_primitives.specs.Reading.{is_accepted}
use Rattle.auth_primitives.proofs.AcceptedLaws.{accepted_is_decoded}
use Rattle.auth_primitives.proofs.text.is_base64.Goals as goal

pub returns-in-Some : goal.returns-in-Some
returns-in-Some c =
    let found : is_accepted c.args.text.now ≡ c.is_complete.result = search rules in
    sym found ∙ accepted_is_decoded c.args.text.now (λ i. let fits = c.type_inv.text i in omega arith)

pub returns-in-None : goal.returns-in-None
returns-in-None c =
    let found : is_accepted c.args.text.now ≡ false = search rules in
    sym found ∙ accepted_is_decoded c.args.text.now (λ i. let fits = c.type_inv.text i in omega arith)
