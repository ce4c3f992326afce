use Rattle.std.proofs.Common.{◌≡◌, ◌≤◌, sym, ◌∙◌, arith, rules}
use Rattle.std.proofs.lemmas.Bool.Decides.{nat_tests}
use Rattle.mam_archive.proofs.IdDigits.{id_of_same, number_found, number_none}
use Rattle.mam_archive.proofs.ids.number_of.Goals as goal

pub returns-in_err-number-clause-value : goal.returns-in_err-number-clause-value
returns-in_err-number-clause-value c = search rules ∙ number_none c.args.id.now (λ n some low is. c.in_err-number.ensures.none n low is)

pub returns-then-number-eq0-clause-value : goal.returns-then-number-eq0-clause-value
returns-then-number-eq0-clause-value c =
    let found = c.in_ok-number.ensures.found in
    number_none c.args.id.now (λ n some low is.
    let same : c.in_ok-number.number ≡ n = id_of_same c.in_ok-number.number n found.0 low (sym found.1 ∙ is) in
    let zero : c.in_ok-number.number ≡ 0 = grind (arith, nat_tests) in
    omega (arith, same, zero, some))

pub returns-else-number-eq0-clause-value : goal.returns-else-number-eq0-clause-value
returns-else-number-eq0-clause-value c =
    let found = c.in_ok-number.ensures.found in
    let some : 1 ≤ c.in_ok-number.number = grind (arith, nat_tests) in
    number_found c.args.id.now c.in_ok-number.number some found.0 found.1
