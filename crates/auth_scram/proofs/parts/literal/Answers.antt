use Rattle.std.proofs.Common.{◌≡◌, length, arith, sym, ◌∙◌}
use Rattle.auth_scram.proofs.Runs.{literal_missing}
use Rattle.auth_scram.proofs.parts.literal.Goals as goal

pub returns-in_default : goal.returns-in_default
returns-in_default c =
    let none : length c.loop-wanted.rest.now ≡ 0 = omega (arith, c.in_default.ensures.cases) in
    sym c.loop-wanted.invariant ∙ literal_missing c.args.word.now c.loop-wanted.rest.now c.loop-wanted.wanted-index c.loop-wanted-test.true none
