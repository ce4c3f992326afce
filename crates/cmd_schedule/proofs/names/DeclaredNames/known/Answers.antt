use Rattle.std.proofs.Common.{◌∙◌}
use Rattle.cmd_schedule.proofs.DeclaredPositions.{known_there, text_there}
use Rattle.cmd_schedule.proofs.names.DeclaredNames.known.Goals as goal

pub returns-in-Some-clause-exact : goal.returns-in-Some-clause-exact
returns-in-Some-clause-exact c = known_there c.self.inside.index c.args.self.now c.in-Some.position c.args.name.now c.self.view_is c.in-Some.ensures.there.1

pub returns-in-Some-clause-same : goal.returns-in-Some-clause-same
returns-in-Some-clause-same c =
    text_there c.as_slice.result.now c.self.inside.index c.in-Some.position c.args.name.now c.index-as_slice-position.result
    (c.as_slice.ensures ∙ c.self.invariant) c.in-Some.ensures.there.1 c.index-as_slice-position.is
