use Rattle.std.proofs.Common.{◌∙◌}
use Rattle.cl_intents.proofs.Ids.{range_end}
use Rattle.cl_intents.proofs.intents.tiles_from.Goals as goal

pub returns-in-Some : goal.returns-in-Some
returns-in-Some c = c.in-Some.ensures.lookup.0.2 ∙ range_end c.args.index c.args.tiles.now
