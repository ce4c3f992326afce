use Rattle.std.proofs.Common.{subst, sym}
use Rattle.cmd_resolving.specs.Expansion.{Watching}
use Rattle.cmd_deciding.specs.Looks.{EachNamed}
use Rattle.cmd_deciding.proofs.Named.{turned_named}
use Rattle.cmd_deciding.proofs.watch.Watch.resolve.Goals as goal

pub turns-requires-clause-named : goal.turns-requires-clause-named
turns-requires-clause-named c =
    subst (λ (s : Watching). EachNamed s.intents) (sym c.in_ok-turn.ensures.state) (turned_named c.args.number c.args.index c.args.most c.args.self.now c.requires.named)
