use Rattle.law_commands.proofs.DirectWorlds.{direct_of_worlds}
use Rattle.law_commands.proofs.histories.direct_reports_are_of_their_worlds.Goals as goal

pub returns : goal.returns
returns c = λ s right. direct_of_worlds s (c.direct_is_lawful.ensures s right)
