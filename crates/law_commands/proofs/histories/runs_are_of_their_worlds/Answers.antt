use Rattle.law_commands.proofs.RunWorlds.{run_of_worlds}
use Rattle.law_commands.proofs.histories.runs_are_of_their_worlds.Goals as goal

pub returns : goal.returns
returns c = run_of_worlds
