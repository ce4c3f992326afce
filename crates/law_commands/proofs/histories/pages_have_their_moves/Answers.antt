use Rattle.law_commands.proofs.Worlds.{moves}
use Rattle.law_commands.proofs.histories.pages_have_their_moves.Goals as goal

pub returns : goal.returns
returns c = moves
