use Rattle.law_commands.proofs.DirectPages.{pages_asked}
use Rattle.law_commands.proofs.direct_runs.direct_pages_are_as_asked.Goals as goal

pub returns : goal.returns
returns c = pages_asked
