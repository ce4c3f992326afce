use Rattle.law_commands.proofs.DirectClocks.{clock_kept}
use Rattle.law_commands.proofs.direct_runs.direct_runs_keep_the_clock.Goals as goal

pub returns : goal.returns
returns c = clock_kept
