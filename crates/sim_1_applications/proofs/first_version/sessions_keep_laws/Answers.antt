use Rattle.sim_1_applications.proofs.LawsOfBoth.{laws_kept}
use Rattle.sim_1_applications.proofs.first_version.sessions_keep_laws.Goals as goal

pub returns : goal.returns
returns c = laws_kept
