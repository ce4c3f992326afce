use Rattle.sim_1_applications.proofs.LawsKept.{lawful_keeping}
use Rattle.sim_1_applications.proofs.lawful_runs.sessions_are_lawful.Goals as goal

pub returns : goal.returns
returns c = lawful_keeping
