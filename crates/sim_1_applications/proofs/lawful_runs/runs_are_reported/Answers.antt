use Rattle.sim_1_applications.proofs.Existing.{some_report}
use Rattle.sim_1_applications.proofs.lawful_runs.runs_are_reported.Goals as goal

pub returns : goal.returns
returns c = some_report
