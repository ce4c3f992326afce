use Rattle.sim_1_applications.proofs.AsPages.{answers_pages}
use Rattle.sim_1_applications.proofs.lawful_runs.answers_are_pages.Goals as goal

pub returns : goal.returns
returns c = answers_pages
