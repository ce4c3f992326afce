use Rattle.sim_2_links.proofs.WithPremises.{prompt_runs, paging_runs}
use Rattle.sim_2_links.proofs.links.runs_with_premises_are_runs.Goals as goal

pub returns-clause-prompt : goal.returns-clause-prompt
returns-clause-prompt g c = λ asks v reached. prompt_runs asks v reached

pub returns-clause-paging : goal.returns-clause-paging
returns-clause-paging g c = λ p v reached. paging_runs p v reached
