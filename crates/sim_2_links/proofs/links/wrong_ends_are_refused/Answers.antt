use Rattle.sim_2_links.proofs.Reached.{link_kept}
use Rattle.sim_2_links.proofs.Refused.{all_again_refused, acknowledged_refused, late_refused, beside_refused}
use Rattle.sim_2_links.specs.Wrong.{sends_all_again, states_acknowledged, resumes_late, binds_beside}
use Rattle.sim_2_links.proofs.links.wrong_ends_are_refused.Goals as goal

pub returns-clause-all_again : goal.returns-clause-all_again
returns-clause-all_again c = λ reached. all_again_refused (link_kept sends_all_again reached)

pub returns-clause-acknowledged : goal.returns-clause-acknowledged
returns-clause-acknowledged c = λ reached. acknowledged_refused (link_kept states_acknowledged reached)

pub returns-clause-late : goal.returns-clause-late
returns-clause-late c = λ reached. late_refused (link_kept resumes_late reached)

pub returns-clause-beside : goal.returns-clause-beside
returns-clause-beside c = λ reached. beside_refused (link_kept binds_beside reached)
