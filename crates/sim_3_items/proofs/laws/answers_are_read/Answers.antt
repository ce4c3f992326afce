use Rattle.sim_3_items.proofs.PagesDown.{end_read, entry_read, not_found_read}
use Rattle.sim_3_items.proofs.laws.answers_are_read.Goals as goal

pub returns-clause-entry : goal.returns-clause-entry
returns-clause-entry c = entry_read

pub returns-clause-end : goal.returns-clause-end
returns-clause-end c = λ a cut q is fits page. end_read a cut q is fits page

pub returns-clause-not_found : goal.returns-clause-not_found
returns-clause-not_found c = not_found_read
