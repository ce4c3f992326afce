use Rattle.cmd_journal.proofs.Again.{rerun_again}
use Rattle.cmd_journal.proofs.Found.{rerun_found}
use Rattle.cmd_journal.proofs.laws.rerun_reading_is_the_grammar.Goals as goal

pub returns-clause-found : goal.returns-clause-found
returns-clause-found c = rerun_found

pub returns-clause-only : goal.returns-clause-only
returns-clause-only c = rerun_again
