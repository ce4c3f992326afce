use Rattle.cmd_journal.proofs.Again.{accounts_again}
use Rattle.cmd_journal.proofs.Found.{accounts_found}
use Rattle.cmd_journal.proofs.laws.accounts_reading_is_the_grammar.Goals as goal

pub returns-clause-found : goal.returns-clause-found
returns-clause-found c = accounts_found

pub returns-clause-only : goal.returns-clause-only
returns-clause-only c = accounts_again
