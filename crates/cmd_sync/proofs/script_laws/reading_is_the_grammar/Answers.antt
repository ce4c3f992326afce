use Rattle.cmd_sync.proofs.Again.{script_again}
use Rattle.cmd_sync.proofs.Found.{script_found}
use Rattle.cmd_sync.proofs.script_laws.reading_is_the_grammar.Goals as goal

pub returns-clause-found : goal.returns-clause-found
returns-clause-found c = script_found

pub returns-clause-only : goal.returns-clause-only
returns-clause-only c = script_again
