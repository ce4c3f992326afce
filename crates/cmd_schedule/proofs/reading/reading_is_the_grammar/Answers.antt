use Rattle.cmd_schedule.proofs.BothKinds.{reading_again, reading_found}
use Rattle.cmd_schedule.proofs.reading.reading_is_the_grammar.Goals as goal

pub returns-clause-found : goal.returns-clause-found
returns-clause-found c = reading_found

pub returns-clause-only : goal.returns-clause-only
returns-clause-only c = reading_again
