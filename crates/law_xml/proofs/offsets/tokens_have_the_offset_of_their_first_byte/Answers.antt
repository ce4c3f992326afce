use Rattle.law_xml.proofs.OffsetRuns as runs
use Rattle.law_xml.proofs.offsets.tokens_have_the_offset_of_their_first_byte.Goals as goal

pub returns-clause-next : goal.returns-clause-next
returns-clause-next c = runs.position_after_bytes

pub returns-clause-begins : goal.returns-clause-begins
returns-clause-begins c = runs.begins

pub returns-clause-run_begins : goal.returns-clause-run_begins
returns-clause-run_begins c = runs.run_begins

pub returns-clause-run_goes_on : goal.returns-clause-run_goes_on
returns-clause-run_goes_on c = runs.run_goes_on

pub returns-clause-goes_on : goal.returns-clause-goes_on
returns-clause-goes_on c = runs.goes_on
