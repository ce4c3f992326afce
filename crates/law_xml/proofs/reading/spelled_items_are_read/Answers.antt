use Rattle.law_xml.proofs.ItemRuns as runs
use Rattle.law_xml.proofs.reading.spelled_items_are_read.Goals as goal

pub returns-clause-item : goal.returns-clause-item
returns-clause-item c = runs.item_gives

pub returns-clause-first : goal.returns-clause-first
returns-clause-first c = runs.first_gives

pub returns-clause-first_declared : goal.returns-clause-first_declared
returns-clause-first_declared c = runs.first_declared_gives

pub returns-clause-declared : goal.returns-clause-declared
returns-clause-declared c = runs.declared_gives
