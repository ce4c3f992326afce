use Rattle.law_xml.proofs.CountLaws as counting
use Rattle.law_xml.proofs.CountedRuns as runs
use Rattle.law_xml.proofs.faults.bytes_are_counted_from_the_first.Goals as goal

pub returns-clause-first : goal.returns-clause-first
returns-clause-first c = counting.first

pub returns-clause-more : goal.returns-clause-more
returns-clause-more c = counting.more

pub returns-clause-in_runs : goal.returns-clause-in_runs
returns-clause-in_runs c = runs.counted_in_runs

pub returns-clause-may_stand : goal.returns-clause-may_stand
returns-clause-may_stand c = runs.stands_in_runs
