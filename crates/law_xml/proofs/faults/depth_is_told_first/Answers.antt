use Rattle.law_xml.proofs.FaultLaws as laws
use Rattle.law_xml.proofs.faults.depth_is_told_first.Goals as goal

pub returns-clause-many : goal.returns-clause-many
returns-clause-many c = λ t h inner started e far. laws.many_and_deep t inner h started e far

pub returns-clause-long : goal.returns-clause-long
returns-clause-long c = λ t h inner started e far. laws.long_and_deep t inner h started e far

pub returns-clause-many_at_top : goal.returns-clause-many_at_top
returns-clause-many_at_top c = λ t h outer p opens is far. laws.top_many t outer h p opens is far

pub returns-clause-long_at_top : goal.returns-clause-long_at_top
returns-clause-long_at_top c = λ t h outer p opens is far. laws.top_long t outer h p opens is far
