use Rattle.law_xml.proofs.FaultLaws as laws
use Rattle.law_xml.proofs.faults.tags_in_elements_are_judged.Goals as goal

pub returns-clause-end : goal.returns-clause-end
returns-clause-end c = λ t h inner ended other. laws.mismatched t inner h ended other

pub returns-clause-restricted : goal.returns-clause-restricted
returns-clause-restricted c = λ t h inner started e. laws.restricted t inner h started e

pub returns-clause-malformed : goal.returns-clause-malformed
returns-clause-malformed c = λ t h inner started e. laws.malformed t inner h started e

pub returns-clause-deep : goal.returns-clause-deep
returns-clause-deep c = λ t tag h inner started e far. laws.deep t inner h tag started e far

pub returns-clause-many : goal.returns-clause-many
returns-clause-many c = λ t h inner started e near. laws.many t inner h started e near

pub returns-clause-long : goal.returns-clause-long
returns-clause-long c = λ t h inner started e near. laws.long_name t inner h started e near
