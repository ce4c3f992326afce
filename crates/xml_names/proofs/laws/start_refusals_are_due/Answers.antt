use Rattle.xml_names.proofs.StartLaws as laws
use Rattle.xml_names.proofs.laws.start_refusals_are_due.Goals as goal

pub returns-clause-restricted : goal.returns-clause-restricted
returns-clause-restricted c = laws.restricted

pub returns-clause-malformed : goal.returns-clause-malformed
returns-clause-malformed c = laws.malformed

pub returns-clause-attributes : goal.returns-clause-attributes
returns-clause-attributes c = laws.many

pub returns-clause-namespace : goal.returns-clause-namespace
returns-clause-namespace c = laws.long
