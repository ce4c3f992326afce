use Rattle.law_xml.proofs.FaultLaws as laws
use Rattle.law_xml.proofs.faults.long_and_broken_bytes_are_told.Goals as goal

pub returns-clause-long : goal.returns-clause-long
returns-clause-long c = laws.long

pub returns-clause-broken : goal.returns-clause-broken
returns-clause-broken c = laws.broken
