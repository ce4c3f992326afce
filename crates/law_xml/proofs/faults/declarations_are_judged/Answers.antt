use Rattle.law_xml.proofs.FaultLaws as laws
use Rattle.law_xml.proofs.faults.declarations_are_judged.Goals as goal

pub returns-clause-encoding : goal.returns-clause-encoding
returns-clause-encoding c = laws.encoding

pub returns-clause-malformed : goal.returns-clause-malformed
returns-clause-malformed c = laws.malformed_declaration
