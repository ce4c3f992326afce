use Rattle.law_xml.proofs.FaultLaws as laws
use Rattle.law_xml.proofs.faults.references_are_judged.Goals as goal

pub returns-clause-unknown : goal.returns-clause-unknown
returns-clause-unknown c = laws.unknown

pub returns-clause-malformed : goal.returns-clause-malformed
returns-clause-malformed c = laws.malformed_reference

pub returns-clause-departs : goal.returns-clause-departs
returns-clause-departs c = laws.reference_departs

pub returns-clause-outside : goal.returns-clause-outside
returns-clause-outside c = laws.reference_outside
