use Rattle.law_xml.proofs.FaultLaws as laws
use Rattle.law_xml.proofs.faults.tags_without_a_name_are_told.Goals as goal

pub returns : goal.returns
returns c = laws.without_name
