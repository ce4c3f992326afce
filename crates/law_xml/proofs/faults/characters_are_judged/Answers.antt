use Rattle.law_xml.proofs.FaultLaws as laws
use Rattle.law_xml.proofs.faults.characters_are_judged.Goals as goal

pub returns-clause-forbidden : goal.returns-clause-forbidden
returns-clause-forbidden c = laws.forbidden

pub returns-clause-brackets : goal.returns-clause-brackets
returns-clause-brackets c = laws.brackets

pub returns-clause-in_section : goal.returns-clause-in_section
returns-clause-in_section c = laws.forbidden_in_section

pub returns-clause-outside : goal.returns-clause-outside
returns-clause-outside c = laws.text_outside_elements
