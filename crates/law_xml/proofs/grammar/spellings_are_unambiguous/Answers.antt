use Rattle.law_xml.proofs.OneSpelling.{elements_are_one, items_are_one}
use Rattle.law_xml.proofs.grammar.spellings_are_unambiguous.Goals as goal

pub returns-clause-item : goal.returns-clause-item
returns-clause-item c = items_are_one

pub returns-clause-element : goal.returns-clause-element
returns-clause-element c = elements_are_one
