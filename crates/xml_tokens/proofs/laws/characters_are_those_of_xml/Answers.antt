use Rattle.xml_tokens.proofs.CharacterLaws as laws
use Rattle.xml_tokens.proofs.laws.characters_are_those_of_xml.Goals as goal

pub returns : goal.returns
returns c = laws.characters_are_those
