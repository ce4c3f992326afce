use Rattle.xml_names.proofs.EndLaws as laws
use Rattle.xml_names.proofs.laws.end_tags_are_read.Goals as goal

pub returns : goal.returns
returns c = laws.end_tags_are_read
