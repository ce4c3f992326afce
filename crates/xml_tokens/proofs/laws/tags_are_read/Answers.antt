use Rattle.xml_tokens.proofs.TagOutcomes as outcomes
use Rattle.xml_tokens.proofs.laws.tags_are_read.Goals as goal

pub returns : goal.returns
returns c = outcomes.tags_are_read
