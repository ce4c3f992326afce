use Rattle.xml_tokens.proofs.TagOutcomes as outcomes
use Rattle.xml_tokens.proofs.laws.what_is_read_is_a_tag.Goals as goal

pub returns : goal.returns
returns c = outcomes.what_is_read_is_a_tag
