use Rattle.xml_tokens.proofs.TagOutcomes as outcomes
use Rattle.xml_tokens.proofs.laws.unknown_names_are_restricted.Goals as goal

pub returns : goal.returns
returns c = outcomes.unknown_names_are_restricted
