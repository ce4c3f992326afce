use Rattle.xml_tokens.proofs.ValueSpellings.{is_value, says_value}
use Rattle.xml_tokens.proofs.laws.values_are_spelled.Goals as goal

pub returns : goal.returns
returns c = λ raw v. (is_value raw v, says_value raw v)
