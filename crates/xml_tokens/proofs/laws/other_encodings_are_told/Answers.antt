use Rattle.xml_tokens.proofs.DeclarationGrammar as grammar
use Rattle.xml_tokens.proofs.laws.other_encodings_are_told.Goals as goal

pub returns : goal.returns
returns c = grammar.other_encodings
