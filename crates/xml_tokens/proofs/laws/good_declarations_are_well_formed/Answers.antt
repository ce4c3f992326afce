use Rattle.xml_tokens.proofs.DeclarationGrammar as grammar
use Rattle.xml_tokens.proofs.laws.good_declarations_are_well_formed.Goals as goal

pub returns : goal.returns
returns c = grammar.good_declarations
