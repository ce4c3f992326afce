use Rattle.xml_tokens.proofs.Going as going
use Rattle.xml_tokens.proofs.laws.references_go_on.Goals as goal

pub returns : goal.returns
returns c = going.references_go_on
