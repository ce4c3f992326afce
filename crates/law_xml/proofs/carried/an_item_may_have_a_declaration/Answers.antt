use Rattle.law_xml.proofs.RestRuns.{with_declaration}
use Rattle.law_xml.proofs.carried.an_item_may_have_a_declaration.Goals as goal

pub returns : goal.returns
returns c = with_declaration
