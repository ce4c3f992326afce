use Rattle.law_xml.proofs.PutRuns.{all_enter}
use Rattle.law_xml.proofs.put_items.what_may_be_put_enters.Goals as goal

pub returns : goal.returns
returns c = all_enter
