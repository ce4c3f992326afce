use Rattle.law_xml.proofs.PipeLaws.{enters, enters_not, fresh}
use Rattle.law_xml.proofs.carried.whole_items_enter.Goals as goal

pub returns : goal.returns
returns c = record { fresh = fresh; enter = enters; lost = enters_not }
