use Rattle.law_xml.proofs.PipeLaws.{cuts}
use Rattle.law_xml.proofs.carried.a_cut_keeps_first_items.Goals as goal

pub returns : goal.returns
returns c = cuts
