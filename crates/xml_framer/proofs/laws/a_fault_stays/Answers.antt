use Rattle.xml_framer.proofs.Pieces.{stays}
use Rattle.xml_framer.proofs.laws.a_fault_stays.Goals as goal

pub returns : goal.returns
returns c = stays
