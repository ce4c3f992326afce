use Rattle.xml_names.proofs.StartLaws as laws
use Rattle.xml_names.proofs.laws.starts_are_read.Goals as goal

pub returns : goal.returns
returns c = laws.read
