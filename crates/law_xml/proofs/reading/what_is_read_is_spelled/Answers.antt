use Rattle.law_xml.proofs.ReadStreams.{what_is_read}
use Rattle.law_xml.proofs.reading.what_is_read_is_spelled.Goals as goal

pub returns : goal.returns
returns c = what_is_read
