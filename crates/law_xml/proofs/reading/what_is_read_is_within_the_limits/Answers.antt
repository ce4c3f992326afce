use Rattle.law_xml.proofs.ReadStreams.{what_is_within}
use Rattle.law_xml.proofs.reading.what_is_read_is_within_the_limits.Goals as goal

pub returns : goal.returns
returns c = what_is_within
