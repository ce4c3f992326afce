use Rattle.law_xml.proofs.StreamRuns.{stream_read}
use Rattle.law_xml.proofs.reading.spelled_streams_are_read.Goals as goal

pub returns : goal.returns
returns c = stream_read
