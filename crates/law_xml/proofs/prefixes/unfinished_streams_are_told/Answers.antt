use Rattle.law_xml.proofs.PrefixRuns.{prefix_known}
use Rattle.law_xml.proofs.prefixes.unfinished_streams_are_told.Goals as goal

pub returns : goal.returns
returns c = prefix_known
