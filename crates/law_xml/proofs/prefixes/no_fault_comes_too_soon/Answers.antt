use Rattle.law_xml.proofs.PrefixRuns.{none_too_soon}
use Rattle.law_xml.proofs.prefixes.no_fault_comes_too_soon.Goals as goal

pub returns : goal.returns
returns c = none_too_soon
