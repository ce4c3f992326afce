use Rattle.law_xml.proofs.OffsetRuns.{fault_at_token}
use Rattle.law_xml.proofs.offsets.faults_have_the_offset_of_their_token.Goals as goal

pub returns : goal.returns
returns c = fault_at_token
