use Rattle.law_xml.proofs.OneOffset.{one_offset}
use Rattle.law_xml.proofs.offsets.tokens_have_one_offset.Goals as goal

pub returns : goal.returns
returns c = one_offset
