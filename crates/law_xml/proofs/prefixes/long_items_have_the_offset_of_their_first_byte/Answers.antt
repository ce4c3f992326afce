use Rattle.law_xml.proofs.PrefixRuns.{long_told}
use Rattle.law_xml.proofs.prefixes.long_items_have_the_offset_of_their_first_byte.Goals as goal

pub returns : goal.returns
returns c = long_told
