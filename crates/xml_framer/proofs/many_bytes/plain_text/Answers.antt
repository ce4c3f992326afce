use Rattle.std.proofs.Common.{length}
use Rattle.xml_framer.proofs.PlainTexts.{fewer_plain}
use Rattle.xml_framer.proofs.many_bytes.plain_text.Goals as goal

pub returns-clause-plain : goal.returns-clause-plain
returns-clause-plain c = rw c.whole_characters.ensures.front (fewer_plain (length c.whole_characters.result.now) c.plain_front.result.now c.plain_front.ensures.plain)
