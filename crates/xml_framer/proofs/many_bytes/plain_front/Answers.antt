use Rattle.xml_framer.proofs.PlainTexts.{prefix_plain, prefix_within}
use Rattle.xml_framer.proofs.many_bytes.plain_front.Goals as goal

pub split_at-requires : goal.split_at-requires
split_at-requires c = rw c.plain_len.ensures (prefix_within c.args.bytes.now)

pub returns-clause-plain : goal.returns-clause-plain
returns-clause-plain c = rw (c.split_at.ensures.front, c.plain_len.ensures) (prefix_plain c.args.bytes.now)
