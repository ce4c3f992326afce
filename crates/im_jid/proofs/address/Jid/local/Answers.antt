use Rattle.im_jid.proofs.TextCuts.{local_boundary}
use Rattle.im_jid.proofs.address.Jid.local.Goals as goal

pub range-requires-clause-end_boundary : goal.range-requires-clause-end_boundary
range-requires-clause-end_boundary c = rw (c.as_str-text.ensures, c.self.invariant.domain) (local_boundary c.self.inside.text (rw c.as_str-text.ensures at c.as_str-text.utf8))
