use Rattle.std.proofs.Common.{◌<◌, length}
use Rattle.im_jid.specs.Cuts.{bare_len}
use Rattle.im_jid.proofs.TextCuts.{resource_boundary}
use Rattle.im_jid.proofs.address.Jid.resource.Goals as goal

pub range_from-requires : goal.range_from-requires
range_from-requires c =
    let there : bare_len c.self.inside.text < length c.self.inside.text =
    rw (c.as_str-text.ensures, c.self.invariant.bare) at c.if-self-text.true in
    λ _. rw (c.as_str-text.ensures, c.self.invariant.bare)
    (resource_boundary c.self.inside.text (rw c.as_str-text.ensures at c.as_str-text.utf8) there)
