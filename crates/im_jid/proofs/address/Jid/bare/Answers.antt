use Rattle.im_jid.proofs.NormalAgain.{normal_bare}
use Rattle.im_jid.proofs.TextCuts.{bare_boundary}
use Rattle.im_jid.proofs.address.Jid.bare.Goals as goal

pub range-requires-clause-end_boundary : goal.range-requires-clause-end_boundary
range-requires-clause-end_boundary c = rw (c.as_str-text.ensures, c.self.invariant.bare) (bare_boundary c.self.inside.text)

pub returns-clause-normal : goal.returns-clause-normal
returns-clause-normal c =
    let text = c.self.inside.text in
    let utf8 = rw c.as_str-text.ensures at c.as_str-text.utf8 in
    rw (← c.self.view_is) (normal_bare text text utf8 c.self.invariant.normal_form)
