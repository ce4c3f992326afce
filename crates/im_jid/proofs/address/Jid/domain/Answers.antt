use Rattle.im_jid.proofs.TextCuts.{bare_boundary, domain_boundary, domain_cut}
use Rattle.im_jid.proofs.address.Jid.domain.Goals as goal

pub range-requires-clause-start_boundary : goal.range-requires-clause-start_boundary
range-requires-clause-start_boundary c =
    let utf8 = rw c.as_str-text.ensures at c.as_str-text.utf8 in
    λ _. rw (c.as_str-text.ensures, c.self.invariant.domain) (domain_boundary c.self.inside.text utf8)

pub range-requires-clause-end_boundary : goal.range-requires-clause-end_boundary
range-requires-clause-end_boundary c = rw (c.as_str-text.ensures, c.self.invariant.bare) (bare_boundary c.self.inside.text)

pub returns : goal.returns
returns c =
    rw (c.range.ensures.value, c.as_str-text.ensures, c.self.invariant.domain, c.self.invariant.bare, ← c.self.view_is)
    (domain_cut c.self.inside.text)
