use Rattle.im_jid.proofs.NormalAgain.{normal_address}
use Rattle.im_jid.proofs.address.Jid.text.Goals as goal

pub returns-clause-parts : goal.returns-clause-parts
returns-clause-parts c =
    let text = c.self.inside.text in
    let utf8 = rw c.as_str.ensures at c.as_str.utf8 in
    rw (← c.self.view_is) (normal_address text text utf8 c.self.invariant.normal_form)
