use Rattle.im_jid.proofs.NormalAgain.{indexed_bare}
use Rattle.im_jid.proofs.address.Jid.to_bare.Goals as goal

pub invariant_of-result : goal.invariant_of-result
invariant_of-result c =
    rw (c.in_ok-from_str.ensures, c.bare-bare.ensures.bare, ← c.self.view_is)
    (indexed_bare c.self.inside.text _ _ c.self.invariant)
