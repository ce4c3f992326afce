use Rattle.std.proofs.Common.{FitsSigned, rules, w8, refl}
use Rattle.std.proofs.lemmas.Int.{to_z-of_z}
use Rattle.srv_core.proofs.stanzas.announce.Goals as goal

-- the priority is passed as its 8 bits
pub returns-in-Available : goal.returns-in-Available
returns-in-Available c =
    let fits : FitsSigned w8 c.args.presence.now.priority = search rules in
    rw (c.in-Available.is, c.set_presence.ensures.sessions, c.set_presence.ensures.next, to_z-of_z w8 c.args.presence.now.priority fits) refl

pub returns-in-Unavailable : goal.returns-in-Unavailable
returns-in-Unavailable c =
    let fits : FitsSigned w8 c.args.presence.now.priority = search rules in
    rw (c.in-Unavailable.is, c.set_presence-in-Unavailable.ensures.sessions, c.set_presence-in-Unavailable.ensures.next, to_z-of_z w8 c.args.presence.now.priority fits)
    refl
