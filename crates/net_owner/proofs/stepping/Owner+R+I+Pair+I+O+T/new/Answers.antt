use Rattle.std.proofs.Common.{ap, refl, ◌∙◌}
use Rattle.net_owner.proofs.HeldHalves.{held_at_first}
use Rattle.net_owner.proofs.OwnerSteps.{begins}
use Rattle.net_owner.proofs.stepping.Owner+R+I+Pair+I+O+T.new.Goals as goal
use Rattle.net_owner.specs.Rule.{with_more}

pub returns-clause-going : goal.returns-clause-going
returns-clause-going g c =
    begins g.T.Taker.events _ c.in_ok-to.ensures.ends c.hire-acceptor.ensures.channel.0 (c.hire-acceptor.ensures.views.0 ∙ ap (λ v. with_more v) c.in_ok-to.ensures.pass.1) c.new.ensures.items c.requires refl

pub returns-clause-held : goal.returns-clause-held
returns-clause-held g c =
    held_at_first g.I.Incoming.told g.T.Taker.numbers _ (c.in_ok-to.ensures.ends, c.hire-acceptor.ensures.channel.0)
    (ap (λ v. v.takes) (c.hire-acceptor.ensures.views.0 ∙ ap (λ v. with_more v) c.in_ok-to.ensures.pass.1)) c.new.ensures.items
