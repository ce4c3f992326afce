use Rattle.std.proofs.Common.{ap, inl, inr}
use Rattle.net_owner.proofs.OwnerSteps.{comes, pass_over, shut_door}
use Rattle.net_owner.proofs.stepping.Owner+R+I+Pair+I+O+T.hear.Goals as goal
use Rattle.net_owner.proofs.stepping.Owner+R+I+Pair+I+O+T.hear.Goals.{in-Came+else-from-eq0, in-Closed+else-from-eq0-2}
use Rattle.net_owner.specs.Arrivals.{is_closed}
use Rattle.net_owner.specs.Events.{told_in}
use Rattle.net_owner.specs.Acceptors.{is_arrival}
use Rattle.net_owner.specs.declared.item.What.{What}

pub admit-requires-clause-coming : goal.admit-requires-clause-coming
admit-requires-clause-coming g c κs within = comes g.T.Taker.events c.args.self.now c.args.item c.requires.going c.if-from-eq0.true (ap (λ (w : What _). is_arrival w) c.in-Came.is)

pub returns-in-Closed-clause-going : goal.returns-in-Closed-clause-going
returns-in-Closed-clause-going g c = shut_door g.T.Taker.events c.args.self.now c.args.item c.requires.going c.if-from-eq0-2.true (ap (λ (w : What _). is_closed w) c.in-Closed.is)

pub returns-in-Came-2-clause-going : goal.returns-in-Came-2-clause-going
returns-in-Came-2-clause-going g c = elim c.in-Came-2-1.branch [
  | in-Came+else-from-eq0 w ↦ pass_over g.T.Taker.events c.args.self.now c.args.item c.requires.going (inr (ap (λ (w : What _). told_in w) w.in-Came.is)) (inl w.if-from-eq0.false)
  | in-Closed+else-from-eq0-2 w ↦ pass_over g.T.Taker.events c.args.self.now c.args.item c.requires.going (inr (ap (λ (w : What _). told_in w) w.in-Closed.is)) (inl w.if-from-eq0-2.false)
]
