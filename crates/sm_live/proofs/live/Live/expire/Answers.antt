use Rattle.std.proofs.Common.{ap, sym, subst, ◌∙◌}
use Rattle.sm_live.proofs.Reservations.{free_expired, reservation_stays}
use Rattle.sm_live.proofs.Seen.{expired_seen}
use Rattle.sm_live.specs.Kept.{LiveView, all_seen}
use Rattle.sm_live.specs.Sessions.{unexpired}
use Rattle.sm_resumption.specs.Housed.{IsFree}
use Rattle.sm_live.proofs.live.Live.expire.Goals as goal

pub invariant_of-self : goal.invariant_of-self
invariant_of-self c = (
  c.expire.ensures.housed,
  reservation_stays c.self.inside.reservation c.self.inside.table c.expire.new.self c.self.inside.pool c.expire.new.pool c.expire.ensures.kept c.expire.ensures.reservation c.expire.ensures.next
      (λ q free. subst (λ rows. IsFree q rows c.expire.new.pool) (sym c.expire.ensures.rows) (free_expired q c.args.now c.self.inside.table.next c.self.inside.table.rows c.self.inside.pool c.expire.new.pool c.keeps_rule.ensures c.expire.ensures.pool free))
      c.self.invariant.1,
  c.expire.ensures.made ∙ c.self.invariant.2,
)

pub returns-clause-sessions : goal.returns-clause-sessions
returns-clause-sessions c =
    ap (all_seen c.expire.new.pool) c.expire.ensures.rows
    ∙ expired_seen c.args.now c.self.inside.table.next c.self.inside.table.rows c.self.inside.pool c.expire.new.pool c.keeps_rule.ensures c.self.invariant.0 c.expire.ensures.pool
    ∙ ap (λ (l : LiveView). unexpired c.args.now l.sessions) c.self.view_is
