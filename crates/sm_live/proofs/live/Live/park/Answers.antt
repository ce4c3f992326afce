use Rattle.std.proofs.Common.{ap, refl, sym, subst, ◌∙◌}
use Rattle.std.specs.Option.{option_map}
use Rattle.sm_live.proofs.Reservations.{free_lost, reservation_stays}
use Rattle.sm_live.proofs.Seen.{lost_seen, mapped_seen}
use Rattle.sm_live.specs.Kept.{LiveView, all_seen}
use Rattle.sm_live.specs.Sessions.{is_at, lost, lost_as, session_at}
use Rattle.sm_resumption.specs.Housed.{IsFree}
use Rattle.sm_resumption.specs.Moves.{lost_as as lost_as_row}
use Rattle.sm_resumption.specs.Rows.{is_at as is_at_row}
use Rattle.sm_live.proofs.live.Live.park.Goals as goal

pub invariant_of-self : goal.invariant_of-self
invariant_of-self c = (
  c.park.ensures.housed,
  reservation_stays c.self.inside.reservation c.self.inside.table c.park.new.self c.self.inside.pool c.park.new.pool c.park.ensures.kept c.park.ensures.reservation c.park.ensures.next
      (λ q free. subst (λ rows. IsFree q rows c.park.new.pool) (sym c.park.ensures.rows) (free_lost q c.args.now c.self.inside.table.next (is_at_row c.args.conn) c.self.inside.table.rows c.self.inside.pool c.park.new.pool c.keeps_rule.ensures c.park.ensures.pool free))
      c.self.invariant.1,
  c.park.ensures.made ∙ c.self.invariant.2,
)

pub returns-clause-answer : goal.returns-clause-answer
returns-clause-answer c =
    c.park.ensures.answer ∙ mapped_seen lost_as lost_as_row (is_at c.args.conn) c.self.inside.pool c.self.inside.table.rows (λ r. refl)
    ∙ ap (λ (l : LiveView). option_map lost_as (session_at c.args.conn l.sessions)) c.self.view_is

pub returns-clause-sessions : goal.returns-clause-sessions
returns-clause-sessions c =
    ap (all_seen c.park.new.pool) c.park.ensures.rows
    ∙ lost_seen c.self.inside.table.next c.args.now (is_at c.args.conn) c.self.inside.table.rows c.self.inside.pool c.park.new.pool c.keeps_rule.ensures c.self.invariant.0 c.park.ensures.pool
    ∙ ap (λ (l : LiveView). lost c.args.now (session_at c.args.conn l.sessions) l.sessions) c.self.view_is
