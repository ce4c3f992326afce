use Rattle.std.proofs.Common.{ap, refl, sym, subst, ◌∙◌}
use Rattle.std.specs.Option.{option_map}
use Rattle.sm_live.proofs.Reservations.{free_without, reservation_stays}
use Rattle.sm_live.proofs.Seen.{ended_seen, mapped_seen}
use Rattle.sm_live.specs.Kept.{LiveView, all_seen}
use Rattle.sm_live.specs.Sessions.{ended_of, is_numbered, session_of, without}
use Rattle.sm_resumption.specs.Housed.{IsFree}
use Rattle.sm_resumption.specs.Moves.{ended_of as ended_of_row}
use Rattle.sm_resumption.specs.Rows.{row_of}
use Rattle.sm_live.proofs.live.Live.end.Goals as goal

pub invariant_of-self : goal.invariant_of-self
invariant_of-self c = (
  c.end.ensures.housed,
  reservation_stays c.self.inside.reservation c.self.inside.table c.end.new.self c.self.inside.pool c.end.new.pool c.end.ensures.kept c.end.ensures.reservation c.end.ensures.next
      (λ q free. subst (λ rows. IsFree q rows c.end.new.pool) (sym c.end.ensures.rows) (free_without q c.args.number (row_of c.args.number c.self.inside.table.rows) c.self.inside.table.rows c.self.inside.pool c.end.new.pool refl c.end.ensures.pool free))
      c.self.invariant.1,
  c.end.ensures.made ∙ c.self.invariant.2,
)

pub returns-clause-ended : goal.returns-clause-ended
returns-clause-ended c =
    c.end.ensures.ended ∙ mapped_seen ended_of ended_of_row (is_numbered c.args.number) c.self.inside.pool c.self.inside.table.rows (λ r. refl)
    ∙ ap (λ (l : LiveView). option_map ended_of (session_of c.args.number l.sessions)) c.self.view_is

pub returns-clause-sessions : goal.returns-clause-sessions
returns-clause-sessions c =
    ap (all_seen c.end.new.pool) c.end.ensures.rows
    ∙ ended_seen c.args.number c.self.inside.table.next c.self.inside.table.rows c.self.inside.pool c.end.new.pool c.keeps_rule.ensures c.self.invariant.0 c.end.ensures.pool
    ∙ ap (λ (l : LiveView). without c.args.number l.sessions) c.self.view_is
