use Rattle.std.proofs.Common.{Some, ap, sym, subst, ◌∙◌, ◌≡◌, ◌<◌, length}
use Rattle.std.specs.Option.{IfSome}
use Rattle.sm_acks.specs.declared.end.TheConstants.{MOST_UNACKNOWLEDGED}
use Rattle.sm_live.proofs.Reservations.{free_joined, reservation_stays}
use Rattle.sm_live.proofs.Seen.{if_row, joined_seen, row_there}
use Rattle.sm_live.specs.Kept.{LiveView, all_seen}
use Rattle.sm_live.specs.Sessions.{waits, with_session}
use Rattle.sm_resumption.proofs.RowFacts.{there}
use Rattle.sm_resumption.specs.Housed.{IsFree}
use Rattle.sm_resumption.specs.Moves.{Joins}
use Rattle.sm_resumption.specs.Rows.{row_of}
use Rattle.sm_resumption.specs.declared.session.Row.{Row}
use Rattle.sm_live.proofs.live.Live.put.Goals as goal
use Rattle.sm_live.proofs.live.Live.put.Goals.{After-put_reserved}

pub put_reserved-requires-clause-lives : goal.put_reserved-requires-clause-lives
put_reserved-requires-clause-lives c = row_there c.args.number c.self.inside.pool c.self.inside.table.rows c.args.self.now.sessions (ap (λ (l : LiveView). l.sessions) c.self.view_is) c.requires.lives

pub put_reserved-requires-clause-few : goal.put_reserved-requires-clause-few
put_reserved-requires-clause-few c = if_row (λ s. length s.waiting < MOST_UNACKNOWLEDGED) c.args.number c.self.inside.pool c.self.inside.table.rows c.args.self.now.sessions (ap (λ (l : LiveView). l.sessions) c.self.view_is) c.requires.few

-- the row, and what the put did to its queue
joined : (c : After-put_reserved) → (x : Row) × (row_of c.args.number c.self.inside.table.rows ≡ Some x) × Joins c.args.bytes.items x c.self.inside.pool c.put_reserved.new.pool
joined c =
    let (x, found) = there (row_of c.args.number c.self.inside.table.rows) (row_there c.args.number c.self.inside.pool c.self.inside.table.rows c.args.self.now.sessions (ap (λ (l : LiveView). l.sessions) c.self.view_is) c.requires.lives) in
    (x, found, subst (λ o. IfSome o (λ r. Joins c.args.bytes.items r c.self.inside.pool c.put_reserved.new.pool)) found c.put_reserved.ensures.pool)

pub invariant_of-self : goal.invariant_of-self
invariant_of-self c =
    let (x, found, joins) = joined c in (
      c.put_reserved.ensures.housed,
      reservation_stays c.self.inside.reservation c.self.inside.table c.put_reserved.new.self c.self.inside.pool c.put_reserved.new.pool c.put_reserved.ensures.kept c.put_reserved.ensures.reservation c.put_reserved.ensures.next
          (λ q free. subst (λ rows. IsFree q rows c.put_reserved.new.pool) (sym c.put_reserved.ensures.rows) (free_joined q c.args.number c.args.bytes.items x c.self.inside.table.rows c.self.inside.pool c.put_reserved.new.pool found joins free))
          c.self.invariant.1,
      c.put_reserved.ensures.made ∙ c.self.invariant.2,
    )

pub returns-clause-sessions : goal.returns-clause-sessions
returns-clause-sessions c =
    let (x, found, joins) = joined c in
    ap (all_seen c.put_reserved.new.pool) c.put_reserved.ensures.rows
    ∙ joined_seen c.args.number c.self.inside.table.next c.args.bytes.items x c.self.inside.table.rows c.self.inside.pool c.put_reserved.new.pool c.keeps_rule.ensures c.self.invariant.0 found joins
    ∙ ap (λ (l : LiveView). with_session c.args.number (waits c.args.bytes.items) l.sessions) c.self.view_is
