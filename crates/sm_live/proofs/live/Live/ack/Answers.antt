use Rattle.std.proofs.Common.{Some, ap, subst, ◌∙◌, ◌≡◌}
use Rattle.std.specs.Option.{IfSome}
use Rattle.sm_live.proofs.Reservations.{free_tried, reservation_stays}
use Rattle.sm_live.proofs.Seen.{Tried, if_session, row_there, tried_seen}
use Rattle.sm_live.specs.Kept.{LiveView}
use Rattle.sm_live.specs.Sessions.{ack_answer}
use Rattle.sm_resumption.proofs.RowFacts.{there}
use Rattle.sm_resumption.specs.Moves.{PoolAcknowledged, ack_answer as ack_answer_row}
use Rattle.sm_resumption.specs.Rows.{row_of}
use Rattle.sm_resumption.specs.declared.session.Row.{Row}
use Rattle.sm_live.proofs.live.Live.ack.Goals as goal
use Rattle.sm_live.proofs.live.Live.ack.Goals.{After-ack}

pub ack-requires-clause-lives : goal.ack-requires-clause-lives
ack-requires-clause-lives c = row_there c.args.number c.self.inside.pool c.self.inside.table.rows c.args.self.now.sessions (ap (λ (l : LiveView). l.sessions) c.self.view_is) c.requires.lives

-- the row, the answer, and what the count did to its queue
counted : (c : After-ack) → (x : Row) × (row_of c.args.number c.self.inside.table.rows ≡ Some x) × (c.ack.result ≡ ack_answer_row c.args.h x c.self.inside.pool) × PoolAcknowledged c.args.h x c.self.inside.pool c.ack.new.pool
counted c =
    let (x, found) = there (row_of c.args.number c.self.inside.table.rows) (row_there c.args.number c.self.inside.pool c.self.inside.table.rows c.args.self.now.sessions (ap (λ (l : LiveView). l.sessions) c.self.view_is) c.requires.lives) in
    (x, found, subst (λ o. IfSome o (λ r. c.ack.result ≡ ack_answer_row c.args.h r c.self.inside.pool)) found c.ack.ensures.answer, subst (λ o. IfSome o (λ r. PoolAcknowledged c.args.h r c.self.inside.pool c.ack.new.pool)) found c.ack.ensures.pool)

pub invariant_of-self : goal.invariant_of-self
invariant_of-self c =
    let (x, found, answer, change) = counted c in (
      c.ack.ensures.housed,
      reservation_stays c.self.inside.reservation c.self.inside.table c.ack.new.self c.self.inside.pool c.ack.new.pool c.ack.ensures.kept c.ack.ensures.reservation c.ack.ensures.next
          (λ q free. free_tried c.ack.result q c.args.h c.args.number x c.self.inside.table.rows c.ack.new.self.rows c.self.inside.pool c.ack.new.pool found answer c.ack.ensures.ok c.ack.ensures.err change free)
          c.self.invariant.1,
      c.ack.ensures.made ∙ c.self.invariant.2,
    )

pub returns-clause-answer : goal.returns-clause-answer
returns-clause-answer c = if_session (λ s. c.ack.result ≡ ack_answer c.args.h s) c.args.number c.self.inside.pool c.self.inside.table.rows c.args.self.now.sessions (ap (λ (l : LiveView). l.sessions) c.self.view_is) c.ack.ensures.answer

tried : (c : After-ack) → Tried c.ack.result c.args.h c.args.number c.args.self.now.sessions c.ack.new.self.rows c.ack.new.pool
tried c =
    let (x, found, answer, change) = counted c in
    tried_seen c.ack.result c.args.h c.args.number c.self.inside.table.next x c.self.inside.table.rows c.ack.new.self.rows c.self.inside.pool c.ack.new.pool c.args.self.now.sessions (ap (λ (l : LiveView). l.sessions) c.self.view_is)
    c.keeps_rule.ensures c.self.invariant.0 found answer c.ack.ensures.ok c.ack.ensures.err change

pub returns-clause-ok : goal.returns-clause-ok
returns-clause-ok c = (tried c).ok

pub returns-clause-err : goal.returns-clause-err
returns-clause-err c = (tried c).err
