use Rattle.std.proofs.Common.{ap, sym, subst, ◌∙◌}
use Rattle.sm_live.proofs.Reservations.{free_refused, high_refused, reservation_stays, reservation_there}
use Rattle.sm_live.proofs.Seen.{answered_seen, none_row, resumed_seen}
use Rattle.sm_live.specs.Kept.{LiveView, all_seen}
use Rattle.sm_live.specs.Sessions.{after_resume, is_at, is_resumed_by, resume_answer, session_resumed}
use Rattle.sm_resumption.specs.Housed.{IsFree}
use Rattle.sm_resumption.specs.Moves.{is_resumed_by as is_resumed_by_row, row_resumed}
use Rattle.sm_live.proofs.live.Live.resume.Goals as goal

pub resume-answer-requires-clause-conn : goal.resume-answer-requires-clause-conn
resume-answer-requires-clause-conn c = none_row (is_at c.args.conn) c.self.inside.pool c.self.inside.table.rows c.args.self.now.sessions (ap (λ (l : LiveView). l.sessions) c.self.view_is) c.requires.conn

pub invariant_of-self-else-is_ok : goal.invariant_of-self-else-is_ok
invariant_of-self-else-is_ok c = (
  c.resume-answer.ensures.housed,
  reservation_stays c.self.inside.reservation c.self.inside.table c.resume-answer.new.self c.self.inside.pool c.resume-answer.new.pool c.resume-answer.ensures.kept c.resume-answer.ensures.reservation c.resume-answer.ensures.next
      (λ q free. subst (λ rows. IsFree q rows c.resume-answer.new.pool) (sym c.resume-answer.ensures.rows)
      (free_refused c.args.h c.args.conn c.in-Some.reservation.queue q c.self.inside.table.next (is_resumed_by_row c.args.previd.now c.args.account) c.self.inside.table.rows c.self.inside.pool c.resume-answer.new.pool c.keeps_rule.ensures c.resume-answer.ensures.pool
      (λ r is. high_refused c.args.h c.resume-answer.result (row_resumed c.args.previd.now c.args.account c.self.inside.table.rows) r c.self.inside.pool c.resume-answer.ensures.answer (sym c.is_ok.ensures.value ∙ c.if-is_ok.false) is) free))
      c.self.invariant.1,
  c.resume-answer.ensures.made ∙ c.self.invariant.2,
)

pub returns-then-is_ok-clause-answer : goal.returns-then-is_ok-clause-answer
returns-then-is_ok-clause-answer c =
    c.resume-answer.ensures.answer ∙ answered_seen c.args.h c.args.account c.args.previd.now c.self.inside.pool c.self.inside.table.rows
    ∙ ap (λ (l : LiveView). resume_answer c.args.h (session_resumed c.args.previd.now c.args.account l.sessions)) c.self.view_is

pub returns-then-is_ok-clause-sessions : goal.returns-then-is_ok-clause-sessions
returns-then-is_ok-clause-sessions c =
    ap (all_seen c.resume-answer.new.pool) c.resume-answer.ensures.rows
    ∙ resumed_seen c.args.h c.args.conn c.in-Some.reservation.queue c.self.inside.table.next (is_resumed_by c.args.previd.now c.args.account) c.self.inside.table.rows c.self.inside.pool c.resume-answer.new.pool c.keeps_rule.ensures c.self.invariant.0
    (reservation_there c.in-Some.reservation c.self.inside.reservation c.self.inside.table c.self.inside.pool c.in-Some.is c.self.invariant.1).free c.resume-answer.ensures.pool
    ∙ ap (λ (l : LiveView). after_resume c.args.h c.args.conn (session_resumed c.args.previd.now c.args.account l.sessions) l.sessions) c.self.view_is

pub returns-else-is_ok-clause-answer : goal.returns-else-is_ok-clause-answer
returns-else-is_ok-clause-answer c =
    c.resume-answer.ensures.answer ∙ answered_seen c.args.h c.args.account c.args.previd.now c.self.inside.pool c.self.inside.table.rows
    ∙ ap (λ (l : LiveView). resume_answer c.args.h (session_resumed c.args.previd.now c.args.account l.sessions)) c.self.view_is

pub returns-else-is_ok-clause-sessions : goal.returns-else-is_ok-clause-sessions
returns-else-is_ok-clause-sessions c =
    ap (all_seen c.resume-answer.new.pool) c.resume-answer.ensures.rows
    ∙ resumed_seen c.args.h c.args.conn c.in-Some.reservation.queue c.self.inside.table.next (is_resumed_by c.args.previd.now c.args.account) c.self.inside.table.rows c.self.inside.pool c.resume-answer.new.pool c.keeps_rule.ensures c.self.invariant.0
    (reservation_there c.in-Some.reservation c.self.inside.reservation c.self.inside.table c.self.inside.pool c.in-Some.is c.self.invariant.1).free c.resume-answer.ensures.pool
    ∙ ap (λ (l : LiveView). after_resume c.args.h c.args.conn (session_resumed c.args.previd.now c.args.account l.sessions) l.sessions) c.self.view_is
