use Rattle.std.proofs.Common.{ap, refl, sym, ◌∙◌}
use Rattle.std.specs.Option.{option_map}
use Rattle.sm_live.proofs.Seen.{absent_seen, mapped_seen, nobody_at, without_seen}
use Rattle.sm_live.specs.Kept.{LiveView}
use Rattle.sm_live.specs.Sessions.{is_at, number_of, session_at}
use Rattle.sm_resumption.specs.Moves.{number_of as number_of_row}
use Rattle.sm_live.proofs.live.Live.end_at.Goals as goal

pub returns-in_err-number-clause-number : goal.returns-in_err-number-clause-number
returns-in_err-number-clause-number c = c.from_residual.ensures ∙ absent_seen number_of_row number_of (is_at c.args.conn) c.self.inside.pool c.self.inside.table.rows c.args.self.now.sessions (ap (λ (l : LiveView). l.sessions) c.self.view_is) c.in_err-number.ensures.number

pub returns-in_err-number-clause-sessions : goal.returns-in_err-number-clause-sessions
returns-in_err-number-clause-sessions c = sym (nobody_at c.args.conn c.args.self.now.sessions (absent_seen number_of_row number_of (is_at c.args.conn) c.self.inside.pool c.self.inside.table.rows c.args.self.now.sessions (ap (λ (l : LiveView). l.sessions) c.self.view_is) c.in_err-number.ensures.number))

pub returns-clause-number : goal.returns-clause-number
returns-clause-number c =
    c.in_ok-number.ensures.number ∙ mapped_seen number_of number_of_row (is_at c.args.conn) c.self.inside.pool c.self.inside.table.rows (λ r. refl)
    ∙ ap (λ (l : LiveView). option_map number_of (session_at c.args.conn l.sessions)) c.self.view_is

pub returns-clause-sessions : goal.returns-clause-sessions
returns-clause-sessions c =
    c.end.ensures.sessions ∙ without_seen c.in_ok-number.number c.self.inside.table.next c.args.conn c.self.inside.pool c.self.inside.table.rows c.args.self.now.sessions (ap (λ (l : LiveView). l.sessions) c.self.view_is) c.keeps_rule.ensures c.in_ok-number.ensures.number
