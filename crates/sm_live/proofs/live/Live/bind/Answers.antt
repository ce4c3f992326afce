use Rattle.std.proofs.Common.{ap, refl, ◌∙◌}
use Rattle.std.specs.Option.{option_map}
use Rattle.sm_live.proofs.Seen.{bound_seen, mapped_seen, none_row}
use Rattle.sm_live.specs.Kept.{LiveView, all_seen}
use Rattle.sm_live.specs.Sessions.{bound, ended_of, is_at, is_named, session_named}
use Rattle.sm_resumption.specs.Moves.{ended_of as ended_of_row}
use Rattle.sm_live.proofs.live.Live.bind.Goals as goal

pub bind-requires-clause-conn : goal.bind-requires-clause-conn
bind-requires-clause-conn c = none_row (is_at c.args.conn) c.self.inside.pool c.self.inside.table.rows c.args.self.now.sessions (ap (λ (l : LiveView). l.sessions) c.self.view_is) c.requires.conn

pub returns-clause-ended : goal.returns-clause-ended
returns-clause-ended c =
    c.bind.ensures.ended ∙ mapped_seen ended_of ended_of_row (is_named c.args.account c.args.resource) c.self.inside.pool c.self.inside.table.rows (λ r. refl)
    ∙ ap (λ (l : LiveView). option_map ended_of (session_named c.args.account c.args.resource l.sessions)) c.self.view_is

pub returns-clause-sessions : goal.returns-clause-sessions
returns-clause-sessions c =
    ap (all_seen c.bind.new.pool) c.bind.ensures.rows
    ∙ bound_seen c.self.inside.table.next c.args.account c.args.conn c.in-Some.reservation.queue c.args.resource c.self.inside.table.rows c.self.inside.pool c.bind.new.pool c.keeps_rule.ensures c.self.invariant.0 c.bind.ensures.pool c.bind.ensures.begins.0.queue
    ∙ ap (λ (l : LiveView). bound l.next c.args.account c.args.resource c.args.conn l.sessions) c.self.view_is
