use Rattle.std.proofs.Common.{ap, ◌∙◌}
use Rattle.std.specs.Option.{option_map}
use Rattle.sm_live.proofs.Seen.{absent_seen, same_session, same_told}
use Rattle.sm_live.specs.Kept.{LiveView}
use Rattle.sm_live.specs.Sessions.{is_named, told}
use Rattle.sm_resumption.specs.Moves.{number_of as number_of_row}
use Rattle.sm_live.proofs.live.Live.info_named.Goals as goal

pub returns-in_err-by_name-clause-told : goal.returns-in_err-by_name-clause-told
returns-in_err-by_name-clause-told c = c.from_residual.ensures ∙ absent_seen number_of_row told (is_named c.args.account c.args.resource.now) c.self.inside.pool c.self.inside.table.rows c.args.self.now.sessions (ap (λ (l : LiveView). l.sessions) c.self.view_is) c.in_err-by_name.ensures.number

pub returns-clause-told : goal.returns-clause-told
returns-clause-told c =
    c.told.ensures.told ∙ ap (option_map told) (same_session c.self.inside.table.next c.in_ok-by_name.field-0 (is_named c.args.account c.args.resource.now) c.self.inside.pool c.self.inside.table.rows c.args.self.now.sessions (ap (λ (l : LiveView). l.sessions) c.self.view_is) c.keeps_rule.ensures c.in_ok-by_name.ensures.number)

pub returns-clause-same : goal.returns-clause-same
returns-clause-same c =
    same_told c.in_ok-by_name.field-0 (is_named c.args.account c.args.resource.now) c.told.result c.args.self.now.sessions c.told.ensures.told (same_session c.self.inside.table.next c.in_ok-by_name.field-0 (is_named c.args.account c.args.resource.now) c.self.inside.pool c.self.inside.table.rows c.args.self.now.sessions (ap (λ (l : LiveView). l.sessions) c.self.view_is) c.keeps_rule.ensures c.in_ok-by_name.ensures.number)
