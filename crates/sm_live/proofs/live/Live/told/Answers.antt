use Rattle.std.proofs.Common.{ap, length, ◌∙◌}
use Rattle.sm_live.proofs.Seen.{absent_seen, told_seen}
use Rattle.sm_live.specs.Kept.{LiveView}
use Rattle.sm_live.specs.Sessions.{is_numbered, told}
use Rattle.sm_acks.specs.Queues.{list_of}
use Rattle.sm_live.proofs.live.Live.told.Goals as goal

pub returns-in_err-shown-clause-told : goal.returns-in_err-shown-clause-told
returns-in_err-shown-clause-told c = c.from_residual.ensures ∙ absent_seen (λ r. r.shown) told (is_numbered c.args.number) c.self.inside.pool c.self.inside.table.rows c.args.self.now.sessions (ap (λ (l : LiveView). l.sessions) c.self.view_is) c.in_err-shown.ensures

pub returns-clause-told : goal.returns-clause-told
returns-clause-told c =
    told_seen c.args.number c.in_ok-shown.shown.now c.in_ok-end.end.now c.handled.result c.len.result c.of.result c.self.inside.pool c.self.inside.table.rows c.args.self.now.sessions (ap (λ (l : LiveView). l.sessions) c.self.view_is) c.in_ok-shown.ensures c.in_ok-end.ensures c.handled.ensures
    (c.len.ensures ∙ ap (λ q. length (list_of q c.self.inside.pool)) c.queue.ensures) c.of.ensures
