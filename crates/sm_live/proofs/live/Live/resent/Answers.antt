use Rattle.std.proofs.Common.{ap, ◌∙◌}
use Rattle.sm_live.proofs.Seen.{lives_absent, resent_seen, row_there}
use Rattle.sm_live.specs.Kept.{LiveView}
use Rattle.sm_resumption.specs.Rows.{row_of}
use Rattle.sm_acks.specs.Counters.{ahead}
use Rattle.sm_live.proofs.live.Live.resent.Goals as goal

pub unreachable-requires : goal.unreachable-requires
unreachable-requires c = lives_absent (λ r. r.end) (row_of c.args.number c.self.inside.table.rows) (row_there c.args.number c.self.inside.pool c.self.inside.table.rows c.args.self.now.sessions (ap (λ (l : LiveView). l.sessions) c.self.view_is) c.requires.lives) c.in-None.ensures

pub returns : goal.returns
returns c =
    resent_seen c.stanzas_from.result c.args.h c.args.number c.handled_more-handled.result c.queue.result c.in-Some.end.now c.self.inside.pool c.self.inside.table.rows c.args.self.now.sessions (ap (λ (l : LiveView). l.sessions) c.self.view_is) c.in-Some.ensures c.queue.ensures
    (c.handled_more-handled.ensures ∙ ap (ahead c.args.h) c.acked.ensures) c.stanzas_from.ensures
