use Rattle.std.proofs.Common.{ap, map, ◌∙◌}
use Rattle.sm_live.proofs.Seen.{numbers_seen}
use Rattle.sm_live.specs.Kept.{LiveView}
use Rattle.sm_live.specs.Sessions.{is_of, number_of, sessions_of}
use Rattle.sm_live.proofs.live.Live.of_account.Goals as goal

pub returns : goal.returns
returns c =
    c.of_account.ensures.numbers ∙ numbers_seen (is_of c.args.account) c.self.inside.pool c.self.inside.table.rows
    ∙ ap (λ (l : LiveView). map number_of (sessions_of c.args.account l.sessions)) c.self.view_is
