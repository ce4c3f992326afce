use Rattle.std.proofs.Common.{◌≡◌, ◌↔◌, IsErr, ap, refl, true}
use Rattle.sm_live.proofs.Reservations.{tried_kept}
use Rattle.sm_live.proofs.Seen.{if_session, row_there, tried_written}
use Rattle.sm_live.specs.Kept.{LiveView}
use Rattle.sm_live.specs.Sessions.{enables}
use Rattle.sm_resumption.specs.Moves.{enabled}
use Rattle.sm_live.proofs.live.Live.enable.Goals as goal

pub enable-requires : goal.enable-requires
enable-requires c = row_there c.args.number c.self.inside.pool c.self.inside.table.rows c.args.self.now.sessions (ap (λ (l : LiveView). l.sessions) c.self.view_is) c.requires.lives

pub invariant_of-self : goal.invariant_of-self
invariant_of-self c =
    let kept = tried_kept c.enable.result c.args.number (enabled c.args.resume) c.self.inside.table c.enable.new.self c.self.inside.pool c.self.inside.reservation (record { same = λ r. refl }) (record { same = λ r. refl }) c.enable.ensures.ok c.enable.ensures.err c.self.invariant.0 c.self.invariant.1 in
    (kept.0, kept.1, c.self.invariant.2)

pub returns-clause-already : goal.returns-clause-already
returns-clause-already c = if_session (λ s. IsErr c.enable.result ↔ (s.shown.counted ≡ true)) c.args.number c.self.inside.pool c.self.inside.table.rows c.args.self.now.sessions (ap (λ (l : LiveView). l.sessions) c.self.view_is) c.enable.ensures.already

pub returns-clause-ok : goal.returns-clause-ok
returns-clause-ok c =
    tried_written c.enable.result c.args.number (enables c.args.resume) (enabled c.args.resume) c.self.inside.table c.enable.new.self c.self.inside.pool c.args.self.now.sessions (ap (λ (l : LiveView). l.sessions) c.self.view_is) (λ r. refl) c.enable.ensures.ok
