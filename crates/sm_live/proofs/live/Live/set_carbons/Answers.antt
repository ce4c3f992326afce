use Rattle.std.proofs.Common.{ap, refl, ◌∙◌}
use Rattle.sm_live.proofs.Reservations.{written_kept}
use Rattle.sm_live.proofs.Seen.{row_there, written_seen}
use Rattle.sm_live.specs.Kept.{LiveView, all_seen}
use Rattle.sm_live.specs.Sessions.{copies, with_session}
use Rattle.sm_resumption.specs.Moves.{copying}
use Rattle.sm_live.proofs.live.Live.set_carbons.Goals as goal

pub set_carbons-requires : goal.set_carbons-requires
set_carbons-requires c = row_there c.args.number c.self.inside.pool c.self.inside.table.rows c.args.self.now.sessions (ap (λ (l : LiveView). l.sessions) c.self.view_is) c.requires.lives

pub invariant_of-self : goal.invariant_of-self
invariant_of-self c =
    let kept = written_kept c.args.number (copying c.args.on) c.self.inside.table c.set_carbons.new.self c.self.inside.pool c.self.inside.reservation (record { same = λ r. refl }) (record { same = λ r. refl }) c.set_carbons.ensures c.self.invariant.0 c.self.invariant.1 in
    (kept.0, kept.1, c.self.invariant.2)

pub returns-clause-sessions : goal.returns-clause-sessions
returns-clause-sessions c =
    ap (all_seen c.self.inside.pool) c.set_carbons.ensures.rows
    ∙ written_seen c.args.number (copies c.args.on) (copying c.args.on) c.self.inside.pool c.self.inside.table.rows (λ r. refl)
    ∙ ap (λ (l : LiveView). with_session c.args.number (copies c.args.on) l.sessions) c.self.view_is
