use Rattle.std.proofs.Common.{ap, refl, subst, ◌∙◌}
use Rattle.std.proofs.Math.Facts.{to_z-of_z}
use Rattle.sm_live.proofs.Reservations.{written_kept}
use Rattle.sm_live.proofs.Seen.{row_there, written_seen}
use Rattle.sm_live.specs.Kept.{LiveView, all_seen}
use Rattle.sm_live.specs.Sessions.{presents, with_session}
use Rattle.sm_resumption.specs.Changes.{ChangesRow}
use Rattle.sm_resumption.specs.Moves.{present}
use Rattle.sm_live.proofs.live.Live.set_presence.Goals as goal
use Rattle.sm_live.proofs.live.Live.set_presence.Goals.{After-set_presence}

pub set_presence-requires : goal.set_presence-requires
set_presence-requires c = row_there c.args.number c.self.inside.pool c.self.inside.table.rows c.args.self.now.sessions (ap (λ (l : LiveView). l.sessions) c.self.view_is) c.requires.lives

-- the priority is passed as its 8 bits
written : (c : After-set_presence) → ChangesRow c.args.number (present c.args.available c.args.priority) c.self.inside.table c.set_presence.new.self
written c = subst (λ p. ChangesRow c.args.number (present c.args.available p) c.self.inside.table c.set_presence.new.self) (to_z-of_z c.ranges.priority) c.set_presence.ensures

pub invariant_of-self : goal.invariant_of-self
invariant_of-self c =
    let kept = written_kept c.args.number (present c.args.available c.args.priority) c.self.inside.table c.set_presence.new.self c.self.inside.pool c.self.inside.reservation (record { same = λ r. refl }) (record { same = λ r. refl }) (written c) c.self.invariant.0 c.self.invariant.1 in
    (kept.0, kept.1, c.self.invariant.2)

pub returns-clause-sessions : goal.returns-clause-sessions
returns-clause-sessions c =
    ap (all_seen c.self.inside.pool) (written c).rows
    ∙ written_seen c.args.number (presents c.args.available c.args.priority) (present c.args.available c.args.priority) c.self.inside.pool c.self.inside.table.rows (λ r. refl)
    ∙ ap (λ (l : LiveView). with_session c.args.number (presents c.args.available c.args.priority) l.sessions) c.self.view_is
