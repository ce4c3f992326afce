use Rattle.std.proofs.Common.{ap, refl, ◌∙◌}
use Rattle.std.specs.Option.{option_map}
use Rattle.sm_live.proofs.Seen.{mapped_seen}
use Rattle.sm_live.specs.Kept.{LiveView}
use Rattle.sm_live.specs.Sessions.{is_numbered, session_of}
use Rattle.sm_live.proofs.live.Live.view.Goals as goal

pub returns : goal.returns
returns c =
    c.view.ensures ∙ mapped_seen (λ s. s.shown) (λ r. r.shown) (is_numbered c.args.number) c.self.inside.pool c.self.inside.table.rows (λ r. refl)
    ∙ ap (λ (l : LiveView). option_map (λ s. s.shown) (session_of c.args.number l.sessions)) c.self.view_is
