use Rattle.std.proofs.Common.{ap, ◌∙◌}
use Rattle.sm_live.proofs.Seen.{answered_seen}
use Rattle.sm_live.specs.Kept.{LiveView}
use Rattle.sm_live.specs.Sessions.{resume_answer, session_resumed}
use Rattle.sm_live.proofs.live.Live.would_resume.Goals as goal

pub returns : goal.returns
returns c =
    c.would_resume.ensures ∙ answered_seen c.args.h c.args.account c.args.previd.now c.self.inside.pool c.self.inside.table.rows
    ∙ ap (λ (l : LiveView). resume_answer c.args.h (session_resumed c.args.previd.now c.args.account l.sessions)) c.self.view_is
