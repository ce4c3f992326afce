use Rattle.cmd_journal.specs.Journals.{Piece}
use Rattle.net_owner.proofs.OwnerSteps.{on_ok}
use Rattle.net_hub.proofs.MoreEvents.{bares_more, is_moment_told}
use Rattle.net_hub.proofs.Moments.{told_once}
use Rattle.net_hub.proofs.taking.RecorderTaker.piece.Goals as goal
use Rattle.net_hub.specs.Records.{IsKept}

pub hear-requires-clause-moment : goal.hear-requires-clause-moment
hear-requires-clause-moment g c = is_moment_told c.now_ms-now.result c.now_ms-now.ensures.last

pub returns-clause-gave : goal.returns-clause-gave
returns-clause-gave g c =
    on_ok c.hear.result (bares_more c.args.self.now.events.items c.hear.new.self.events.items (Piece c.args.k c.now_ms-now.result c.args.piece.bytes.items)) c.hear.ensures.events

pub returns-clause-right : goal.returns-clause-right
returns-clause-right g c = λ told drawn now since.
    told_once told drawn _ now _ c.now_ms-now.result (λ ms bs. IsKept g.O.Outgoing.told ms bs c.args.self.now) (λ ms bs. IsKept g.O.Outgoing.told ms bs c.hear.new.self) c.hear.result c.now_ms-now.ensures.told c.hear.ensures.kept since
