use Rattle.cmd_journal.specs.Journals.{Gone}
use Rattle.net_owner.proofs.OwnerSteps.{on_ok}
use Rattle.net_hub.proofs.MoreEvents.{bares_more, is_moment_told}
use Rattle.net_hub.proofs.Moments.{told_once}
use Rattle.net_hub.proofs.taking.RecorderTaker.gone.Goals as goal
use Rattle.net_hub.specs.Records.{IsKept}

pub leave-requires-clause-moment : goal.leave-requires-clause-moment
leave-requires-clause-moment g c = is_moment_told c.now_ms-now.result c.now_ms-now.ensures.last

pub returns-clause-gone : goal.returns-clause-gone
returns-clause-gone g c = on_ok c.leave.result (bares_more c.args.self.now.events.items c.leave.new.self.events.items (Gone c.args.k c.now_ms-now.result)) c.leave.ensures.events

pub returns-clause-right : goal.returns-clause-right
returns-clause-right g c = λ told drawn now since.
    told_once told drawn _ now _ c.now_ms-now.result (λ ms bs. IsKept g.O.Outgoing.told ms bs c.args.self.now) (λ ms bs. IsKept g.O.Outgoing.told ms bs c.leave.new.self) c.leave.result c.now_ms-now.ensures.told c.leave.ensures.kept since
