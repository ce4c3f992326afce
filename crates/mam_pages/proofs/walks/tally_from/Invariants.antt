use Rattle.std.proofs.Common.{◌≡◌}
use Rattle.mam_pages.proofs.Walked.{IsWalked, steps_left}
use Rattle.mam_pages.specs.Kept.{last_number}
use Rattle.mam_pages.proofs.walks.tally_from.Given as goal

abbrev pub invariant-loop-next : goal.invariant-loop-next
invariant-loop-next g l =
    record {
      same : g.V.Look.archive l.look ≡ g.V.Look.archive l.fn.look;
      walked : IsWalked (g.V.Look.archive l.fn.look) l.query l.fn.span (g.V.Look.looks l.fn.look) (g.V.Look.looks l.look) l.next l.tally;
    }

abbrev pub decreases-loop-next : goal.decreases-loop-next
decreases-loop-next g l = steps_left (last_number (g.V.Look.archive l.fn.look).entries) l.next
