use Rattle.std.proofs.Common.{◌≡◌, ◌+◌, ◌≤◌, take}
use Rattle.mam_pages.specs.Tallies.{IsTally}
use Rattle.mam_pages.specs.Walks.{wanted_numbers}
use Rattle.mam_pages.proofs.walks.tally_of_list.Given as goal

abbrev pub invariant-loop-at : goal.invariant-loop-at
invariant-loop-at g l =
    record {
      same : g.V.Look.archive l.look ≡ g.V.Look.archive l.fn.look;
      counted : IsTally l.fn.span (wanted_numbers (g.V.Look.archive l.fn.look).owner l.query (take l.at (g.V.Look.archive l.fn.look).entries)) l.tally;
      looks : g.V.Look.looks l.look ≤ g.V.Look.looks l.fn.look + l.at;
    }
