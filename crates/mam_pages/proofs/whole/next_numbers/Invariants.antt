use Rattle.std.proofs.Common.{◌≡◌, ◌+◌, ◌≤◌}
use Rattle.mam_pages.specs.Spans.{numbers_after}
use Rattle.mam_pages.proofs.whole.next_numbers.Given as goal

abbrev pub invariant-loop-at : goal.invariant-loop-at
invariant-loop-at l =
    record {
      items : l.numbers.items ≡ numbers_after l.following l.at;
      spare : l.count ≤ l.numbers.spare + l.at;
    }
