use Rattle.std.proofs.Common.{◌≡◌, ◌+◌, ◌≤◌, ◌++◌, take}
use Rattle.mam_pages.proofs.window.push_all.Given as goal

abbrev pub invariant-loop-number : goal.invariant-loop-number
invariant-loop-number l =
    record {
      items : l.numbers.items ≡ l.initial.numbers.items ++ take l.number-index l.more;
      spare : l.initial.numbers.spare ≤ l.numbers.spare + l.number-index;
    }
