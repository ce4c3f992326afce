use Rattle.std.proofs.Common.{◌≡◌, ℕ, ◌+◌, ◌≤◌, List, Some, slice_get}
use Rattle.mam_pages.specs.Stretches.{IsBackRun, chain_numbers}
use Rattle.mam_pages.proofs.stretch.fill_back.Given as goal

abbrev pub invariant-loop-at : goal.invariant-loop-at
invariant-loop-at g l =
    record {
      same : g.V.Look.archive l.look ≡ g.V.Look.archive l.fn.look;
      run : (peer : List ℕ) → (position : ℕ) → slice_get (chain_numbers (g.V.Look.archive l.fn.look) peer) position ≡ Some l.fn.last → l.fn.count ≤ position + 1 →
          IsBackRun (chain_numbers (g.V.Look.archive l.fn.look) peer) position l.fn.count l.at l.number l.slots;
      looks : g.V.Look.looks l.look ≤ g.V.Look.looks l.fn.look + l.at;
    }
