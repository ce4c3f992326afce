use Rattle.std.proofs.Common.{◌≡◌, ℕ, ◌+◌, ◌≤◌, List, Some, length, slice_get}
use Rattle.mam_pages.specs.Stretches.{IsRun, chain_numbers}
use Rattle.mam_pages.proofs.stretch.numbers_from.Given as goal

abbrev pub invariant-loop-at : goal.invariant-loop-at
invariant-loop-at g l =
    record {
      same : g.V.Look.archive l.look ≡ g.V.Look.archive l.fn.look;
      run : (peer : List ℕ) → (position : ℕ) → slice_get (chain_numbers (g.V.Look.archive l.fn.look) peer) position ≡ Some l.fn.first →
          position + l.fn.count ≤ length (chain_numbers (g.V.Look.archive l.fn.look) peer) →
          IsRun (chain_numbers (g.V.Look.archive l.fn.look) peer) position l._at l.number l.numbers.items;
      spare : l.fn.count ≤ l.numbers.spare + l._at + 1;
      looks : g.V.Look.looks l.look ≤ g.V.Look.looks l.fn.look + l._at;
    }
