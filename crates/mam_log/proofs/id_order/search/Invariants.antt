use Rattle.std.proofs.Common.{◌≡◌, ℕ, ◌-◌, ◌<◌, ◌≤◌, List, Some, length}
use Rattle.std.specs.List.{slice_get}
use Rattle.mam_archive.specs.Chained.{IsBelow}
use Rattle.mam_log.specs.LogPages.{ids_of}
use Rattle.mam_log.specs.Orders.{texts_at}
use Rattle.mam_log.proofs.id_order.search.Given as goal

-- the ids before `low` are below the id, and those from `high` on above it
abbrev pub invariant-loop-low : goal.invariant-loop-low
invariant-loop-low l = record {
  order : l.low ≤ l.high;
  high : l.high ≤ length l.positions;
  below : (i : ℕ) (q : List ℕ) → i < l.low → slice_get (texts_at (ids_of l.entries) l.positions) i ≡ Some q → IsBelow q l.id;
  above : (i : ℕ) (q : List ℕ) → l.high ≤ i → slice_get (texts_at (ids_of l.entries) l.positions) i ≡ Some q → IsBelow l.id q;
}

abbrev pub decreases-loop-low : goal.decreases-loop-low
decreases-loop-low l = l.high - l.low
