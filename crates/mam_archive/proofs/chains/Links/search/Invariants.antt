use Rattle.std.proofs.Common.{◌≡◌, ℕ, ◌-◌, ◌<◌, ◌≤◌, List, Some, length, map, slice_get}
use Rattle.mam_archive.specs.Chained.{AreChains, IsBelow}
use Rattle.mam_archive.specs.Peers.{peer_of}
use Rattle.mam_archive.proofs.chains.Links.search.Given as goal

-- the keys in front are below the peer, and those behind above it
abbrev pub invariant-loop-low : goal.invariant-loop-low
invariant-loop-low l = record {
  order : l.low ≤ l.high;
  high : l.high ≤ length l.self.chains.items;
  below : (keys : List (List ℕ)) → AreChains keys l.first (map (peer_of l.owner) l.entries.items) l.self.chains.items →
      (i : ℕ) (q : List ℕ) → i < l.low → slice_get keys i ≡ Some q → IsBelow q l.peer;
  above : (keys : List (List ℕ)) → AreChains keys l.first (map (peer_of l.owner) l.entries.items) l.self.chains.items →
      (i : ℕ) (q : List ℕ) → l.high ≤ i → slice_get keys i ≡ Some q → IsBelow l.peer q;
}

abbrev pub decreases-loop-low : goal.decreases-loop-low
decreases-loop-low l = l.high - l.low
