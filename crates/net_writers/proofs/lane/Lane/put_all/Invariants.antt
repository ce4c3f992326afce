use Rattle.std.proofs.Common.{◌≡◌, ◌+◌, ◌++◌, ℕ, List, false, length}
use Rattle.std.specs.Vec.Iter.{into_iter_items, into_iter_len}
use Rattle.net_writers.specs.Lanes.{IsLane}
use Rattle.net_writers.specs.Parcels.{joined}
use Rattle.net_writers.proofs.HandedParcels.{IsHanded}
use Rattle.net_writers.proofs.lane.Lane.put_all.Given as goal

-- those so far were handed over
abbrev pub invariant-loop-parcel : goal.invariant-loop-parcel
invariant-loop-parcel g l = record {
  lane : (bytes : List ℕ) × (count : ℕ) × IsLane bytes count l.self;
  unshut : l.self.shut ≡ false;
  handed : (bytes : List ℕ) (count : ℕ) → IsLane bytes count l.fn.self → IsHanded (λ b n. IsLane b n l.self) (bytes ++ joined l.fn.parcels.items) (count + length l.fn.parcels.items) (into_iter_items l.parcel-iterator);
  left : into_iter_len l.parcel-iterator ≡ length (into_iter_items l.parcel-iterator);
  worker : l.self.worker ≡ l.fn.self.worker;
}
