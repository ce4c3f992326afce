-- Outputs that are joined into parcels.
use Rattle.std.specs.Prelude.{◌≡◌, ◌⊎◌, ℕ, ◌+◌, ◌≤◌, List, [], ◌++◌, length}
use Rattle.std.specs.List.{AllByRecursion, flat_map}
use Rattle.base_io.specs.Listed.{Listed}
use Rattle.net_writers.specs.declared.parcels.Parcels.{Parcels}

-- the bytes of some, one after another
abbrev pub joined : List (Listed ℕ) → List ℕ
joined parcels = flat_map (λ (p : Listed ℕ). p.items) parcels

-- These parcels have the bytes of outputs, in order, and are no more than these: so many outputs.
pub record IsOf (bytes : List ℕ) (count : ℕ) (parcels : Parcels) : Type 0 where
  pub bytes_are : bytes ≡ joined parcels.whole.items ++ parcels.last.items
  pub whole : length parcels.whole.items ≤ count
  pub all : (parcels.last.items ≡ []) ⊎ (length parcels.whole.items + 1 ≤ count)

-- each parcel has so many bytes at most
pub record AreWithin (most : ℕ) (parcels : Parcels) : Type 0 where
  pub whole : AllByRecursion (λ (p : Listed ℕ). length p.items ≤ most) parcels.whole.items
  pub last : length parcels.last.items ≤ most
