-- What clauses see of the numbers that a page has so far.
use Rattle.std.specs.Prelude.{ℕ, List}

-- the numbers, and how many they may be
pub record WindowView : Type 0 where
  pub most : ℕ
  pub numbers : List ℕ
