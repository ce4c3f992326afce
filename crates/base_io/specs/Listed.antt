-- What clauses see of a list that owns memory.
use Rattle.std.specs.Prelude.{ℕ, List}

-- the items, and how many more fit without further memory
pub record Listed (A : Type 0) : Type 0 where
  pub items : List A
  pub spare : ℕ
