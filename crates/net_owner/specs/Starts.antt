-- What clauses see of a spawner of which chosen calls fail.
use Rattle.std.specs.Prelude.{ℕ, List}

-- how many threads were asked for, the numbers of those that are refused, from 1, how many could not be started, and how many
-- were started
pub record StartsView : Type 0 where
  pub made : ℕ
  pub fails : List ℕ
  pub faults : ℕ
  pub started : ℕ

-- nothing was asked for yet
abbrev pub new_starts : List ℕ → StartsView
new_starts fails = record { made = 0; fails = fails; faults = 0; started = 0 }
