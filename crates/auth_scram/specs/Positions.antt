-- The place where bytes leave a grammar.
use Rattle.std.specs.Prelude.{◌≡◌, ℕ, ◌+◌, ◌-◌, ◌<◌, ◌≤◌, List, ◌++◌, length, take}
use Rattle.auth_scram.specs.declared.fault.ScramFault.{ScramFault}
use Rattle.auth_scram.specs.declared.fault.ScramFault.TheVariants.{Malformed}

-- The bytes before the place begin a word of the grammar. With the byte there they begin none; at their end, they are
-- no word.
pub record LeavesAt (G : List ℕ → Type 0) (bytes : List ℕ) (at : ℕ) : Type 0 where
  pub within : at ≤ length bytes
  pub begins : (rest : List ℕ) × G (take at bytes ++ rest)
  pub departs : at < length bytes → (rest : List ℕ) → ¬ (G (take (at + 1) bytes ++ rest))
  pub ends : at ≡ length bytes → ¬ (G bytes)

-- the place where the rest begins
abbrev pub malformed : List ℕ → List ℕ → ScramFault
malformed bytes rest = Malformed (length bytes - length rest)
