-- Numbers drawn one after the other, each from the state that the one before it left (a linear congruential generator).
use Rattle.std.specs.Prelude.{ℕ, ◌+◌, ◌*◌, ◌/◌, ◌%◌, ◌^◌}

-- what was drawn, and the state behind it
pub record Drawn (A : Type 0) : Type 0 where
  pub value : A
  pub state : ℕ

abbrev pub next_state : ℕ → ℕ
next_state state = (state * 6364136223846793005 + 1442695040888963407) % 2 ^ 64

-- a number below a bound
abbrev pub draw : ℕ → ℕ → Drawn ℕ
draw bound state = record { value = (next_state state / 2 ^ 33) % bound; state = next_state state }
