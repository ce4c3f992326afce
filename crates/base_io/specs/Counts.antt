-- Counts of faults. A count never falls, and stays at 2 ^ 64 - 1 once there.
use Rattle.std.specs.Prelude.{◌≡◌, ℕ, ◌+◌, ◌-◌, ◌^◌, ◌<◌, ◌≤◌, min, Result, OnErr, OnOk}

-- The count after one more.
abbrev pub counted : ℕ → ℕ
counted n = min (n + 1) (2 ^ 64 - 1)

-- The count rose. This is said of a count that stands at its end too.
abbrev pub Rose : ℕ → ℕ → Type 0
Rose before now = counted before ≤ now

-- A call that fails has raised the count, and a call that is well has left it.
pub record HasCause {T E : Type 0} (before now : ℕ) (result : Result T E) : Type 0 where
  pub later : before ≤ now
  pub failed : OnErr result (Rose before now)
  pub quiet : OnOk result (now ≡ before)

-- The count neither rose nor stood at its end: the premise of what is promised where nothing failed.
pub record Quiet (before now : ℕ) : Type 0 where
  pub same : now ≡ before
  pub room : before < 2 ^ 64 - 1
