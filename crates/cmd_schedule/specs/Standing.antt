-- The steps of a schedule in their places, below what the steps before them declare.
use Rattle.std.specs.Prelude.{◌≡◌, ℕ, ◌≤◌, List, Some, IsTrue, length, take, slice_get}
use Rattle.cmd_schedule.specs.Contents.{accounts_of, devices_of}
use Rattle.cmd_schedule.specs.Grammar.{Declared, may_stand}
use Rattle.base_io.specs.Names.{position_of}
use Rattle.cmd_schedule.specs.declared.schedule.Step.{Step}

abbrev pub declared_in : List Step → Declared
declared_in steps = record { accounts = accounts_of steps; devices = devices_of steps }

-- each step may stand behind the steps before it, and there are at most 100,000
pub record AreRight (steps : List Step) : Type 0 where
  pub few : length steps ≤ 100000
  pub each : (i : ℕ) (step : Step) → slice_get steps i ≡ Some step → IsTrue (may_stand (declared_in (take i steps)) step)

-- no name stands twice
pub record AreOnce (names : List (List ℕ)) : Type 0 where
  pub first : (k : ℕ) (name : List ℕ) → slice_get names k ≡ Some name → position_of name names ≡ Some k
