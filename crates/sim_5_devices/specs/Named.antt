-- Worlds of the applications whose accounts and devices have the names of a schedule.
use Rattle.std.specs.Prelude.{◌≡◌, ℕ, true, List, Some, slice_get}
use Rattle.std.specs.List.{AllByRecursion}
use Rattle.cmd_schedule.specs.Contents.{Owned}
use Rattle.cmd_schedule.specs.Grammar.{is_name}
use Rattle.sim_1_applications.specs.Devices.{AppWorld, Device}

pub record IsNamed (o : Owned) : Type 0 where
  pub account : is_name o.account ≡ true
  pub device : is_name o.device ≡ true

-- each device is one of these, by its place
pub record AreNamed (owned : List Owned) (w : AppWorld) : Type 0 where
  pub accounts : AllByRecursion (λ name. is_name name ≡ true) w.accounts
  pub devices : AllByRecursion IsNamed owned
  pub homes : (i : ℕ) (d : Device) → slice_get w.devices i ≡ Some d → (o : Owned) × (slice_get owned i ≡ Some o) × (d.account ≡ o.account)
