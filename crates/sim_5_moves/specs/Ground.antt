-- What is known of each world of the applications that the events of a schedule reach.
use Rattle.std.specs.Prelude.{◌≡◌, ℕ, ◌<◌, ◌^◌, length}
use Rattle.sim_5_devices.specs.Named.{AreNamed}
use Rattle.cmd_schedule.specs.Schedules.{WireView}
use Rattle.sim_1_applications.specs.Devices.{AppWorld}
use Rattle.sim_1_applications.specs.Kept.{Read, Taken}
use Rattle.sim_1_applications.specs.Runs.{owned_of}
use Rattle.sim_5_moves.specs.Running.{keep_in}

pub record IsGround (schedule : WireView) (x : AppWorld) : Type 0 where
  pub taken : Taken x
  pub read : Read x
  pub keeps : x.keep ≡ keep_in schedule
  pub named : AreNamed (owned_of schedule) x
  pub few : length x.takes < 2 ^ 64
