-- What the laws of `silent_worlds` say.
use Rattle.std.specs.Prelude.{ℕ}
use Rattle.sim_3_items.specs.ItemWorlds.{ItemWorld}
use Rattle.sim_5_moves.specs.Silent.{SilentSimulates, SilentWorld}
use Rattle.cmd_schedule.specs.Schedules.{WireView}
use Rattle.sim_1_applications.specs.Devices.{AppWorld}
use Rattle.sim_1_applications.specs.Kept.{Taken}
use Rattle.sim_5_moves.specs.Running.{Bounds, WorldSimulates}

abbrev pub SilentWorldsRun : Type 0
SilentWorldsRun =
    (schedule : WireView) (b : Bounds) (says : ℕ) (w : ItemWorld) (x : AppWorld) (after : ItemWorld) (passed : ℕ) → (runs : WorldSimulates schedule b says w x) → Taken x → SilentWorld schedule b w x after passed
    → SilentSimulates schedule b says w x runs after
