-- What the laws of `grounds_known` say.
use Rattle.std.specs.Prelude.{ℕ}
use Rattle.sim_5_moves.specs.Ground.{IsGround}
use Rattle.sim_3_items.specs.ItemWorlds.{ItemWorld}
use Rattle.cmd_schedule.specs.Schedules.{WireView}
use Rattle.cmd_schedule.specs.LineLists.{IsLineList}
use Rattle.sim_1_applications.specs.Devices.{AppWorld}
use Rattle.sim_5_moves.specs.Running.{AreSmall, Bounds, WorldSimulates}

abbrev pub GroundsAreKnown : Type 0
GroundsAreKnown =
    (schedule : WireView) → IsLineList schedule → (b : Bounds) → AreSmall b → (says : ℕ) (w : ItemWorld) (x : AppWorld) → WorldSimulates schedule b says w x → IsGround schedule x
