-- What the laws of `users` say.
use Rattle.std.specs.Prelude.{ℕ}
use Rattle.sim_3_items.specs.ItemMoves.{Close, Forget}
use Rattle.sim_3_items.specs.ItemWorlds.{ItemWorld}
use Rattle.cmd_schedule.specs.Contents.{Owned}
use Rattle.cmd_schedule.specs.Schedules.{WireView}
use Rattle.sim_1_applications.specs.Devices.{AppWorld}
use Rattle.sim_5_moves.specs.Running.{Bounds, IsOwned, MoveSimulates, WorldSimulates}

abbrev pub UsersRunForgets : Type 0
UsersRunForgets =
    (schedule : WireView) (b : Bounds) (says : ℕ) (w : ItemWorld) (x : AppWorld) → (runs : WorldSimulates schedule b says w x) → (i : ℕ) (o : Owned) → IsOwned schedule i o → MoveSimulates schedule b says (Forget i) w x runs

abbrev pub UsersRunCloses : Type 0
UsersRunCloses =
    (schedule : WireView) (b : Bounds) (says : ℕ) (w : ItemWorld) (x : AppWorld) → (runs : WorldSimulates schedule b says w x) → (i : ℕ) (o : Owned) → IsOwned schedule i o → MoveSimulates schedule b says (Close i) w x runs
