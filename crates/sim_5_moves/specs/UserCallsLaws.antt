-- What the laws of `user_calls` say.
use Rattle.std.specs.Prelude.{◌≡◌, ℕ, Bool, List, Ok, Some, slice_get}
use Rattle.cl_core.specs.UserCalls.{catch_up_answer, say_answer}
use Rattle.sim_3_images.specs.Fitting.{MayItem}
use Rattle.sim_3_items.specs.ItemMoves.{CatchUp, Say}
use Rattle.sim_3_items.specs.ItemWorlds.{ItemDevice, ItemWorld}
use Rattle.cmd_schedule.specs.Contents.{Owned}
use Rattle.cmd_schedule.specs.Schedules.{WireView}
use Rattle.cmd_schedule.specs.LineLists.{IsLineList}
use Rattle.sim_1_applications.specs.Devices.{AppWorld}
use Rattle.sim_5_moves.specs.Running.{AreSmall, Bounds, IsInBounds, IsOwned, MoveSimulates, WorldSimulates}

abbrev pub SaysRun : Type 0
SaysRun =
    (schedule : WireView) (b : Bounds) (says : ℕ) (w : ItemWorld) (x : AppWorld) → IsLineList schedule → AreSmall b → (runs : WorldSimulates schedule b says w x) → (i : ℕ) (o : Owned) → IsOwned schedule i o → (d : ItemDevice) → slice_get w.devices i ≡ Some d
    → (to text : List ℕ) (private : Bool) → MayItem (Say i to text private) → IsInBounds b says (Say i to text private) w x → (n : ℕ) → say_answer d.client text ≡ Ok n → MoveSimulates schedule b says (Say i to text private) w x runs

abbrev pub CatchUpsRun : Type 0
CatchUpsRun =
    (schedule : WireView) (b : Bounds) (says : ℕ) (w : ItemWorld) (x : AppWorld) → IsLineList schedule → AreSmall b → (runs : WorldSimulates schedule b says w x) → (i : ℕ) (o : Owned) → IsOwned schedule i o → (d : ItemDevice) → slice_get w.devices i ≡ Some d
    → (most : ℕ) → MayItem (CatchUp i most) → IsInBounds b says (CatchUp i most) w x → catch_up_answer d.client ≡ Ok tt → MoveSimulates schedule b says (CatchUp i most) w x runs

abbrev pub CallsRunSays : Type 0
CallsRunSays =
    (schedule : WireView) (b : Bounds) (says : ℕ) (w : ItemWorld) (x : AppWorld) (position : ℕ) (to text : List ℕ) (private : Bool) → IsLineList schedule → AreSmall b → (runs : WorldSimulates schedule b says w x)
    → MayItem (Say position to text private) → IsInBounds b says (Say position to text private) w x → MoveSimulates schedule b says (Say position to text private) w x runs

abbrev pub CallsRunAsks : Type 0
CallsRunAsks =
    (schedule : WireView) (b : Bounds) (says : ℕ) (w : ItemWorld) (x : AppWorld) (position most : ℕ) → IsLineList schedule → AreSmall b → (runs : WorldSimulates schedule b says w x)
    → MayItem (CatchUp position most) → IsInBounds b says (CatchUp position most) w x → MoveSimulates schedule b says (CatchUp position most) w x runs
