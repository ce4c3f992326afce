-- What the laws of `connections` say.
use Rattle.std.specs.Prelude.{◌≡◌, ℕ, Bool, false, [], List, Err, Some, slice_get}
use Rattle.cl_core.specs.UserCalls.{catch_up_answer, say_answer}
use Rattle.cl_core.specs.declared.faults.CatchUpStart.{CatchUpStart}
use Rattle.cl_core.specs.declared.faults.SayFault.{SayFault}
use Rattle.sim_4_links_follow.specs.Following.{IsOfNobody, IsOnNone}
use Rattle.sim_3_items.specs.ItemMoves.{CatchUp, Down, ItemMove, Say, Up, UpEnd, moved}
use Rattle.sim_3_items.specs.ItemPipes.{ItemWire, is_end_due}
use Rattle.sim_3_items.specs.ItemWorlds.{ItemDevice, ItemWorld}
use Rattle.cmd_schedule.specs.Schedules.{WireView}
use Rattle.sim_1_applications.specs.Devices.{AppWorld}
use Rattle.sim_5_moves.specs.Running.{Bounds, DoesBy, MoveSimulates, WorldSimulates, spoken_by_move}

abbrev pub MovesThatDoNothingRunStill : Type 0
MovesThatDoNothingRunStill =
    (schedule : WireView) (b : Bounds) (says : ℕ) (m : ItemMove) (w : ItemWorld) (x : AppWorld) → (runs : WorldSimulates schedule b says w x) → moved m w ≡ w → spoken_by_move m w ≡ [] → ((i : ℕ) → DoesBy m w i []) → MoveSimulates schedule b says m w x runs

abbrev pub MovesThatDoNothingRunNobody : Type 0
MovesThatDoNothingRunNobody =
    (schedule : WireView) (b : Bounds) (says : ℕ) (m : ItemMove) (w : ItemWorld) (x : AppWorld) → (runs : WorldSimulates schedule b says w x) → IsOfNobody m w → MoveSimulates schedule b says m w x runs

abbrev pub MovesThatDoNothingRunUp : Type 0
MovesThatDoNothingRunUp =
    (schedule : WireView) (b : Bounds) (says position : ℕ) (w : ItemWorld) (x : AppWorld) (wire : ItemWire) → (runs : WorldSimulates schedule b says w x) → slice_get w.wires position ≡ Some wire → wire.up.items ≡ []
    → MoveSimulates schedule b says (Up position) w x runs

abbrev pub MovesThatDoNothingRunTold : Type 0
MovesThatDoNothingRunTold =
    (schedule : WireView) (b : Bounds) (says position : ℕ) (w : ItemWorld) (x : AppWorld) (wire : ItemWire) → (runs : WorldSimulates schedule b says w x) → slice_get w.wires position ≡ Some wire → is_end_due wire.up ≡ false
    → MoveSimulates schedule b says (UpEnd position) w x runs

abbrev pub MovesThatDoNothingRunDown : Type 0
MovesThatDoNothingRunDown =
    (schedule : WireView) (b : Bounds) (says position : ℕ) (w : ItemWorld) (x : AppWorld) (wire : ItemWire) → (runs : WorldSimulates schedule b says w x) → slice_get w.wires position ≡ Some wire → IsOnNone position wire w
    → MoveSimulates schedule b says (Down position) w x runs

abbrev pub RefusedCallsRunSays : Type 0
RefusedCallsRunSays =
    (schedule : WireView) (b : Bounds) (says position : ℕ) (to text : List ℕ) (private : Bool) (w : ItemWorld) (x : AppWorld) (d : ItemDevice) (fault : SayFault) → (runs : WorldSimulates schedule b says w x) → slice_get w.devices position ≡ Some d
    → say_answer d.client text ≡ Err fault → MoveSimulates schedule b says (Say position to text private) w x runs

abbrev pub RefusedCallsRunAsks : Type 0
RefusedCallsRunAsks =
    (schedule : WireView) (b : Bounds) (says position most : ℕ) (w : ItemWorld) (x : AppWorld) (d : ItemDevice) (fault : CatchUpStart) → (runs : WorldSimulates schedule b says w x) → slice_get w.devices position ≡ Some d
    → catch_up_answer d.client ≡ Err fault → MoveSimulates schedule b says (CatchUp position most) w x runs
