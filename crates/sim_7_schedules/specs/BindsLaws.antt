-- What the laws of `binds` say.
use Rattle.std.specs.Prelude.{◌≡◌, ℕ, ◌<◌, ◌≤◌, List, ◌∷◌, ◌++◌, Some, drop, length, slice_get}
use Rattle.std.specs.List.{flat_map}
use Rattle.cmd_network.specs.Devices.{DeviceState}
use Rattle.cmd_schedule.specs.Contents.{Owned}
use Rattle.cmd_schedule.specs.Schedules.{WireView}
use Rattle.cmd_schedule.specs.LineLists.{IsLineList}
use Rattle.sim_1_applications.specs.Devices.{Device, epoch_of}
use Rattle.sim_1_applications.specs.Events.{AppEvent}
use Rattle.sim_1_applications.specs.Events.Act.{Bind}
use Rattle.sim_1_applications.specs.Events.AppEvent.{At}
use Rattle.sim_1_applications.specs.Histories.{state_after}
use Rattle.sim_1_applications.specs.Laws.{AreAbove}
use Rattle.sim_1_applications.specs.Runs.{begins, moves_of, owned_of}
use Rattle.sim_7_schedules.specs.Simulation.{ScheduleSimulates}
use Rattle.sim_7_schedules.specs.Bound.{AreEnabled, HasBound, IsTakenAbove}
use Rattle.cmd_world.specs.Histories.{history_of}
use Rattle.cmd_world.specs.Worlds.{ByteWorld}

abbrev pub NothingOlderIsTakenAfterABindBound : Type 0
NothingOlderIsTakenAfterABindBound =
    (s : WireView) → IsLineList s → (j m k : ℕ) (w bound later : ByteWorld) → slice_get (history_of s) j ≡ Some w → slice_get (history_of s) m ≡ Some bound → slice_get (history_of s) k ≡ Some later → j ≤ m → m ≤ k
    → (i : ℕ) (o : Owned) (d : DeviceState) → slice_get (owned_of s) i ≡ Some o → slice_get w.devices i ≡ Some d → AreEnabled s o w → HasBound s o bound → IsTakenAbove d.client.client.epoch o bound later

abbrev pub NothingOlderIsTakenAfterABindLeft : Type 0
NothingOlderIsTakenAfterABindLeft =
    (s : WireView) → IsLineList s → (j k : ℕ) (w later : ByteWorld) → slice_get (history_of s) j ≡ Some w → slice_get (history_of s) k ≡ Some later → j ≤ k
    → (i : ℕ) (o : Owned) (d : DeviceState) → slice_get (owned_of s) i ≡ Some o → slice_get w.devices i ≡ Some d → (e : ℕ) → e < d.client.client.epoch → IsTakenAbove e o w later

abbrev pub NothingOlderIsTakenAfterAHandledBind : Type 0
NothingOlderIsTakenAfterAHandledBind =
    (s : WireView) → IsLineList s → (runs : ScheduleSimulates s) (front following : List AppEvent) (i : ℕ) (d : Device) → flat_map (λ move. move) (moves_of runs.runs) ≡ front ++ At i Bind ∷ following
    → slice_get (state_after (begins s) front).devices i ≡ Some d → AreAbove (epoch_of d.sessions) i (drop (length (state_after (begins s) front).takes) runs.last.takes)
