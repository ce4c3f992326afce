-- What the laws of `runs` say.
use Rattle.std.specs.Prelude.{◌≡◌, ℕ, ◌≤◌, List, Some, slice_get}
use Rattle.cl_handlers.specs.declared.phase.Phase.TheVariants as phase
use Rattle.cmd_network.specs.Devices.{DeviceState}
use Rattle.cmd_schedule.specs.Contents.{Owned}
use Rattle.cmd_schedule.specs.LineLists.{IsLineList}
use Rattle.cmd_schedule.specs.Schedules.{WireView}
use Rattle.cmd_schedule.specs.declared.schedule.WireLine.{WireLine}
use Rattle.cmd_world.specs.Histories.{world_of}
use Rattle.sim_7_schedules.specs.LastLines.{BothHave, EndsInDial, EndsInRun, GoesByRounds, IsConnected, said_in_epoch, server_session, taken_in_epoch, world_behind}
use Rattle.sim_5_moves.specs.Running.{IsOwned}
use Rattle.sm_acks.specs.Delivery.{IsPrefix}
use Rattle.sm_live.specs.Sessions.{Session}

abbrev pub ARunIsRounds : Type 0
ARunIsRounds =
    (s : WireView) → IsLineList s → (before : List WireLine) (n : ℕ) → EndsInRun s before n → (i : ℕ) (d : DeviceState) (position : ℕ) → IsConnected (world_of s) i d position →
    (o : Owned) → IsOwned s i o → GoesByRounds s (world_behind s before) (world_of s) i o position n

abbrev pub ConnectedDevicesAreOnline : Type 0
ConnectedDevicesAreOnline =
    (s : WireView) → IsLineList s → (before : List WireLine) (n : ℕ) → EndsInRun s before n → 7 ≤ n → (i : ℕ) (d : DeviceState) (position : ℕ) → IsConnected (world_of s) i d position →
    d.client.client.phase ≡ phase.Online

abbrev pub SessionsThatStayAreResumed : Type 0
SessionsThatStayAreResumed =
    (s : WireView) → IsLineList s → (before : List WireLine) (n : ℕ) → EndsInRun s before n → 5 ≤ n → (i : ℕ) (d : DeviceState) (position : ℕ) → IsConnected (world_of s) i d position → EndsInDial s before i →
    (o : Owned) → IsOwned s i o → (both : BothHave s (world_behind s before) i o) → (t : Session (List ℕ)) → server_session s o (world_of s) ≡ Some t → t.shown.number ≡ both.session.shown.number →
    (d.client.client.phase ≡ phase.Online) × (d.client.client.epoch ≡ both.device.client.client.epoch)

abbrev pub WhatWasSaidIsTaken : Type 0
WhatWasSaidIsTaken =
    (s : WireView) → IsLineList s → (before : List WireLine) (n : ℕ) → EndsInRun s before n → 8 ≤ n → (i : ℕ) (d : DeviceState) (position : ℕ) → IsConnected (world_of s) i d position →
    (o : Owned) → IsOwned s i o → (old : DeviceState) → slice_get (world_behind s before).devices i ≡ Some old → old.client.client.epoch ≡ d.client.client.epoch →
    IsPrefix (said_in_epoch d.client.client.epoch old (world_behind s before)) (taken_in_epoch d.client.client.epoch o (world_of s))
