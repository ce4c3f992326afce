-- Laws of what a run leaves open.
use Rattle.std.specs.Prelude.{◌≡◌, ◌⊎◌, ◌≤◌, ℕ, List, Some, length, slice_get}
use Rattle.cl_handlers.specs.declared.phase.Phase.TheVariants as phase
use Rattle.cmd_network.specs.Devices.{DeviceState}
use Rattle.cmd_schedule.specs.Contents.{Owned}
use Rattle.cmd_schedule.specs.LineLists.{IsLineList}
use Rattle.cmd_schedule.specs.Schedules.{WireView}
use Rattle.cmd_schedule.specs.declared.schedule.WireLine.{WireLine}
use Rattle.cmd_world.specs.Histories.{world_of}
use Rattle.cmd_world.specs.Lines.{round_from, rounds_of}
use Rattle.sim_5_moves.specs.Running.{IsOwned}
use Rattle.sim_7_schedules.specs.Calm.{AsksLate, FillsQueue, HasNothingOlder, IsConnectedBy}
use Rattle.sim_7_schedules.specs.LastLines.{BothHave, EndsInDial, EndsInRun, IsConnected, said_in_epoch, server_session, taken_in_epoch, world_behind}
use Rattle.sm_acks.specs.Delivery.{IsPrefix}
use Rattle.sm_live.specs.Sessions.{Session}

-- What ends the connection of a device in a run of so many rounds behind these lines: a late word in the first of them, or a
-- full queue in one of them.
abbrev pub IsEndedInRun : WireView → List WireLine → ℕ → ℕ → ℕ → Type 0
IsEndedInRun s before n i position =
    AsksLate (world_behind s before) (round_from 0 (length (world_behind s before).wires)) i position ⊎ FillsQueue (world_behind s before) (rounds_of n (length (world_behind s before).wires)) position

abbrev pub DialledDevicesAreConnected : Type 0
DialledDevicesAreConnected =
    (s : WireView) → IsLineList s → (before : List WireLine) (n : ℕ) → EndsInRun s before n → (i : ℕ) → EndsInDial s before i → (o : Owned) → IsOwned s i o → (position : ℕ) × IsConnectedBy (world_behind s before) i position

abbrev pub OpenConnectionsStayOpen : Type 0
OpenConnectionsStayOpen =
    (s : WireView) → IsLineList s → (before : List WireLine) (n : ℕ) → EndsInRun s before n → (i position : ℕ) → IsConnectedBy (world_behind s before) i position →
    (IsConnectedBy (world_of s) i position × (1 ≤ n → HasNothingOlder (world_of s) i position)) ⊎ IsEndedInRun s before n i position

abbrev pub ConnectedDevicesComeOnline : Type 0
ConnectedDevicesComeOnline =
    (s : WireView) → IsLineList s → (before : List WireLine) (n : ℕ) → EndsInRun s before n → 7 ≤ n → (i position : ℕ) → IsConnectedBy (world_behind s before) i position →
    ((d : DeviceState) × IsConnected (world_of s) i d position × (d.client.client.phase ≡ phase.Online)) ⊎ IsEndedInRun s before n i position

abbrev pub DialledSessionsAreResumed : Type 0
DialledSessionsAreResumed =
    (s : WireView) → IsLineList s → (before : List WireLine) (n : ℕ) → EndsInRun s before n → 5 ≤ n → (i position : ℕ) → IsConnectedBy (world_behind s before) i position → EndsInDial s before i →
    (o : Owned) → IsOwned s i o → (both : BothHave s (world_behind s before) i o) →
    ((d : DeviceState) × IsConnected (world_of s) i d position
    × ((t : Session (List ℕ)) → server_session s o (world_of s) ≡ Some t → t.shown.number ≡ both.session.shown.number → (d.client.client.phase ≡ phase.Online) × (d.client.client.epoch ≡ both.device.client.client.epoch)))
    ⊎ IsEndedInRun s before n i position

abbrev pub WhatConnectedDevicesSaidIsTaken : Type 0
WhatConnectedDevicesSaidIsTaken =
    (s : WireView) → IsLineList s → (before : List WireLine) (n : ℕ) → EndsInRun s before n → 8 ≤ n → (i position : ℕ) (old : DeviceState) → slice_get (world_behind s before).devices i ≡ Some old → IsConnectedBy (world_behind s before) i position →
    (o : Owned) → IsOwned s i o →
    ((d : DeviceState) × IsConnected (world_of s) i d position
    × (old.client.client.epoch ≡ d.client.client.epoch → IsPrefix (said_in_epoch d.client.client.epoch old (world_behind s before)) (taken_in_epoch d.client.client.epoch o (world_of s))))
    ⊎ IsEndedInRun s before n i position

abbrev pub LoneConnectionsEndByAFullQueue : Type 0
LoneConnectionsEndByAFullQueue =
    (s : WireView) → IsLineList s → (before : List WireLine) (n : ℕ) → EndsInRun s before n → (i position : ℕ) → IsConnectedBy (world_behind s before) i position → HasNothingOlder (world_behind s before) i position →
    (IsConnectedBy (world_of s) i position × HasNothingOlder (world_of s) i position) ⊎ FillsQueue (world_behind s before) (rounds_of n (length (world_behind s before).wires)) position
