-- Bytes that go to the server change no device.
use Rattle.std.proofs.Common.{◌≡◌, ◌==◌, ℕ, Bool, true, false, cond, List, Option, Some, None, refl, ◌∙◌}
use Rattle.std.specs.List.{slice_get, slice_set}
use Rattle.net_pipes.specs.Pipes.{is_end_due}
use Rattle.cmd_network.specs.Devices.{DeviceState}
use Rattle.cmd_network.specs.Wires.{amount, up_end_reported}
use Rattle.cmd_network.specs.declared.wire.Wire.{Wire}
use Rattle.cmd_schedule.specs.declared.schedule.Count.{Count}
use Rattle.srv_core.specs.Events.{after_gone}
use Rattle.cmd_world.specs.Moves.{Up, moved, reported_up, served, served_by}
use Rattle.cmd_world.specs.Worlds.{ByteWorld, number_at}

devices_if : (b : Bool) (v w : ByteWorld) (ds : List DeviceState) → v.devices ≡ ds → w.devices ≡ ds → (cond b v w).devices ≡ ds
devices_if true v w ds p q = p
devices_if false v w ds p q = q

served_devices : (position : ℕ) (count : Count) (o : Option Wire) (w : ByteWorld) → (served_by position count o w).devices ≡ w.devices
served_devices position count None w = refl
served_devices position count (Some wire) w = devices_if (amount count wire.up == 0) w (served position (amount count wire.up) wire w) w.devices refl refl

reported_devices : (position : ℕ) (o : Option Wire) (w : ByteWorld) → (reported_up position o w).devices ≡ w.devices
reported_devices position None w = refl
reported_devices position (Some wire) w =
    devices_if (is_end_due wire.up) (record w { server = after_gone (number_at position) w.moment w.server; wires = slice_set w.wires position (up_end_reported wire) }) w w.devices refl refl

pub up_devices : (position : ℕ) (count : Count) (w : ByteWorld) → (moved (Up position count) w).devices ≡ w.devices
up_devices position count w =
    let v = served_by position count (slice_get w.wires position) w in
    reported_devices position (slice_get v.wires position) v ∙ served_devices position count (slice_get w.wires position) w
