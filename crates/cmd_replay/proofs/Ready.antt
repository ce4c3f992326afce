-- What a ready run says of the device at a place.
use Rattle.std.proofs.Common.{◌≡◌, ℕ, ◌<◌, [], Some, length, get_or, map, refl, sym, ap, subst, arith, OnOk, Result, Ok, Err}
use Rattle.std.proofs.lemmas.List.{length-map}
use Rattle.std.proofs.lemmas.Option.{slice_get_read}
use Rattle.std.specs.List.{slice_get}
use Rattle.cmd_replay.specs.Homes.{Home, empty_home}
use Rattle.cmd_replay.specs.Runs.{IsReady, IsReadyDevice}
use Rattle.cmd_replay.specs.Turns.{IsInOrder}
use Rattle.cmd_replay.specs.declared.run.Run.{Run}
use Rattle.cmd_replay.specs.Devices.{DeviceState}

pub OnOk_then : {T E : Type 0} (r : Result T E) {P Q : Type 0} → OnOk r P → (P → Q) → OnOk r Q
OnOk_then (Ok x) p f = f p
OnOk_then (Err e) p f = tt

pub position_ready : (run : Run) (i : ℕ) → IsReady run → i < length run.index → i < length run.devices.items
position_ready run i ready there =
    let same : length run.index ≡ length (map (λ (d : DeviceState). d.name) run.devices.items) = ap length ready.names in
    let size : length (map (λ (d : DeviceState). d.name) run.devices.items) ≡ length run.devices.items = length-map run.devices.items (λ (d : DeviceState). d.name) in
    omega arith

pub device_ready : (run : Run) (i : ℕ) (device : DeviceState) → IsReady run → i < length run.index → device ≡ get_or run.devices.items i device →
    IsReadyDevice run.accounts.homes device
device_ready run i device ready there is =
    subst (λ (d : DeviceState). IsReadyDevice run.accounts.homes d) (sym is) (ready.devices i device (position_ready run i ready there))

pub device_there : (run : Run) (i : ℕ) (device : DeviceState) → IsReady run → i < length run.index → device ≡ get_or run.devices.items i device →
    slice_get run.devices.items i ≡ Some device
device_there run i device ready there is = slice_get_read run.devices.items (length run.devices.items) i device refl (position_ready run i ready there) is

pub order_ready : (run : Run) (i : ℕ) (device : DeviceState) (last : ℕ) → IsReady run → i < length run.index → device ≡ get_or run.devices.items i device →
    ((d : Home) → last ≡ (get_or run.accounts.homes device.home d).last) → IsInOrder last device.log.entries
order_ready run i device last ready there is same =
    subst (λ n. IsInOrder n device.log.entries) (sym (same (empty_home []))) ((device_ready run i device ready there is).in_order (empty_home []))
