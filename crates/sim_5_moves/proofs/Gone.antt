-- Each device beside a world of items is one whose pages are in time.
use Rattle.std.proofs.Common.{◌≡◌, ℕ, Some, map}
use Rattle.std.specs.List.{slice_get}
use Rattle.sim_5_devices.proofs.Kept.{Paged, paged_begins, paged_kept}
use Rattle.sim_5_devices.specs.Pages.{IsPaged}
use Rattle.sim_3_items.specs.ItemWorlds.{ItemWorld}
use Rattle.cmd_schedule.specs.Contents.{Owned, accounts_of}
use Rattle.cmd_schedule.specs.Schedules.{WireView, keep_of}
use Rattle.sim_1_applications.proofs.EachDevice.{from_beginning}
use Rattle.sim_1_applications.specs.Devices.{AppWorld, Device}
use Rattle.sim_1_applications.specs.Runs.{owned_of, steps_in}
use Rattle.sim_5_moves.specs.Running.{Bounds, WorldSimulates}

pub device_paged : (schedule : WireView) (b : Bounds) (says : ℕ) (w : ItemWorld) (x : AppWorld) → WorldSimulates schedule b says w x → (i : ℕ) (d : Device) → slice_get x.devices i ≡ Some d → IsPaged d
device_paged schedule b says w x runs i d there =
    from_beginning Paged paged_kept paged_begins (keep_of schedule.version) (accounts_of (steps_in schedule)) (map (λ (o : Owned). o.account) (owned_of schedule)) runs.in_bounds.led.events x runs.in_bounds.led.reaches i d there
