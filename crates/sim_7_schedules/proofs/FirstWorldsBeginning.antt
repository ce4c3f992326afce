-- The worlds with which a schedule begins stand related.
use Rattle.std.proofs.Common.{◌≡◌, ℕ, ◌+◌, ◌≤◌, [], Some, map, slice_get, refl, arith}
use Rattle.std.proofs.lemmas.List.{length-map}
use Rattle.cmd_network.specs.Starting.{accounts_at_start}
use Rattle.sim_3_images.proofs.ServersInOrder.{start_stands}
use Rattle.sim_3_images.specs.ItemStarts.{item_device, items_at_start}
use Rattle.sim_3_images.proofs.FittingEncodings.{begun_fits}
use Rattle.cmd_report.specs.Addresses.{domain}
use Rattle.cmd_schedule.specs.Schedules.{WireView}
use Rattle.cmd_schedule.specs.LineLists.{IsLineList}
use Rattle.sim_3_images.proofs.Within.{start_within}
use Rattle.sim_1_applications.proofs.Runs.{one_of}
use Rattle.sim_1_applications.specs.Devices.{Device}
use Rattle.sim_1_applications.specs.Runs.{begins, owned_of}
use Rattle.sim_7_schedules.proofs.FirstDevices.{device_begins}
use Rattle.sim_7_schedules.proofs.FirstServers.{server_begins}
use Rattle.sim_7_schedules.proofs.Lists.{home, one_each}
use Rattle.sim_5_moves.specs.Running.{Bounds, IsLed, WorldSimulates, keep_in, names_of}

pub led_begins : (schedule : WireView) → IsLed schedule 0 (begins schedule)
led_begins schedule = record { events = []; reaches = refl; spoken = refl }

pub nothing_asked : (schedule : WireView) (b : Bounds) (i : ℕ) (d : Device) → slice_get (begins schedule).devices i ≡ Some d → d.reading.asked ≤ b.pages + 1
nothing_asked schedule b i d there = one_of (λ j (e : Device). e.reading.asked ≤ b.pages + 1) (map home (owned_of schedule)) i d (λ account. omega arith) there

pub begun : (schedule : WireView) → IsLineList schedule → (b : Bounds) → WorldSimulates schedule b 0 (items_at_start schedule) (begins schedule)
begun schedule is b = record {
  simulation = record {
    devices = device_begins schedule is;
    many = length-map (owned_of schedule) item_device;
    many_there = one_each (owned_of schedule);
    wires = λ position wire none. absurd (let no_way : ⊥ = cc in no_way);
    server = server_begins schedule;
    takes = refl;
    clock = refl;
    now = refl;
  };
  in_bounds = record {
    led = led_begins schedule;
    said = omega arith;
    asked = nothing_asked schedule b;
    dialled = omega arith;
    fits = begun_fits schedule is;
    stands = start_stands 0 domain (accounts_at_start (names_of schedule)) (keep_in schedule);
    within = start_within domain (accounts_at_start (names_of schedule)) (keep_in schedule);
  };
}
