-- What is known of a device that runs beside a world of items: its name, its numbers, what was acknowledged, and its log.
use Rattle.std.proofs.Common.{◌≡◌, ℕ, ◌+◌, ◌<◌, ◌^◌, true, Some, length, slice_get, subst, arith}
use Rattle.law_limits.specs.Within.{IsClientWithin}
use Rattle.sim_5_devices.proofs.Kept.{Paged, paged_begins, paged_kept}
use Rattle.sim_5_devices.specs.Pages.{IsPaged}
use Rattle.sim_3_images.proofs.OwnedDevices.{declared}
use Rattle.sim_3_images.proofs.FittingEncodings.{client_within}
use Rattle.sim_3_items.specs.ItemWorlds.{ItemDevice, ItemWorld}
use Rattle.sim_5_devices.specs.Shown.{IsReadingGiven}
use Rattle.sim_5_devices.proofs.Readings.{reading_given}
use Rattle.cmd_schedule.specs.Contents.{Owned}
use Rattle.cmd_schedule.specs.Grammar.{is_name}
use Rattle.cmd_schedule.specs.Schedules.{WireView}
use Rattle.cmd_schedule.specs.LineLists.{IsLineList}
use Rattle.sim_1_applications.proofs.EachDevice.{from_beginning}
use Rattle.sim_1_applications.proofs.Said.{n_few, takes_few}
use Rattle.sim_1_applications.proofs.Taken.{said_few}
use Rattle.sim_1_applications.proofs.Runs.{taken_along, taken_beginning}
use Rattle.sim_1_applications.proofs.TileRuns.{read_along, read_beginning}
use Rattle.sim_1_applications.specs.Devices.{AppWorld, first_of, last_of}
use Rattle.sim_1_applications.specs.Kept.{AreLogged, Read, Taken}
use Rattle.sim_1_applications.specs.Reported.{history_at}
use Rattle.sim_1_applications.specs.Runs.{begins, owned_of}
use Rattle.sim_5_devices.specs.Told.{IsAcked}
use Rattle.cmd_world.proofs.Declares.{some_kept}
use Rattle.sim_5_moves.proofs.MessageEvents.{there_too}
use Rattle.sim_5_moves.specs.Running.{AreSmall, Bounds, DeviceSimulates, IsOwned, WorldSimulates, history_for, keep_in, names_of}

-- a device that the world has is one of the schedule's
pub owned_there : (schedule : WireView) (b : Bounds) (says : ℕ) (w : ItemWorld) (x : AppWorld) → WorldSimulates schedule b says w x → (i : ℕ) (d : ItemDevice) → slice_get w.devices i ≡ Some d → (o : Owned) × IsOwned schedule i o
owned_there schedule b says w x runs i d there = there_too w.devices (owned_of schedule) i d runs.simulation.many there

module _ (schedule : WireView) (right : IsLineList schedule) (b : Bounds) (small : AreSmall b) (says : ℕ) (w : ItemWorld) (x : AppWorld) (runs : WorldSimulates schedule b says w x) where
  taken : Taken x
  taken = taken_along runs.in_bounds.led.events (begins schedule) x runs.in_bounds.led.reaches (taken_beginning (keep_in schedule) (names_of schedule) _)

  read : Read x
  read =
      read_along runs.in_bounds.led.events (begins schedule) x runs.in_bounds.led.reaches (taken_beginning (keep_in schedule) (names_of schedule) _)
      (read_beginning (keep_in schedule) (some_kept schedule.version right.keeps) (names_of schedule) _)

  few : length x.takes < 2 ^ 64
  few =
      let takes = takes_few (keep_in schedule) (names_of schedule) _ runs.in_bounds.led.events x runs.in_bounds.led.reaches in
      let spoken = runs.in_bounds.led.spoken in
      let said = runs.in_bounds.said in
      let bounded = small.stanzas in
      omega (arith, takes, spoken, said, bounded)

  module _ (i : ℕ) (o : Owned) (owned : IsOwned schedule i o) where
    abbrev r : DeviceSimulates schedule w x i o
    r = runs.simulation.devices i o owned

    pub device_named : is_name o.device ≡ true
    device_named = (declared schedule i o right owned).device

    pub within : IsClientWithin r.represents.device.client
    within = client_within w i r.represents.device runs.in_bounds.fits r.represents.there

    pub acked : IsAcked r.device.sessions
    acked = (taken.devices i r.device r.there).sessions.now.is_session.acked

    -- no number of a submission is above what users said
    pub numbers_fit : r.represents.device.client.n + 1 < 2 ^ 64
    numbers_fit =
        let same = r.submissions.n in
        let few = n_few (keep_in schedule) (names_of schedule) _ runs.in_bounds.led.events x runs.in_bounds.led.reaches i r.device r.there in
        let fewer = said_few i runs.in_bounds.led.events in
        let spoken = runs.in_bounds.led.spoken in
        let said = runs.in_bounds.said in
        let bounded = small.stanzas in
        omega (arith, same, few, fewer, spoken, said, bounded)

    pub paged : IsPaged r.device
    paged = from_beginning Paged paged_kept paged_begins (keep_in schedule) (names_of schedule) _ runs.in_bounds.led.events x runs.in_bounds.led.reaches i r.device r.there

    pub pages_fit : r.represents.device.client.pages + 1 < 2 ^ 64
    pages_fit =
        let same = r.pages in
        let few = runs.in_bounds.asked i r.device r.there in
        let bounded = small.stanzas in
        omega (arith, same, few, bounded)

    -- the archive had and has what its log has
    pub given : IsReadingGiven (history_for schedule x.takes o) r.device.reading
    given = subst (λ a. IsReadingGiven (history_at (owned_of schedule) x.takes a) r.device.reading) r.account (reading_given x read i r.device r.there (owned_of schedule) few)

    abbrev pub last : ℕ
    last = last_of x.takes r.device.account

    pub logged : AreLogged (first_of x.keep last) last r.device.reading.broken r.device.reading.run
    logged = (read.devices i r.device r.there).log.runs
