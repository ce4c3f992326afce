-- The lines of devices.
use Rattle.std.proofs.Common.{◌≡◌, ℕ, suc, List, [], ◌∷◌, Some, length, map, refl, sym, ap, subst, ◌∙◌, arith}
use Rattle.std.proofs.lemmas.List.{length-map}
use Rattle.std.proofs.lemmas.Option.{same_Some, slice_get-map}
use Rattle.std.specs.Option.{option_map}
use Rattle.std.specs.Prelude.{slice_get}
use Rattle.mam_archive.specs.Entries.{EntryView}
use Rattle.law_client.specs.Rendered.{client_rendered}
use Rattle.cl_handlers.specs.Clients.{ClientView}
use Rattle.sim_3_images.specs.Relayable.{ClientFits, DownFits, ServerFits, UpFits}
use Rattle.cmd_network.specs.DeviceLines as devices
use Rattle.cmd_network.specs.Devices.{DeviceState}
use Rattle.sim_3_images.specs.Stands.{StandingServers}
use Rattle.sim_3_images.specs.WorldEncodings.{WorldEncodes}
use Rattle.sim_3_items.specs.ItemWorlds.{ItemWorld}
use Rattle.mam_log.specs.Views.{LogView}
use Rattle.sim_5_devices.specs.Shown.{IsReadingGiven}
use Rattle.sm_outbox.specs.Submissions.{all_said}
use Rattle.sim_5_devices.proofs.Readings.{reading_given}
use Rattle.sim_7_schedules.proofs.Ground.{few_takes, keeps, read}
use Rattle.sim_7_schedules.proofs.LogLines.{AreLogLines, log_lines}
use Rattle.sim_7_schedules.proofs.Settled.{device_encodes, settled_device}
use Rattle.cmd_schedule.specs.Contents.{Owned}
use Rattle.cmd_schedule.specs.Schedules.{WireView}
use Rattle.cmd_schedule.specs.LineLists.{IsLineList}
use Rattle.sim_1_applications.specs.Devices as sessions
use Rattle.sim_1_applications.specs.Devices.{Device, last_of}
use Rattle.sim_1_applications.specs.Kept.{TilesKept}
use Rattle.sim_1_applications.specs.Reported.{AreDeviceLines, IsDeviceLine, history_at}
use Rattle.sim_1_applications.specs.Runs.{owned_of}
use Rattle.cmd_world.specs.WorldReports.{device_line_of}
use Rattle.cmd_world.specs.Worlds.{ByteWorld}
use Rattle.sim_3_images.specs.Kept.{IsWorldKept, owned_by}
use Rattle.sim_5_moves.specs.Running.{AreSmall, Bounds, DeviceSimulates, WorldSimulates, keep_in}
use Rattle.xml_writer.specs.Items.{written_item}

module _ (schedule : WireView) (right : IsLineList schedule) (b : Bounds) (small : AreSmall b) (says : ℕ) (w : ByteWorld) (v : ItemWorld) (x : sessions.AppWorld) (kept : IsWorldKept schedule w) (encodes : WorldEncodes UpFits DownFits (StandingServers ServerFits) ClientFits w v)
    (runs : WorldSimulates schedule b says v x) where
  abbrev history : List ℕ → List EntryView
  history = history_at (owned_of schedule) x.takes

  owned_is : (i : ℕ) (o : Owned) (d : DeviceState) → slice_get (owned_of schedule) i ≡ Some o → slice_get w.devices i ≡ Some d → owned_by d ≡ o
  owned_is i o d at there = same_Some (owned_by d) o (sym (slice_get-map owned_by w.devices i ∙ ap (option_map owned_by) there) ∙ ap (λ (os : List Owned). slice_get os i) kept.owners ∙ at)

  log_of_device : (i : ℕ) (o : Owned) → slice_get (owned_of schedule) i ≡ Some o → (one : DeviceSimulates schedule v x i o) → AreLogLines (keep_in schedule) (history o.account) one.represents.device.client.log one.device.reading
  log_of_device i o at one =
      let known = (read schedule right b says v x runs).devices i one.device one.there in
      let tiles = subst (λ keep. TilesKept keep (last_of x.takes one.device.account) one.device.reading) (keeps schedule right b says v x runs) known.tiles in
      let given = reading_given x (read schedule right b says v x runs) i one.device one.there (owned_of schedule) (few_takes schedule right b says v x runs small) in
      log_lines (keep_in schedule) (last_of x.takes one.device.account) (history o.account) one.represents.device.client.log one.device.reading one.log (subst (λ account. IsReadingGiven (history account) one.device.reading) one.account given) tiles

  device_told : (i : ℕ) (o : Owned) (d : DeviceState) → slice_get (owned_of schedule) i ≡ Some o → slice_get w.devices i ≡ Some d → (one : DeviceSimulates schedule v x i o)
      → IsDeviceLine (keep_in schedule) (history o.account) o one.device (device_line_of w d)
  device_told i o d at there one =
      let owner = owned_is i o d at there in
      let client : d.client.client ≡ client_rendered written_item one.represents.device.client = (device_encodes schedule w v x encodes kept i o one d there).client in
      let lines : AreLogLines (keep_in schedule) (history o.account) d.client.client.log one.device.reading =
      subst (λ (log : LogView). AreLogLines (keep_in schedule) (history o.account) log one.device.reading) (sym (ap (λ (c : ClientView (List ℕ)). c.log) client)) (log_of_device i o at one) in
      record {
        name = ap (λ (p : Owned). p.device) owner;
        account = ap (λ (p : Owned). p.account) owner;
        epoch = ap (λ (c : ClientView (List ℕ)). c.epoch) client ∙ one.submissions.epoch;
        settled = settled_device schedule w v x encodes kept i o one d there;
        said = ap (λ (c : ClientView (List ℕ)). map devices.said_line (all_said c.said)) client ∙ one.submissions.said;
        pages = lines.pages;
        underway = lines.underway;
        logged = lines.logged;
        held = lines.held;
      }

  one_told : (i : ℕ) (o : Owned) (e : Device) (d : DeviceState) → slice_get (owned_of schedule) i ≡ Some o → slice_get x.devices i ≡ Some e → slice_get w.devices i ≡ Some d
      → IsDeviceLine (keep_in schedule) (history o.account) o e (device_line_of w d)
  one_told i o e d at is there =
      let one = runs.simulation.devices i o at in
      subst (λ f. IsDeviceLine (keep_in schedule) (history o.account) o f (device_line_of w d)) (same_Some one.device e (sym one.there ∙ is)) (device_told i o d at there one)

  lines_told : (os : List Owned) (es : List Device) (ds : List DeviceState) → length es ≡ length os → length ds ≡ length os
      → ((i : ℕ) (o : Owned) (e : Device) (d : DeviceState) → slice_get os i ≡ Some o → slice_get es i ≡ Some e → slice_get ds i ≡ Some d → IsDeviceLine (keep_in schedule) (history o.account) o e (device_line_of w d))
      → AreDeviceLines (keep_in schedule) history os es (map (device_line_of w) ds)
  lines_told [] [] [] es_many ds_many each = tt
  lines_told [] [] (d ∷ ds) es_many ds_many each = absurd (omega (arith, ds_many))
  lines_told [] (e ∷ es) ds es_many ds_many each = absurd (omega (arith, es_many))
  lines_told (o ∷ os) [] ds es_many ds_many each = absurd (omega (arith, es_many))
  lines_told (o ∷ os) (e ∷ es) [] es_many ds_many each = absurd (omega (arith, ds_many))
  lines_told (o ∷ os) (e ∷ es) (d ∷ ds) es_many ds_many each =
      (each 0 o e d refl refl refl, lines_told os es ds (omega (arith, es_many)) (omega (arith, ds_many)) (λ i p f g. each (suc i) p f g))

  pub all_told : AreDeviceLines (keep_in schedule) history (owned_of schedule) x.devices (map (device_line_of w) w.devices)
  all_told = lines_told (owned_of schedule) x.devices w.devices runs.simulation.many_there (sym (length-map w.devices owned_by) ∙ ap (λ (os : List Owned). length os) kept.owners) one_told
