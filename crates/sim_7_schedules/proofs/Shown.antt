-- What a world of bytes shows.
use Rattle.std.proofs.Common.{◌≡◌, ℕ, zero, suc, ◌+◌, true, false, cond, List, [], ◌∷◌, Option, Some, None, length, map, refl, sym, ap, subst, ◌∙◌, arith, inl, inr}
use Rattle.std.proofs.lemmas.Bool.{cases_Bool, false≢true}
use Rattle.std.proofs.lemmas.List.{length-map}
use Rattle.std.proofs.lemmas.Option.{none-some, same_Some}
use Rattle.std.proofs.lemmas.Slice.Eq.{bytes_eq-Decides}
use Rattle.std.specs.Option.{option_map}
use Rattle.std.specs.Prelude.{drop, slice_get}
use Rattle.std.specs.Str.{bytes_eq}
use Rattle.mam_archive.specs.Entries.{EntryView, newest}
use Rattle.base_lemmas.proofs.Bytes.{bytes_eq-self}
use Rattle.cl_handlers.specs.Clients.{ClientView}
use Rattle.sim_3_images.specs.Relayable.{ClientFits, DownFits, ServerFits, UpFits}
use Rattle.srv_state.specs.State.{Kept, ServerState}
use Rattle.cmd_network.specs.Devices.{DeviceState}
use Rattle.base_io.specs.Names.{is_among}
use Rattle.sim_3_images.specs.Stands.{StandingServers}
use Rattle.sim_3_images.specs.WorldEncodings.{WorldEncodes}
use Rattle.sim_3_items.specs.ItemWorlds.{ItemWorld}
use Rattle.mam_log.specs.Views.{LogView}
use Rattle.mam_log.specs.declared.log_entry.LogEntry.{LogEntry}
use Rattle.mam_log.specs.declared.tile.Tile.{Tile}
use Rattle.sim_5_devices.specs.Shown.{LogRepresents, page_shown, tile_shown}
use Rattle.sim_7_schedules.proofs.AccountLines.{archive_of_name}
use Rattle.sim_7_schedules.proofs.Ground.{exist, keeps}
use Rattle.sim_7_schedules.proofs.Settled.{device_encodes}
use Rattle.sim_7_schedules.proofs.WorldTold.{archive_is}
use Rattle.sim_7_schedules.specs.ShownWorlds.{asked_in, entries_for, log_named, pages_cut, pages_in, shown_of, underway}
use Rattle.cmd_schedule.specs.Contents.{Owned}
use Rattle.cmd_schedule.specs.Schedules.{WireView}
use Rattle.cmd_schedule.specs.LineLists.{IsLineList}
use Rattle.cmd_schedule.specs.WireGrammar.{nothing_above}
use Rattle.sim_1_applications.specs.Devices as sessions
use Rattle.sim_1_applications.specs.Devices.{Device, OpenPage, Reading}
use Rattle.sim_1_applications.specs.Histories.{asked_with}
use Rattle.sim_1_applications.proofs.Owners.{Differ, name_other, names_differ, names_of}
use Rattle.sim_1_applications.proofs.WireSteps.{wire_stand}
use Rattle.sim_1_applications.specs.Reported.{IsShown, history_at}
use Rattle.sim_1_applications.specs.Runs.{owned_of, steps_in}
use Rattle.cmd_world.specs.Worlds.{ByteWorld}
use Rattle.sim_3_images.specs.Kept.{IsWorldKept, owned_by}
use Rattle.sim_5_moves.specs.Running.{Bounds, DeviceSimulates, WorldSimulates, keep_in}
use Rattle.sim_5_moves.specs.Running as running

-- ---- archives

entries_found : (keep : ℕ) (history : List ℕ → List EntryView) (name : List ℕ) (names : List (List ℕ)) (archives : List Kept) → length archives ≡ length names
    → ((i : ℕ) (other : List ℕ) → slice_get names i ≡ Some other → slice_get archives i ≡ Some (archive_of_name keep history other)) → is_among name names ≡ true → entries_for name names archives ≡ newest keep (history name)
entries_found keep history name [] archives many are is = absurd (false≢true is)
entries_found keep history name (other ∷ names) [] many are is = absurd (omega (arith, many))
entries_found keep history name (other ∷ names) (kept ∷ archives) many are is =
    elim (cases_Bool (bytes_eq name other)) [
      | inl same ↦
          ap (λ c. cond c kept.entries (entries_for name names archives)) same
          ∙ ap (λ (k : Kept). k.entries) (same_Some kept (archive_of_name keep history other) (are 0 other refl))
          ∙ ap (λ n. newest keep (history n)) (sym ((bytes_eq-Decides name other).0 same))
      | inr differs ↦
          ap (λ c. cond c kept.entries (entries_for name names archives)) differs
          ∙ entries_found keep history name names archives (omega (arith, many)) (λ i n at. are (suc i) n at) (rw differs at is)
    ]

-- ---- logs

log_found : (owned : List Owned) (ds : List DeviceState) (i : ℕ) (o : Owned) (d : DeviceState) → map owned_by ds ≡ owned → Differ (names_of owned) → slice_get owned i ≡ Some o → slice_get ds i ≡ Some d
    → log_named o.device ds ≡ Some d.client.client.log
log_found owned [] i o d are differ owner at = absurd (none-some d at)
log_found [] (e ∷ ds) i o d are differ owner at = absurd (none-some o owner)
log_found (p ∷ owned) (e ∷ ds) zero o d are differ owner at =
    let first : owned_by e ≡ p = cc in
    let same : e.name ≡ o.device = ap (λ (q : Owned). q.device) (first ∙ same_Some p o owner) in
    ap (λ b. cond b (Some e.client.client.log) (log_named o.device ds)) (ap (bytes_eq o.device) same ∙ bytes_eq-self o.device) ∙ ap (λ (f : DeviceState). Some f.client.client.log) (same_Some e d at)
log_found (p ∷ owned) (e ∷ ds) (suc i) o d are differ owner at =
    let first : owned_by e ≡ p = cc in
    let rest : map owned_by ds ≡ owned = cc in
    let other : bytes_eq o.device p.device ≡ false = name_other (p ∷ owned) (suc i) 0 o differ owner (omega arith) (λ is. omega arith) in
    ap (λ b. cond b (Some e.client.client.log) (log_named o.device ds)) (ap (λ (q : Owned). bytes_eq o.device q.device) first ∙ other) ∙ log_found owned ds i o d rest differ.1 owner at

pages_many : (tiles : List Tile) (entries : List LogEntry) → length (pages_cut tiles entries) ≡ length tiles
pages_many [] entries = refl
pages_many (t ∷ tiles) entries = ap suc (pages_many tiles (drop t.count entries))

asked_by : (history : List EntryView) (b : Reading) (o : Option OpenPage) → length b.tiles + underway (option_map (page_shown history) o) ≡ asked_with b o
asked_by history b None = omega arith
asked_by history b (Some page) = refl

-- ---- a world

module _ (schedule : WireView) (b : Bounds) (says : ℕ) (w : ByteWorld) (v : ItemWorld) (x : sessions.AppWorld) (right : IsLineList schedule) (kept : IsWorldKept schedule w) (encodes : WorldEncodes UpFits DownFits (StandingServers ServerFits) ClientFits w v)
    (runs : WorldSimulates schedule b says v x) where
  differ : Differ (names_of (owned_of schedule))
  differ = names_differ (steps_in schedule) (wire_stand [] nothing_above schedule.lines refl right.lines)

  archive_shown : (account : List ℕ) → is_among account x.accounts ≡ true → entries_for account w.accounts w.server.server_state.archives ≡ newest x.keep (history_at (owned_of schedule) x.takes account)
  archive_shown account is =
      let history = history_at (owned_of schedule) x.takes in
      let many : length w.server.server_state.archives ≡ length (running.names_of schedule) = ap (λ (h : ServerState (List ℕ)). length h.archives) encodes.encoding.server_state ∙ runs.simulation.server.many in
      ap (λ names. entries_for account names w.server.server_state.archives) kept.accounts
      ∙ entries_found (keep_in schedule) history account (running.names_of schedule) w.server.server_state.archives many (archive_is schedule b says w v x encodes runs)
      (subst (λ names. is_among account names ≡ true) (exist schedule right b says v x runs) is)
      ∙ ap (λ keep. newest keep (history account)) (sym (keeps schedule right b says v x runs))

  -- the device's log
  record HasLog (o : Owned) (d : Device) : Type 0 where
    log : LogView
    found : log_named o.device w.devices ≡ Some log
    represents : LogRepresents (keep_in schedule) (running.history_for schedule x.takes o) log d.reading

  has_log : (i : ℕ) (o : Owned) (d : Device) → slice_get (owned_of schedule) i ≡ Some o → slice_get x.devices i ≡ Some d → HasLog o d
  has_log i o d owner at =
      let one = runs.simulation.devices i o owner in
      let there = found_device i o owner in
      let client = (device_encodes schedule w v x encodes kept i o one there.0 there.1).client in
      record {
        log = one.represents.device.client.log;
        found = log_found (owned_of schedule) w.devices i o there.0 kept.owners differ owner there.1 ∙ ap (λ (c : ClientView (List ℕ)). Some c.log) client;
        represents = subst (λ (e : Device). LogRepresents (keep_in schedule) (running.history_for schedule x.takes o) one.represents.device.client.log e.reading) (same_Some one.device d (sym one.there ∙ at)) one.log;
      }
    where
      found_by : (ds : List DeviceState) (i : ℕ) (o : Owned) → slice_get (map owned_by ds) i ≡ Some o → (e : DeviceState) × (slice_get ds i ≡ Some e)
      found_by [] i o at = absurd (none-some o at)
      found_by (e ∷ ds) zero o at = (e, refl)
      found_by (e ∷ ds) (suc i) o at = found_by ds i o at

      found_device : (i : ℕ) (o : Owned) → slice_get (owned_of schedule) i ≡ Some o → (e : DeviceState) × (slice_get w.devices i ≡ Some e)
      found_device i o at = found_by w.devices i o (ap (λ (os : List Owned). slice_get os i) kept.owners ∙ at)

  pub world_shown : IsShown (owned_of schedule) x (shown_of w)
  world_shown = record {
    archive = archive_shown;
    pages = λ i o d owner at.
        let has = has_log i o d owner at in
        ap (λ found. length (pages_in found)) has.found ∙ pages_many has.log.tiles has.log.entries ∙ ap (λ (ts : List Tile). length ts) has.represents.tiles ∙ length-map d.reading.tiles (tile_shown (keep_in schedule));
    asked = λ i o d owner at.
        let has = has_log i o d owner at in
        ap asked_in has.found
        ∙ ap (λ n. n + underway has.log.page) (ap (λ (ts : List Tile). length ts) has.represents.tiles ∙ length-map d.reading.tiles (tile_shown (keep_in schedule)))
        ∙ ap (λ page. length d.reading.tiles + underway page) has.represents.page
        ∙ asked_by (running.history_for schedule x.takes o) d.reading d.reading.page;
  }
