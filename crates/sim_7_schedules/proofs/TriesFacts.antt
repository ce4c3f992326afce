-- What a device's client has in a world of bytes, beside the application that this world shows.
use Rattle.std.proofs.Common.{◌≡◌, ℕ, ◌≤◌, Bool, true, false, cond, List, [], ◌∷◌, Option, Some, None, length, map, refl, sym, ap, ◌∙◌, subst, arith}
use Rattle.std.proofs.lemmas.Bool.{eq-eqb, false≢true}
use Rattle.std.proofs.lemmas.Option.{none-some, same_Some, slice_get-map}
use Rattle.std.specs.List.{AllByRecursion, filter, slice_get}
use Rattle.std.specs.Option.{option_map}
use Rattle.cl_handlers.specs.Clients.{ClientView}
use Rattle.cmd_network.specs.DeviceLines.{said_line}
use Rattle.cmd_network.specs.Devices.{DeviceState}
use Rattle.cmd_report.specs.Lines.{take_line}
use Rattle.cmd_schedule.specs.Contents.{Owned}
use Rattle.cmd_schedule.specs.Grammar.{is_name}
use Rattle.cmd_schedule.specs.LineLists.{IsLineList}
use Rattle.cmd_schedule.specs.Schedules.{WireView}
use Rattle.cmd_schedule.specs.WireGrammar.{nothing_above}
use Rattle.cmd_world.specs.Worlds.{ByteWorld}
use Rattle.law_client.specs.Rendered.{client_rendered}
use Rattle.mam_archive.specs.Entries.{EntryView}
use Rattle.sim_1_applications.proofs.Owners.{Differ, names_differ, names_of}
use Rattle.sim_1_applications.proofs.Runs.{taken_along, taken_beginning}
use Rattle.sim_1_applications.proofs.Said.{n_few}
use Rattle.sim_1_applications.proofs.Taken.{said_few}
use Rattle.sim_1_applications.proofs.WireSteps.{wire_stand}
use Rattle.sim_1_applications.specs.Devices.{AppWorld, Device, epoch_of, first_of, last_of, log_of}
use Rattle.sim_1_applications.specs.Kept.{IsOfDevice, Read, SessionsKept, Taken, is_of}
use Rattle.sim_1_applications.specs.Reported.{history_at, said_of, take_of}
use Rattle.sim_1_applications.specs.Runs.{begins, owned_of, steps_in}
use Rattle.sim_2_events.proofs.Counted.{epochs}
use Rattle.sim_2_links.proofs.WithPremises.{prompt_runs}
use Rattle.sim_3_images.proofs.OwnedDevices.{declared}
use Rattle.sim_3_images.specs.Kept.{IsWorldKept, owned_by}
use Rattle.sim_3_items.specs.Items.{stanzas_read}
use Rattle.sim_3_items.specs.Labels.{awaits}
use Rattle.sim_5_devices.proofs.Entries.{length_at, logged_at}
use Rattle.sim_5_devices.proofs.Numbers.{AreWithin, log_within}
use Rattle.sim_5_devices.proofs.Readings.{reading_given}
use Rattle.sim_5_devices.specs.Shown.{AreGiven, tile_shown}
use Rattle.sim_5_moves.specs.Running.{DeviceSimulates, IsOwned, keep_in}
use Rattle.sim_5_moves.specs.Running as running
use Rattle.sim_7_schedules.proofs.Ground.{exist, few_takes, read, tellable}
use Rattle.sim_7_schedules.proofs.Moves.{small}
use Rattle.sim_7_schedules.proofs.Settled.{device_encodes}
use Rattle.sim_7_schedules.proofs.TakeLines.{IsTellable}
use Rattle.sim_7_schedules.proofs.TriesLogged.{IsKnownTake}
use Rattle.sim_7_schedules.proofs.WorldTold.{reported}
use Rattle.sim_7_schedules.specs.Simulation.{Simulates, bounds}
use Rattle.sm_resumption.proofs.RowFacts.{option_map_some}
use Rattle.sm_outbox.specs.Submissions.{all_said}
use Rattle.xml_writer.specs.Items.{written_item}

all_three : {A : Type 0} (P Q R S : A → Type 0) → ((a : A) → P a → Q a → R a → S a) → (xs : List A) → AllByRecursion P xs → AllByRecursion Q xs → AllByRecursion R xs → AllByRecursion S xs
all_three P Q R S each [] p q r = tt
all_three P Q R S each (x ∷ xs) p q r = (each x p.0 q.0 r.0, all_three P Q R S each xs p.1 q.1 r.1)

unfiltered : {A : Type 0} (P : A → Type 0) (test : A → Bool) (xs : List A) → AllByRecursion P (filter test xs) → AllByRecursion (λ x. test x ≡ true → P x) xs
unfiltered P test [] all = tt
unfiltered P test (x ∷ xs) all = by (test x) refl (unfiltered P test xs) all
  where
    by : (b : Bool) → test x ≡ b → (AllByRecursion P (filter test xs) → AllByRecursion (λ y. test y ≡ true → P y) xs) → AllByRecursion P (cond b (x ∷ filter test xs) (filter test xs)) → (test x ≡ true → P x) × AllByRecursion (λ y. test y ≡ true → P y) xs
    by true is rest known = ((λ passes. known.0), rest known.1)
    by false is rest known = ((λ passes. absurd (false≢true (sym is ∙ passes))), rest known)

-- ---- a device

module _ (s : WireView) (right : IsLineList s) (i : ℕ) (o : Owned) (owned : IsOwned s i o) where
  pub differ : Differ (names_of (owned_of s))
  differ = names_differ (steps_in s) (wire_stand [] nothing_above s.lines refl right.lines)

  pub account_named : is_name o.account ≡ true
  account_named = (declared s i o right owned).account

  pub device_named : is_name o.device ≡ true
  device_named = (declared s i o right owned).device

  pub record Facts (W : ByteWorld) (x : AppWorld) : Type 0 where
    pub state : DeviceState
    pub there : slice_get W.devices i ≡ Some state
    pub owner : owned_by state ≡ o
    pub device : Device
    pub is : slice_get x.devices i ≡ Some device
    pub account : device.account ≡ o.account
    -- its submissions
    pub epoch : state.client.client.epoch ≡ epoch_of device.sessions
    pub n : state.client.client.n ≡ device.sessions.n
    pub said : map said_line (all_said state.client.client.said) ≡ said_of device.sessions
    pub sessions : SessionsKept device.sessions
    pub few_epochs : epoch_of device.sessions ≤ 10001
    pub few : device.sessions.n ≤ 10000000
    -- its log
    pub tiles : state.client.client.log.tiles ≡ map (tile_shown (keep_in s)) device.reading.tiles
    pub entries : state.client.client.log.entries ≡ logged_at (history_at (owned_of s) x.takes o.account) (log_of device.reading)
    pub given : AreGiven (history_at (owned_of s) x.takes o.account) (log_of device.reading)
    pub last : ℕ
    pub within : AreWithin last (log_of device.reading)
    pub many : length state.client.client.log.entries ≡ length (log_of device.reading)
    -- what was taken
    pub known : AllByRecursion (IsKnownTake (owned_of s) i o.account) x.takes

  module _ (W : ByteWorld) (x : AppWorld) (beside : Simulates s W x) (kept : IsWorldKept s W) where
    one : DeviceSimulates s beside.items x i o
    one = beside.runs.simulation.devices i o owned

    found : (d : DeviceState) × (slice_get W.devices i ≡ Some d) × (owned_by d ≡ o)
    found = option_map_some owned_by (slice_get W.devices i) o (sym (slice_get-map owned_by W.devices i) ∙ ap (λ (os : List Owned). slice_get os i) kept.owners ∙ owned)

    client : found.0.client.client ≡ client_rendered written_item one.represents.device.client
    client = (device_encodes s W beside.items x beside.encodes kept i o one found.0 found.1).client

    taken : Taken x
    taken = taken_along beside.runs.in_bounds.led.events (begins s) x beside.runs.in_bounds.led.reaches (taken_beginning (keep_in s) (running.names_of s) _)

    reading : Read x
    reading = read s right bounds beside.says beside.items x beside.runs

    low_epoch : epoch_of one.device.sessions ≤ 10001
    low_epoch =
        let low = epochs stanzas_read one.view one.device one.sessions (prompt_runs awaits one.view one.prompt) in
        let free = one.represents.server.free in
        let few = beside.runs.in_bounds.within.few in
        let dialled = beside.runs.in_bounds.dialled in
        omega (arith, low, free, few, dialled)

    low_number : one.device.sessions.n ≤ 10000000
    low_number =
        let low = n_few (keep_in s) (running.names_of s) _ beside.runs.in_bounds.led.events x beside.runs.in_bounds.led.reaches i one.device one.there in
        let most = said_few i beside.runs.in_bounds.led.events in
        let spoken = beside.runs.in_bounds.led.spoken in
        let said = beside.runs.in_bounds.said in
        omega (arith, low, most, spoken, said)

    abbrev history : List ℕ → List EntryView
    history = history_at (owned_of s) x.takes

    logged_given : AreGiven (history o.account) (log_of one.device.reading)
    logged_given = subst (λ account. AreGiven (history account) (log_of one.device.reading)) one.account (reading_given x reading i one.device one.there (owned_of s) (few_takes s right bounds beside.says beside.items x beside.runs small)).logged

    logged_within : AreWithin (last_of x.takes one.device.account) (log_of one.device.reading)
    logged_within =
        log_within (first_of x.keep (last_of x.takes one.device.account)) (last_of x.takes one.device.account) one.device.reading.broken one.device.reading.run (reading.devices i one.device one.there).log.runs

    entries_are : found.0.client.client.log.entries ≡ logged_at (history o.account) (log_of one.device.reading)
    entries_are = ap (λ (c : ClientView (List ℕ)). c.log.entries) client ∙ one.log.entries

    all_known : AllByRecursion (IsKnownTake (owned_of s) i o.account) x.takes
    all_known =
        let many = beside.runs.simulation.many_there in
        all_three (IsTellable (owned_of s)) (IsOfDevice x.accounts (length x.devices)) (λ t. is_of i t ≡ true → t.account ≡ one.device.account) (IsKnownTake (owned_of s) i o.account)
        (λ t told of home. record { tellable = told; placed = (let low = of.device in omega (arith, low, many)); home = λ here. home (eq-eqb t.device i here) ∙ one.account })
        x.takes
        (tellable s right bounds beside.says beside.items x beside.runs small)
        taken.placed
        (unfiltered (λ t. t.account ≡ one.device.account) (is_of i) x.takes (taken.devices i one.device one.there).takes.home)

    pub facts : Facts W x
    facts = record {
      state = found.0;
      there = found.1;
      owner = found.2;
      device = one.device;
      is = one.there;
      account = one.account;
      epoch = ap (λ (c : ClientView (List ℕ)). c.epoch) client ∙ one.submissions.epoch;
      n = ap (λ (c : ClientView (List ℕ)). c.n) client ∙ one.submissions.n;
      said = ap (λ (c : ClientView (List ℕ)). map said_line (all_said c.said)) client ∙ one.submissions.said;
      sessions = (taken.devices i one.device one.there).sessions;
      few_epochs = low_epoch;
      few = low_number;
      tiles = ap (λ (c : ClientView (List ℕ)). c.log.tiles) client ∙ one.log.tiles;
      entries = entries_are;
      given = logged_given;
      last = last_of x.takes one.device.account;
      within = logged_within;
      many = ap length entries_are ∙ length_at (history o.account) (log_of one.device.reading) logged_given;
      known = all_known;
    }

    -- the takes of the world are those of the applications
    pub takes_are : W.takes ≡ map (take_line s.version) (map (take_of (owned_of s)) x.takes)
    takes_are = (reported s bounds beside.says W beside.items x right small kept beside.encodes beside.runs).takes

    -- the accounts that exist are those of the world
    pub accounts_are : x.accounts ≡ W.accounts
    accounts_are = exist s right bounds beside.says beside.items x beside.runs ∙ sym kept.accounts
