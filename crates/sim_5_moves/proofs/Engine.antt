-- Where no device has a label, all drift, and the worlds are related still.
use Rattle.std.proofs.Common.{◌≡◌, ℕ, ◌+◌, ◌≤◌, [], ◌∷◌, ◌++◌, Some, length, refl, sym, ap, subst, ◌∙◌, append-nil, arith}
use Rattle.std.proofs.lemmas.Option.{same_Some, slice_get_within}
use Rattle.std.specs.List.{slice_get}
use Rattle.mam_archive.proofs.NumberedEntries.{at_position}
use Rattle.sim_3_images.specs.Devices.{identity_at}
use Rattle.sim_3_items.specs.Labels.{awaits}
use Rattle.sim_3_items.specs.Identities.{Login}
use Rattle.sim_3_items.specs.Represents.{Represents}
use Rattle.sim_3_items.specs.Items.{stanzas_read}
use Rattle.sim_3_items.specs.ItemWorlds.{ItemWorld}
use Rattle.sim_2_links.proofs.Reached.{link_kept}
use Rattle.sim_2_links.specs.Covers.{PromptReached}
use Rattle.sim_2_links.specs.Events.{seen}
use Rattle.sim_2_links.specs.Paging.{PagingReached}
use Rattle.sim_2_links.specs.Views.{View}
use Rattle.sim_2_events.specs.Lists.{IsDevice}
use Rattle.sim_5_devices.specs.InTime.{paging_here}
use Rattle.sim_5_devices.specs.Shown.{LogRepresents}
use Rattle.sim_5_moves.proofs.QuietWorldsFlags.{IsNamedBare, flags_after}
use Rattle.sim_5_moves.proofs.QuietWorldsUsers.{same_submissions, session_steps_show_submissions}
use Rattle.sim_5_moves.specs.Silent.{SilentDevice, SilentSimulates, SilentWorld}
use Rattle.cmd_schedule.specs.Contents.{Owned}
use Rattle.cmd_schedule.specs.Schedules.{WireView}
use Rattle.sim_5_devices.proofs.AllSessionSteps.{all_session_step, reaches_both, spoken_both}
use Rattle.sim_5_devices.specs.Labels.{AllStep, HasSessionSteps}
use Rattle.sim_3_items.specs.Served.{FlagsRepresent}
use Rattle.sim_3_items.specs.Submitted.{SubmissionsRepresent}
use Rattle.sim_1_applications.specs.Devices.{AppWorld, Device, Sessions}
use Rattle.sim_1_applications.specs.Events.{Tick}
use Rattle.sim_1_applications.specs.Histories.{spoken_in}
use Rattle.sim_1_applications.specs.Kept.{Taken}
use Rattle.sim_1_applications.specs.Runs.{begins, owned_of}
use Rattle.sim_5_moves.proofs.Going.{goes}
use Rattle.sim_5_moves.proofs.OneOwner.{of_owner}
use Rattle.sim_5_moves.specs.Going.{AllBuilt, DeviceGoes}
use Rattle.sim_5_moves.specs.Running.{Bounds, DeviceSimulates, IsOwned, Leads, WorldSimulates, history_for, keep_in}
use Rattle.xml_writer.specs.Items.{ItemOut}

-- what a device is behind the move, but for its place in the world of the applications
pub record Stands (schedule : WireView) (after : ItemWorld) (x : AppWorld) (i : ℕ) (d : Device) (last : Sessions) (o : Owned) (from : View ItemOut) : Type 0 where
  pub logins : ℕ → Login
  pub view : View ItemOut
  pub leads : Leads (λ ds. ds ≡ []) from view
  pub in_time : PagingReached paging_here view
  pub prompt : PromptReached awaits view
  pub represents : Represents (identity_at schedule i o) logins after view
  pub account : d.account ≡ o.account
  pub sessions : IsDevice stanzas_read (seen view) last
  pub built : AllBuilt o (history_for schedule x.takes o) (seen view)
  pub submissions : SubmissionsRepresent represents.device.client last
  pub log : LogRepresents (keep_in schedule) (history_for schedule x.takes o) represents.device.client.log d.reading
  pub pages : represents.device.client.pages ≡ d.reading.asked
  pub flags : FlagsRepresent (identity_at schedule i o).account o.device after.server last

abbrev IsSo : (schedule : WireView) → ItemWorld → AppWorld → ((i : ℕ) (o : Owned) → IsOwned schedule i o → View ItemOut) → ℕ → Device → Sessions → Type 0
IsSo schedule after x views i d last = (o : Owned) × (is : IsOwned schedule i o) × Stands schedule after x i d last o (views i o is)

module _ (schedule : WireView) (b : Bounds) (says : ℕ) (w : ItemWorld) (x : AppWorld) (runs : WorldSimulates schedule b says w x) (taken : Taken x) (after : ItemWorld) (passed : ℕ) (quiet : SilentWorld schedule b w x after passed) where
  -- its links before the move
  abbrev views : (i : ℕ) (o : Owned) → IsOwned schedule i o → View ItemOut
  views i o is = (runs.simulation.devices i o is).view

  module _ (i : ℕ) (o : Owned) (owned : IsOwned schedule i o) where
    abbrev old : DeviceSimulates schedule w x i o
    old = runs.simulation.devices i o owned

    abbrev move : SilentDevice schedule w x i o old after
    move = quiet.devices i o owned old

    gone : DeviceGoes schedule after i o (history_for schedule x.takes o) [] old.device.sessions old.view
    gone = goes schedule w after x i o (history_for schedule x.takes o) [] old move.logins move.follows tt tt old.built

    bare : IsNamedBare old.device.sessions
    bare = λ stage. let s = (taken.devices i old.device old.there).sessions.now.is_session in (s.available stage, s.carbons stage)

    old_stands : (y : HasSessionSteps old.device) × IsSo schedule after x views i old.device y.last
    old_stands =
        let user = move.user gone.represents.device gone.represents.there in
        let xs = gone.interleaved.0 in
        let leads = gone.interleaved.1 in (
          record { session_steps = xs; last = gone.end; leads = leads },
          (
            o,
            owned,
            record {
              logins = gone.logins;
              view = gone.view;
              leads = gone.leads;
              in_time = gone.in_time;
              prompt = gone.prompt;
              represents = gone.represents;
              account = old.account;
              sessions = gone.sessions;
              built = gone.built;
              submissions = same_submissions old.represents.device.client gone.represents.device.client gone.end user (session_steps_show_submissions xs old.represents.device.client old.device.sessions gone.end leads old.submissions);
              log = subst (λ l. LogRepresents (keep_in schedule) (history_for schedule x.takes o) l old.device.reading) (sym user.log) old.log;
              pages = user.pages ∙ old.pages;
              flags = flags_after stanzas_read (identity_at schedule i o) w.server after.server old.logins gone.logins old.view gone.view (link_kept gone.view gone.reached) old.represents.server gone.represents.server old.device.sessions gone.end old.sessions gone.sessions xs leads bare old.flags move.flags;
            },
          ),
        )

  device_stands : (i : ℕ) (d : Device) → slice_get x.devices i ≡ Some d → (y : HasSessionSteps d) × IsSo schedule after x views i d y.last
  device_stands i d there =
      let within = slice_get_within x.devices i d there in
      let many = runs.simulation.many_there in
      let owner = at_position i (owned_of schedule) (omega (arith, within, many)) in
      let device = (runs.simulation.devices i owner.0 owner.1).device in
      let same : device ≡ d = same_Some device d (sym (runs.simulation.devices i owner.0 owner.1).there ∙ there) in
      subst (λ e. (y : HasSessionSteps e) × IsSo schedule after x views i e y.last) same (old_stands i owner.0 owner.1)

  all : AllStep (IsSo schedule after x views) (record x { clock = x.clock + passed })
  all = all_session_step (IsSo schedule after x views) (record x { clock = x.clock + passed }) device_stands

  abbrev next : AppWorld
  next = record x { clock = x.clock + passed; devices = all.devices }

  abbrev Comes : (i : ℕ) (o : Owned) → IsOwned schedule i o → Type 0
  Comes i o is = (e : DeviceSimulates schedule after next i o) × Leads (λ ds. ds ≡ []) (views i o is) e.view

  device_comes : (i : ℕ) (o : Owned) (is : IsOwned schedule i o) → Comes i o is
  device_comes i o owned =
      let before = runs.simulation.devices i o owned in
      let e = all.each i before.device before.there in
      let st = e.1.2 in
      of_owner schedule i (Comes i) e.1.0 e.1.1 (
        record {
          logins = st.logins;
          view = st.view;
          in_time = st.in_time;
          prompt = st.prompt;
          represents = st.represents;
          device = record before.device { sessions = e.0 };
          there = e.2;
          account = st.account;
          sessions = st.sessions;
          built = st.built;
          submissions = st.submissions;
          log = st.log;
          pages = st.pages;
          flags = st.flags;
        },
        st.leads,
      ) o owned

  asked_same : (i : ℕ) (d e : Device) → slice_get x.devices i ≡ Some d → slice_get all.devices i ≡ Some e → e.reading.asked ≡ d.reading.asked
  asked_same i d e there following = let y = all.each i d there in ap (λ (f : Device). f.reading.asked) (same_Some e (record d { sessions = y.0 }) (sym following ∙ y.2))

  asked_still : (i : ℕ) (e : Device) → slice_get all.devices i ≡ Some e → e.reading.asked ≤ b.pages + 1
  asked_still i e following =
      let within = slice_get_within all.devices i e following in
      let many = all.many in
      let d = at_position i x.devices (omega (arith, within, many)) in
      let same = asked_same i d.0 e d.1 following in
      let few = runs.in_bounds.asked i d.0 d.1 in
      omega (arith, same, few)

  abbrev goes_on : WorldSimulates schedule b says after next
  goes_on = record {
    simulation = record {
      devices = λ i o is. (device_comes i o is).0;
      many = quiet.many ∙ runs.simulation.many;
      many_there = all.many ∙ runs.simulation.many_there;
      wires = quiet.wires;
      server = quiet.server;
      takes = quiet.takes ∙ runs.simulation.takes;
      clock = ap (λ c. c + passed) runs.simulation.clock ∙ sym quiet.moment;
      now = quiet.now;
    };
    in_bounds = record {
      led = record {
        events = runs.in_bounds.led.events ++ (Tick passed ∷ all.events);
        reaches = reaches_both runs.in_bounds.led.events (Tick passed ∷ all.events) (begins schedule) x next runs.in_bounds.led.reaches (record x { clock = x.clock + passed }, refl, all.reaches);
        spoken = ap length (spoken_both runs.in_bounds.led.events (Tick passed ∷ all.events) ∙ ap (λ more. spoken_in runs.in_bounds.led.events ++ more) all.silent ∙ append-nil (spoken_in runs.in_bounds.led.events)) ∙ runs.in_bounds.led.spoken;
      };
      said = runs.in_bounds.said;
      asked = asked_still;
      dialled = quiet.dialled;
      fits = quiet.fits;
      stands = quiet.stands;
      within = quiet.within;
    };
  }

  pub quiet_runs : SilentSimulates schedule b says w x runs after
  quiet_runs = record {
    events = Tick passed ∷ all.events;
    next = next;
    reaches = (record x { clock = x.clock + passed }, refl, all.reaches);
    silent = all.silent;
    asked = asked_same;
    on = record { runs = goes_on; links = λ i o is. (device_comes i o is).1 };
  }
