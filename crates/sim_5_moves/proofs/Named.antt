-- The client reads that a resource was bound: its next epoch begins.
use Rattle.std.proofs.Common.{◌≡◌, ℕ, ◌+◌, ◌<◌, ◌^◌, ◌&&◌, Bool, true, false, List, [], ◌∷◌, ◌++◌, Option, Some, None, inl, inr, refl, sym, ap, ap₂, subst, ◌∙◌, arith, append_assoc}
use Rattle.std.specs.Prelude.{pos}
use Rattle.cl_handlers.specs.Clients.{ClientStep}
use Rattle.cl_handlers.specs.SessionRows.{asks, begins_epoch}
use Rattle.cl_handlers.specs.Speech.{in_items}
use Rattle.cl_handlers.specs.declared.phase.Phase.TheVariants as phase
use Rattle.sim_5_moves.proofs.ClientsStepped.{stepped_to}
use Rattle.srv_state.specs.State.{ServerState}
use Rattle.sim_3_items.specs.Labels.{Names}
use Rattle.sim_3_items.specs.Identities.{Identity, Login}
use Rattle.sim_3_items.specs.Reading.{noted}
use Rattle.sim_3_items.specs.Servers.{IsRowRepresented, ServerRepresents}
use Rattle.sim_5_moves.proofs.FlagsKeptStepped.{same_ups}
use Rattle.sim_3_items.specs.Items.{stanzas_read}
use Rattle.sim_3_items.specs.ItemMoves.{Down}
use Rattle.sim_3_items.specs.ItemWorlds.{ItemDevice, ItemWorld, silent_client_step}
use Rattle.sim_2_links.specs.Events.{May, Named, row_number, seen}
use Rattle.sim_2_links.specs.Views.{Row, View}
use Rattle.sim_2_events.specs.Acts.{MayAct}
use Rattle.sim_2_events.specs.Lists.{IsDevice, IsRow}
use Rattle.sim_5_devices.specs.InTime.{AreInTime}
use Rattle.sm_live.specs.Sessions.{Session, session_named}
use Rattle.sim_5_devices.specs.Shown.{LogRepresents}
use Rattle.sim_5_moves.proofs.Acting.{act_reaches, act_spoken}
use Rattle.im_requests.specs.Sessions.{enable_item}
use Rattle.cmd_schedule.specs.Schedules.{WireView}
use Rattle.sim_5_devices.proofs.AllSessionSteps.{reaches_both, session_steps_silent, spoken_both}
use Rattle.sim_5_devices.proofs.Worlds.{session_steps_reach, set_here, set_twice}
use Rattle.sim_5_devices.specs.Labels.{DoesInterleaved, SessionStep, SessionSteps, session_step_events, with_device}
use Rattle.sim_3_items.specs.Served.{FlagsRepresent}
use Rattle.sim_3_items.specs.Submitted.{SubmissionsRepresent}
use Rattle.sim_1_applications.specs.Devices.{AppWorld, Device, Sessions, Unread}
use Rattle.sim_1_applications.specs.Events as events
use Rattle.sim_1_applications.specs.Events.{At, AppEvent, ReadBound, Reaches, is_present, reads_bound}
use Rattle.sim_1_applications.specs.Histories.{spoken_in}
use Rattle.sim_5_moves.proofs.SessionWordsComing as coming
use Rattle.sim_5_moves.proofs.SessionWordsComing.{Coming, IsHeard, acted_by, between_both, end, heard_runs, history, interleaved, old, represents_there, t, who}
use Rattle.sim_5_devices.proofs.SubmissionsEnds.{bound_told, phase_stays}
use Rattle.sim_5_devices.proofs.Served.{same_told}
use Rattle.sim_5_moves.specs.Going.{ArePutBuilt}
use Rattle.sim_5_moves.specs.Running.{Bounds, DeviceSimulates, MoveSimulates, keep_in}
use Rattle.xml_writer.specs.Items.{ItemOut}

-- ---- the sessions

-- it takes steps, reads so, and drifts again
record HasRead (d end : Sessions) : Type 0 where
  first : List SessionStep
  there : Sessions
  session_steps : SessionSteps first d there
  live : Bool
  may : MayAct (ReadBound live) there
  following : List SessionStep
  rests : SessionSteps following (reads_bound live there) end

reads_so : (d end : Sessions) → DoesInterleaved stanzas_read (Names ∷ []) d end → HasRead d end
reads_so d end (first, there, session_steps, (next, (live, may, is), (following, rests))) = record {
  first = first;
  there = there;
  session_steps = session_steps;
  live = live;
  may = may;
  following = following;
  rests = subst (λ s. SessionSteps following s end) is rests;
}

offline : (live : Bool) (e : Device) → events.May (ReadBound live) e → e.sessions.online ≡ false
offline true e may = may.0
offline false e may = may.0

never : (a b : Bool) → b ≡ false → (a && b) ≡ false
never true b is = is
never false b is = refl

-- ---- the flags

-- the server's session of the device is one of which the client hasn't read: it has no flags
module _ (who : Identity) (logins : ℕ → Login) (h : ServerState ItemOut) (v : View ItemOut) (d : Sessions) (m : ℕ) (may : May (Named m) (seen v)) (device : IsDevice stanzas_read (seen v) d) (represents : ServerRepresents who logins h v)
    (flags : FlagsRepresent who.account who.resource h d) where
  unread_row : (r : Row ItemOut) → v.row ≡ Some r → d.row ≡ Unread
  unread_row r is = by (subst (IsRow (seen v) d.row) (ap row_number is) device.row)
    where
      by : IsRow (seen v) d.row (Some r.number) → d.row ≡ Unread
      by (u, there, inl none) = none.1
      by (u, there, inr now) = absurd (let above = may.2 r.number v.epoch u there now.0 in let below = device.newest r.number m may.1.0 (ap row_number is) may.1.1 in omega (arith, above, below))

  bare : (s : Session ItemOut) → session_named who.account who.resource h.sessions ≡ Some s → (s.shown.available ≡ false) × (s.shown.carbons ≡ false) × (s.shown.priority ≡ pos 0)
  bare s found = by v.row refl (subst (IsRowRepresented v.row) found represents.row)
    where
      by : (o : Option (Row ItemOut)) → v.row ≡ o → IsRowRepresented o (Some s) → (s.shown.available ≡ false) × (s.shown.carbons ≡ false) × (s.shown.priority ≡ pos 0)
      by None is shown = absurd shown
      by (Some r) is shown =
          let unread = unread_row r is in
          let f = flags (λ e. (let both = sym unread ∙ e in let no_way : ⊥ = cc in no_way)) s found in
          (f.0 ∙ ap (λ row. is_present row && d.now.available) unread, f.1 ∙ ap (λ row. is_present row && d.now.carbons) unread, f.2)

  pub fresh_flags : (end : Sessions) → end.now.available ≡ false → end.now.carbons ≡ false → FlagsRepresent who.account who.resource h end
  fresh_flags end available carbons = λ some s found.
      let f = bare s found in
      (f.0 ∙ sym (never (is_present end.row) end.now.available available), f.1 ∙ sym (never (is_present end.row) end.now.carbons carbons), f.2)

-- ---- the word

module _ (schedule : WireView) (b : Bounds) (says : ℕ) (w : ItemWorld) (x : AppWorld) (c : Coming schedule b says w x) where
  abbrev i : ℕ
  i = c.wire.device

  abbrev was : DeviceSimulates schedule w x i c.o
  was = old schedule b says w x c

  abbrev d : ItemDevice
  d = coming.d schedule b says w x c

  abbrev before : ClientStep ItemOut ItemOut
  before = silent_client_step d.client

  abbrev names : ClientStep ItemOut ItemOut
  names = asks in_items (begins_epoch in_items before) enable_item phase.Enabling

  module _ (m : ℕ) (may : May (Named m) (seen was.view)) (low : was.view.epoch + 1 < 2 ^ 64) (turn : t schedule b says w x c ≡ asks in_items (begins_epoch in_items before) enable_item phase.Enabling) where
    notes_so : noted (t schedule b says w x c).out.notes ≡ Names ∷ []
    notes_so = ap (λ (u : ClientStep ItemOut ItemOut). noted u.out.notes) turn

    read : HasRead was.device.sessions (end schedule b says w x c)
    read = reads_so was.device.sessions (end schedule b says w x c) (subst (λ ds. DoesInterleaved stanzas_read ds was.device.sessions (end schedule b says w x c)) notes_so (interleaved schedule b says w x c))

    abbrev act : events.Act
    act = ReadBound read.live

    abbrev middle : Device
    middle = acted_by schedule b says w x c act read.there

    abbrev next : Device
    next = record was.device { sessions = end schedule b says w x c }

    abbrev first : List AppEvent
    first = session_step_events i read.first ++ At i act ∷ []

    abbrev last : List AppEvent
    last = session_step_events i read.following

    in_order : first ++ last ≡ session_step_events i read.first ++ At i act ∷ last
    in_order = append_assoc (session_step_events i read.first) (At i act ∷ []) last

    reaches_middle : Reaches first x (with_device i middle x)
    reaches_middle = act_reaches x i was.device was.there read.first read.there read.session_steps act (read.may (record was.device { sessions = read.there }) refl) refl

    reaches_last : Reaches last (with_device i middle x) (with_device i next x)
    reaches_last =
        subst (Reaches last (with_device i middle x)) (ap (λ devices. record x { devices = devices }) (set_twice x.devices i middle next))
        (session_steps_reach read.following (with_device i middle x) i middle (end schedule b says w x c) (set_here x.devices i was.device middle was.there) read.rests)

    is_offline : read.there.online ≡ false
    is_offline = offline read.live (record was.device { sessions = read.there }) (read.may (record was.device { sessions = read.there }) refl)

    submits : SubmissionsRepresent names.client (end schedule b says w x c)
    submits =
        same_told names.client (reads_bound read.live read.there) (end schedule b says w x c) (same_ups read.following (reads_bound read.live read.there) (end schedule b says w x c) read.rests)
        (phase_stays (begins_epoch in_items before).client (reads_bound read.live read.there) phase.Enabling
        (bound_told before read.there read.live (record {
          represents = represents_there schedule b says w x c read.first read.there read.session_steps;
          offline = is_offline;
          epoch_fits = subst (λ n. n + 1 < 2 ^ 64) (sym was.represents.client.epoch) low;
        })))

    acts : IsHeard schedule b says w x c next
    acts =
        let rest = stepped_to read.following (reads_bound read.live read.there) (end schedule b says w x c) read.rests in
        record {
          timely = subst (λ ds. AreInTime ds was.device.sessions.now) (sym notes_so) tt;
          put = subst (ArePutBuilt c.o (history schedule b says w x c)) (sym notes_so) tt;
          events = session_step_events i read.first ++ At i act ∷ last;
          reaches = subst (λ es. Reaches es x (with_device i next x)) in_order (reaches_both first last x (with_device i middle x) (with_device i next x) reaches_middle reaches_last);
          silent = ap spoken_in (sym in_order) ∙ spoken_both first last ∙ ap₂ (λ one more. one ++ more) (act_spoken i read.first act) (session_steps_silent i read.following);
          between = λ j. between_both j i read.first read.following act tt;
          account = refl;
          ends = refl;
          submissions = subst (λ (u : ClientStep ItemOut ItemOut). SubmissionsRepresent u.client (end schedule b says w x c)) (sym turn) submits;
          log = subst (λ (u : ClientStep ItemOut ItemOut). LogRepresents (keep_in schedule) (history schedule b says w x c) u.client.log was.device.reading) (sym turn) was.log;
          pages = ap (λ (u : ClientStep ItemOut ItemOut). u.client.pages) turn ∙ was.pages;
          flags = fresh_flags (who schedule b says w x c) was.logins w.server was.view was.device.sessions m may was.sessions was.represents.server was.flags (end schedule b says w x c) rest.available rest.carbons;
        }

    abbrev IsRunSo : Type 0
    IsRunSo = MoveSimulates schedule b says (Down c.position) w x c.runs

    pub named_runs : IsRunSo
    named_runs = heard_runs schedule b says w x c next acts
