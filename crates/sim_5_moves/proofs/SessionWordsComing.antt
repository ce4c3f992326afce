-- An item comes to a client, and the worlds are related behind it: what is common to all words.
use Rattle.std.proofs.Common.{◌≡◌, ◌≢◌, ℕ, ◌+◌, ◌≤◌, List, [], ◌∷◌, ◌++◌, Some, length, slice_get, inl, inr, refl, sym, ap, subst, ◌∙◌, arith}
use Rattle.std.proofs.lemmas.Option.{same_Some}
use Rattle.std.specs.List.{AllByRecursion}
use Rattle.mam_archive.specs.Entries.{EntryView}
use Rattle.cl_handlers.specs.Clients.{ClientStep}
use Rattle.sim_5_moves.proofs.Alone.{heard_so, hears_alone, moved_so}
use Rattle.sim_5_moves.specs.Ground.{IsGround}
use Rattle.sim_4_links_follow.proofs.ConnectionsElsewhere.{down_leaves}
use Rattle.sim_4_links_follow.proofs.Lifts.{hear_lifts}
use Rattle.sim_4_links_follow.proofs.Numbered.{set_elsewhere}
use Rattle.sim_4_links_follow.proofs.Stays.{reached_along}
use Rattle.sim_4_links_follow.specs.Following.{IsNextItem, WorldFollows}
use Rattle.sim_3_images.specs.Relayable.{ClientFits, DownFits, ServerFits, UpFits}
use Rattle.sim_3_images.specs.Devices.{identity_at}
use Rattle.sim_3_items.specs.Labels.{awaits, labels_of}
use Rattle.sim_3_items.specs.Identities.{Identity}
use Rattle.sim_3_items.specs.Pipes.{by_number}
use Rattle.sim_3_items.specs.Reading.{HearingFollows, client_step_on, device_after, noted}
use Rattle.sim_3_items.specs.Represents.{Represents}
use Rattle.sim_5_moves.proofs.FlagsKeptStepped.{same_ups}
use Rattle.sim_5_moves.proofs.FlagsKeptFlags.{flags_session_step}
use Rattle.sim_3_images.proofs.FittingEncodings.{keep_here, takes_any}
use Rattle.sim_3_images.proofs.MoveSteps.{move_fits}
use Rattle.sim_3_images.specs.Fitting.{FitsHere}
use Rattle.sim_3_items.specs.Items.{stanzas_read}
use Rattle.sim_3_items.specs.ItemMoves.{Down, moved}
use Rattle.sim_3_items.specs.ItemPipes.{ItemWire}
use Rattle.sim_3_items.specs.ItemWorlds.{ItemDevice, ItemWorld}
use Rattle.sim_2_links.proofs.Reached.{link_kept}
use Rattle.sim_2_links.proofs.WithPremises.{prompt_runs}
use Rattle.sim_2_links.specs.Events.{seen}
use Rattle.sim_2_links.specs.Links.{LinkKept}
use Rattle.sim_2_links.specs.Machine.{LinkReached}
use Rattle.sim_2_events.specs.Lists.{IsDevice}
use Rattle.sim_5_devices.proofs.Staying.{paging_stays, prompt_stays}
use Rattle.sim_5_devices.specs.InTime.{AreInTime}
use Rattle.sim_5_devices.specs.Shown.{LogRepresents}
use Rattle.sim_5_moves.proofs.Acting.{acted_on}
use Rattle.sim_5_moves.specs.Moves.{ActsAlone}
use Rattle.cmd_schedule.specs.Contents.{Owned}
use Rattle.cmd_schedule.specs.Schedules.{WireView}
use Rattle.sim_1_applications.proofs.Unanswered.{LeadsTo, leads_along}
use Rattle.sim_1_applications.specs.Counts.{IsBetween, IsUnanswered}
use Rattle.sim_5_devices.proofs.SessionLabelsSteps.{moves_done}
use Rattle.sim_5_devices.proofs.Worlds.{set_here}
use Rattle.sim_5_devices.specs.Labels.{Binds, Counts, DoesInterleaved, Ends, SessionStep, SessionSteps, session_step_events, with_device}
use Rattle.sim_3_items.specs.Served.{FlagsRepresent}
use Rattle.sim_3_items.specs.Submitted.{SubmissionsRepresent}
use Rattle.sim_1_applications.specs.Devices.{AppWorld, Device, Sessions}
use Rattle.sim_1_applications.specs.Events.{Act, AppEvent, At, Reaches, around, own}
use Rattle.sim_1_applications.specs.Histories.{spoken_in}
use Rattle.sim_5_devices.proofs.Served.{same_told}
use Rattle.sim_5_moves.proofs.BuiltAlong.{built_along}
use Rattle.sim_5_moves.specs.Going.{ArePutBuilt}
use Rattle.sim_5_moves.specs.Running.{Bounds, DeviceSimulates, IsInBounds, IsOwned, MoveSimulates, RunsOn, WorldSimulates, history_for, keep_in, DoesBy}
use Rattle.xml_writer.specs.Items.{ItemOut}
use Rattle.sim_5_moves.proofs.Doing.{heard_beside, heard_does}

-- ---- what comes

-- an item is the next that comes to a device, and its client does in the links what it does on it
pub record Coming (schedule : WireView) (b : Bounds) (says : ℕ) (w : ItemWorld) (x : AppWorld) : Type 0 where
  pub runs : WorldSimulates schedule b says w x
  pub ground : IsGround schedule x
  pub position : ℕ
  pub wire : ItemWire
  pub o : Owned
  pub owned : IsOwned schedule wire.device o
  pub z : ItemOut
  pub item : IsNextItem position wire.device w (runs.simulation.devices wire.device o owned).represents.device wire z
  pub read : HearingFollows (identity_at schedule wire.device o) (runs.simulation.devices wire.device o owned).logins (runs.simulation.devices wire.device o owned).represents.device (by_number w.wires) (runs.simulation.devices wire.device o owned).view (position + 1) wire (client_step_on z (runs.simulation.devices wire.device o owned).represents.device)
  pub bounds : IsInBounds b says (Down position) w x

-- ---- events of a device

between_session_steps : (j i : ℕ) (xs : List SessionStep) → AllByRecursion (IsBetween j) (session_step_events i xs)
between_session_steps j i [] = tt
between_session_steps j i (Binds ∷ xs) = (tt, between_session_steps j i xs)
between_session_steps j i (Counts ∷ xs) = (tt, between_session_steps j i xs)
between_session_steps j i (Ends ∷ xs) = (tt, between_session_steps j i xs)

-- it takes steps, acts, and drifts again
pub between_both : (j i : ℕ) (xs ys : List SessionStep) (act : Act) → IsBetween j (At i act) → AllByRecursion (IsBetween j) (session_step_events i xs ++ At i act ∷ session_step_events i ys)
between_both j i [] ys act is = (is, between_session_steps j i ys)
between_both j i (Binds ∷ xs) ys act is = (tt, between_both j i xs ys act is)
between_both j i (Counts ∷ xs) ys act is = (tt, between_both j i xs ys act is)
between_both j i (Ends ∷ xs) ys act is = (tt, between_both j i xs ys act is)

-- ---- the move

module _ (schedule : WireView) (b : Bounds) (says : ℕ) (w : ItemWorld) (x : AppWorld) (c : Coming schedule b says w x) where
  abbrev pub i : ℕ
  i = c.wire.device

  abbrev pub old : DeviceSimulates schedule w x i c.o
  old = c.runs.simulation.devices i c.o c.owned

  abbrev pub who : Identity
  who = identity_at schedule i c.o

  abbrev pub d : ItemDevice
  d = old.represents.device

  abbrev pub t : ClientStep ItemOut ItemOut
  t = client_step_on c.z d

  abbrev pub history : List EntryView
  history = history_for schedule x.takes c.o

  abbrev pub after : ItemWorld
  after = heard_so w c.position d c.wire c.z c.item

  -- the device that drifted there, and acts
  abbrev pub stepped_to : Sessions → Device
  stepped_to there = record old.device { sessions = there }

  abbrev pub acted_by : Act → Sessions → Device
  acted_by act there = own (around x old.device) act (stepped_to there)

  reached : LinkReached old.view
  reached = prompt_runs awaits old.view old.prompt

  pub follows : WorldFollows who old.logins after old.view (noted t.out.notes)
  follows =
      subst (λ v. WorldFollows who old.logins v old.view (noted t.out.notes)) (moved_so w c.position d c.wire c.z c.item)
      (hear_lifts who old.logins w old.view old.represents c.position d c.wire c.z c.item c.read)

  pub done : (end : Sessions) × DoesInterleaved stanzas_read (labels_of follows.moves) old.device.sessions end × IsDevice stanzas_read (seen follows.next) end
  done = moves_done stanzas_read follows.moves old.view follows.next old.device.sessions reached follows.leads old.sessions

  abbrev pub end : Sessions
  end = done.0

  pub interleaved : DoesInterleaved stanzas_read (noted t.out.notes) old.device.sessions end
  interleaved = subst (λ ds. DoesInterleaved stanzas_read ds old.device.sessions end) follows.does done.1

  pub kept_before : LinkKept old.view
  kept_before = link_kept old.view reached

  pub kept_after : LinkKept follows.next
  kept_after = link_kept follows.next (reached_along follows.moves old.view follows.next reached follows.leads)

  pub same_device : device_after t d ≡ follows.represents.device
  same_device = same_Some (device_after t d) follows.represents.device (sym (set_here w.devices i d (device_after t d) old.represents.there) ∙ follows.represents.there)

  -- where the device drifts the client still shows it, and so do the flags that the server has
  module _ (xs : List SessionStep) (there : Sessions) (session_steps : SessionSteps xs old.device.sessions there) where
    pub represents_there : SubmissionsRepresent d.client there
    represents_there = same_told d.client old.device.sessions there (same_ups xs old.device.sessions there session_steps) old.submissions

    pub flags_there : end.row ≡ there.row → FlagsRepresent who.account c.o.device w.server there
    flags_there row = flags_session_step who old.logins w.server old.view follows.next old.device.sessions there end xs old.represents.server follows.represents.server kept_after old.sessions done.2 session_steps row old.flags

  -- ---- what is known of the device behind it

  pub record IsHeard (next : Device) : Type 0 where
    pub timely : AreInTime (noted t.out.notes) old.device.sessions.now
    pub put : ArePutBuilt c.o history (noted t.out.notes)
    pub events : List AppEvent
    pub reaches : Reaches events x (with_device i next x)
    pub silent : spoken_in events ≡ []
    pub between : (j : ℕ) → AllByRecursion (IsBetween j) events
    pub account : next.account ≡ old.device.account
    pub ends : end ≡ next.sessions
    pub submissions : SubmissionsRepresent t.client next.sessions
    pub log : LogRepresents (keep_in schedule) history t.client.log next.reading
    pub pages : t.client.pages ≡ next.reading.asked
    pub flags : FlagsRepresent who.account c.o.device w.server next.sessions

  module _ (next : Device) (h : IsHeard next) where
    abbrev next_world : AppWorld
    next_world = with_device i next x

    abbrev device_runs : DeviceSimulates schedule after next_world i c.o
    device_runs = record {
      logins = old.logins;
      view = follows.next;
      in_time = paging_stays follows.moves old.view follows.next old.device.sessions old.in_time follows.leads follows.prompt old.sessions (subst (λ ds. AreInTime ds old.device.sessions.now) (sym follows.does) h.timely);
      prompt = prompt_stays follows.moves old.view follows.next old.prompt follows.leads follows.prompt;
      represents = follows.represents;
      device = next;
      there = set_here x.devices i old.device next old.there;
      account = h.account ∙ old.account;
      sessions = subst (IsDevice stanzas_read (seen follows.next)) h.ends done.2;
      built = built_along c.o history follows.moves old.view follows.next reached follows.leads (subst (ArePutBuilt c.o history) (sym follows.does) h.put) old.built;
      submissions = subst (λ (e : ItemDevice). SubmissionsRepresent e.client next.sessions) same_device h.submissions;
      log = subst (λ (e : ItemDevice). LogRepresents (keep_in schedule) history e.client.log next.reading) same_device h.log;
      pages = subst (λ (e : ItemDevice). e.client.pages ≡ next.reading.asked) same_device h.pages;
      flags = h.flags;
    }

    leads : (j : ℕ) (e f : Device) → slice_get x.devices j ≡ Some e → slice_get next_world.devices j ≡ Some f → LeadsTo e f
    leads j e f at after_at = leads_along h.events x next_world j e f c.ground.taken c.ground.read (h.between j) h.reaches at after_at

    asked_still : next.reading.asked ≤ b.pages + 1
    asked_still =
        let l = leads i old.device next old.there (set_here x.devices i old.device next old.there) in
        elim (c.bounds.0 c.wire old.device c.item.there old.there) [
          | inl few ↦ elim l.few [
            | inl same ↦ omega (arith, same, few)
            | inr more ↦ (let one = more.0 in omega (arith, one, few))
          ]
          | inr none ↦ (let same = (l.still none).0 in let few = c.runs.in_bounds.asked i old.device old.there in omega (arith, same, few))
        ]

    abbrev acts : ActsAlone schedule b says w x c.runs i c.o after next
    acts = record {
      owned = c.owned;
      old = old.device;
      there = old.there;
      alone = hears_alone w c.position d c.wire c.z c.item;
      fits = subst FitsHere (moved_so w c.position d c.wire c.z c.item) (move_fits UpFits DownFits ServerFits ClientFits keep_here takes_any (Down c.position) w c.runs.in_bounds.fits tt);
      events = h.events;
      reaches = h.reaches;
      said = subst (λ l. says + length l ≤ b.says) (sym h.silent) (let said = c.runs.in_bounds.said in omega (arith, said));
      asked = asked_still;
      device = device_runs;
      done = noted t.out.notes;
      leads = (follows.moves, follows.leads, follows.does);
      others = λ j q is other.
          subst (λ v. Represents (identity_at schedule j q) (c.runs.simulation.devices j q is).logins v (c.runs.simulation.devices j q is).view) (moved_so w c.position d c.wire c.z c.item)
          (down_leaves (identity_at schedule j q) (c.runs.simulation.devices j q is).logins w (c.runs.simulation.devices j q is).view (c.runs.simulation.devices j q is).represents c.position c.wire c.item.there (λ same. other (sym same)));
    }

    world_runs : RunsOn schedule b says w x c.runs (DoesBy (Down c.position) w) (says + 0) (moved (Down c.position) w) next_world
    world_runs =
        subst (λ v. RunsOn schedule b says w x c.runs (DoesBy (Down c.position) w) (says + 0) v next_world) (sym (moved_so w c.position d c.wire c.z c.item))
        (subst (λ l. RunsOn schedule b says w x c.runs (DoesBy (Down c.position) w) (says + length l) after next_world) h.silent
        (acted_on schedule b says w x c.runs i c.o after next acts (DoesBy (Down c.position) w) (heard_does c.position i w d c.wire c.z c.item) (heard_beside c.position i w d c.wire c.z c.item)))

    elsewhere : (j : ℕ) (e f : Device) → slice_get x.devices j ≡ Some e → slice_get next_world.devices j ≡ Some f → (u : ItemWire) → slice_get w.wires c.position ≡ Some u → u.device ≢ j
        → (f.reading.asked ≡ e.reading.asked) × (IsUnanswered e → IsUnanswered f)
    elsewhere j e f at after_at u there apart =
        let mine : i ≢ j = λ same. apart (ap (λ (y : ItemWire). y.device) (same_Some u c.wire (sym there ∙ c.item.there)) ∙ same) in
        let is : e ≡ f = same_Some e f (sym at ∙ sym (set_elsewhere x.devices i j next (λ same. mine (sym same))) ∙ after_at) in
        subst (λ y. (y.reading.asked ≡ e.reading.asked) × (IsUnanswered e → IsUnanswered y)) is (refl, λ u. u)

    pub heard_runs : MoveSimulates schedule b says (Down c.position) w x c.runs
    heard_runs = record {
      events = h.events;
      next = next_world;
      reaches = h.reaches;
      spoken = h.silent;
      asked = λ j e f at after_at. (let l = leads j e f at after_at in ((l.still, l.few), elsewhere j e f at after_at));
      runs = world_runs.runs;
      links = world_runs.links;
    }
