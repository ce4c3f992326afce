-- Behind a stanza that comes to a client the worlds are related still.
use Rattle.std.proofs.Common.{◌≡◌, ◌≢◌, ℕ, ◌+◌, ◌≤◌, List, [], ◌∷◌, ◌++◌, Option, Some, None, length, map, slice_get, inl, inr, refl, sym, ap, subst, ◌∙◌, arith}
use Rattle.std.proofs.lemmas.Option.{same_Some}
use Rattle.std.specs.List.{AllByRecursion}
use Rattle.std.specs.Option.{IfSome}
use Rattle.mam_archive.specs.Entries.{EntryView}
use Rattle.cl_handlers.specs.Clients.{ClientStep}
use Rattle.sim_5_moves.proofs.Alone.{heard_so, hears_alone, moved_so}
use Rattle.sim_5_moves.proofs.Next.{IsNextStanza, next_stanza}
use Rattle.sim_5_moves.proofs.Rendered.{IsReadable, asked_well, ends_so, flags_so, following, reaches_so, reaction, read_so, session_steps, submits_so}
use Rattle.sim_5_moves.specs.Ground.{IsGround}
use Rattle.sim_4_links_follow.proofs.Numbered.{set_elsewhere}
use Rattle.sim_4_links_follow.proofs.Spoken.{stanza_read}
use Rattle.sim_4_links_follow.proofs.ConnectionsElsewhere.{down_leaves}
use Rattle.sim_4_links_follow.proofs.Lifts.{hear_lifts}
use Rattle.sim_4_links_follow.proofs.Stays.{reached_along}
use Rattle.sim_4_links_follow.specs.Following.{IsNextItem, WorldFollows}
use Rattle.sim_3_images.specs.Relayable.{ClientFits, DownFits, ServerFits, UpFits}
use Rattle.sim_5_devices.proofs.Kept.{Paged, paged_begins, paged_kept}
use Rattle.sim_5_devices.proofs.Timely.{reads_in_time}
use Rattle.sim_5_devices.specs.Pages.{IsPaged}
use Rattle.sim_3_images.specs.Devices.{identity_at}
use Rattle.sim_3_items.specs.Labels.{Reads, labels_of, says_all}
use Rattle.sim_3_items.specs.Identities.{Identity}
use Rattle.sim_3_items.specs.Pipes.{by_number}
use Rattle.sim_3_items.specs.Reading.{HearingFollows, IsNextDown, client_step_on, device_after, noted}
use Rattle.sim_3_items.specs.Represents.{Represents}
use Rattle.sim_3_images.proofs.FittingEncodings.{client_within, keep_here, next_answered, takes_any}
use Rattle.sim_3_images.proofs.MoveSteps.{move_fits}
use Rattle.sim_3_images.specs.Fitting.{FitsHere}
use Rattle.sim_3_items.proofs.ItemsUp.{request_read}
use Rattle.sim_3_items.specs.Items.{stanzas_read}
use Rattle.sim_3_items.specs.Meant.{IsRequest, requested}
use Rattle.sim_3_items.specs.Ups.{up_stanza}
use Rattle.sim_3_items.specs.ItemMoves.{Down, moved}
use Rattle.sim_3_items.specs.ItemPipes.{ItemWire}
use Rattle.sim_3_items.specs.ItemWorlds.{ItemDevice, ItemWorld}
use Rattle.sim_2_links.proofs.Reached.{link_kept}
use Rattle.sim_2_links.specs.Events.{seen}
use Rattle.sim_2_links.specs.Words.{Down as DownTraffic, St}
use Rattle.sim_2_events.specs.Lists.{IsDevice}
use Rattle.sim_5_devices.proofs.Rest.{short_queue}
use Rattle.sim_5_devices.proofs.Staying.{paging_stays, prompt_stays}
use Rattle.sim_5_devices.specs.InTime.{AreInTime}
use Rattle.sim_5_devices.specs.Shown.{LogRepresents}
use Rattle.sim_5_moves.proofs.Acting.{act_spoken, acted_on}
use Rattle.sim_5_moves.specs.Moves.{ActsAlone}
use Rattle.law_payloads.specs.AsRead.{last_moment}
use Rattle.sim_5_devices.proofs.ReadingsKnownHistories.{named_at, world_plain}
use Rattle.sim_5_devices.specs.Named.{IsNamed}
use Rattle.cmd_schedule.specs.Contents.{Owned, accounts_of}
use Rattle.cmd_schedule.specs.Schedules.{WireView, keep_of}
use Rattle.sim_1_applications.proofs.EachDevice.{from_beginning}
use Rattle.sim_1_applications.proofs.Unanswered.{LeadsTo, leads_along}
use Rattle.sim_1_applications.specs.Counts.{IsBetween, IsUnanswered}
use Rattle.sim_5_devices.proofs.SessionLabelsSteps.{moves_done}
use Rattle.sim_5_devices.proofs.Worlds.{set_here}
use Rattle.sim_5_devices.specs.Labels.{Binds, Counts, DoesInterleaved, Ends, SessionStep, session_step_events, with_device}
use Rattle.sim_3_items.specs.Built.{IsUpAs}
use Rattle.sim_3_items.specs.Submitted.{SubmissionsRepresent}
use Rattle.sim_1_applications.specs.Devices.{AppWorld, Device, Sessions}
use Rattle.sim_1_applications.specs.Events.{AppEvent, At, ClientHandles, Reaches, around, queries}
use Rattle.sim_1_applications.specs.Histories.{spoken_in}
use Rattle.sim_1_applications.specs.Stanzas.{Request}
use Rattle.sim_1_applications.specs.Runs.{owned_of, steps_in}
use Rattle.sim_5_devices.specs.Logged.{puts_of}
use Rattle.sim_4_links_follow.proofs.Changes.{under_position}
use Rattle.sim_5_moves.proofs.BuiltAlong.{built_along}
use Rattle.sim_5_moves.specs.Going.{ArePutBuilt, DeviceGoes}
use Rattle.sim_5_moves.specs.Running.{AreSmall, Bounds, DeviceSimulates, IsInBounds, IsOwned, MoveSimulates, RunsOn, WorldSimulates, history_for, keep_in, DoesBy}
use Rattle.xml_writer.specs.Items.{ItemOut}
use Rattle.sim_5_moves.proofs.Doing.{heard_beside, heard_does}

-- ---- small facts

ups_are : (r : Option Request) → IfSome r IsRequest → map up_stanza (puts_of r) ≡ queries r
ups_are None is = refl
ups_are (Some r) is = ap (λ y. y ∷ []) (request_read r is)

put_built : (o : Owned) (history : List EntryView) (z : ItemOut) (r : Option Request) → IfSome r IsRequest → ArePutBuilt o history (Reads z ∷ says_all (puts_of r))
put_built o history z None is = tt
put_built o history z (Some r) is = (subst (λ y. IsUpAs o y (requested r)) (sym (request_read r is)) (refl, is), tt)

all_between : (j i : ℕ) (xs : List SessionStep) → AllByRecursion (IsBetween j) (session_step_events i xs ++ At i ClientHandles ∷ [])
all_between j i [] = (tt, tt)
all_between j i (Binds ∷ xs) = (tt, all_between j i xs)
all_between j i (Counts ∷ xs) = (tt, all_between j i xs)
all_between j i (Ends ∷ xs) = (tt, all_between j i xs)

-- ---- the move

module _ (schedule : WireView) (b : Bounds) (small : AreSmall b) (says : ℕ) (w : ItemWorld) (x : AppWorld) (runs : WorldSimulates schedule b says w x) (ground : IsGround schedule x) (position : ℕ) (wire : ItemWire) (o : Owned)
    (owned : IsOwned schedule wire.device o) (z : ItemOut) (n : IsNextItem position wire.device w (runs.simulation.devices wire.device o owned).represents.device wire z)
    (p : IsNextDown (identity_at schedule wire.device o) (runs.simulation.devices wire.device o owned).logins (runs.simulation.devices wire.device o owned).represents.device (by_number w.wires) (runs.simulation.devices wire.device o owned).view (position + 1) (DownTraffic (St z)))
    (bounds : IsInBounds b says (Down position) w x) where
  abbrev i : ℕ
  i = wire.device

  abbrev old : DeviceSimulates schedule w x i o
  old = runs.simulation.devices i o owned

  abbrev who : Identity
  who = identity_at schedule i o

  abbrev d : ItemDevice
  d = old.represents.device

  abbrev t : ClientStep ItemOut ItemOut
  t = client_step_on z d

  abbrev history : List EntryView
  history = history_for schedule x.takes o

  names : IsNamed o
  names = named_at (owned_of schedule) i o ground.named.devices owned

  asked_few : old.device.reading.asked ≤ b.pages + 1
  asked_few = runs.in_bounds.asked i old.device old.there

  nx : IsNextStanza old.view d z
  nx = next_stanza who old.logins d (by_number w.wires) old.view (position + 1) z p

  early : x.clock ≤ last_moment
  early = subst (λ n. n ≤ last_moment) (sym runs.simulation.clock) bounds.1

  known : IsReadable schedule w x i o old z
  known = record {
    taken = ground.taken;
    read = ground.read;
    keeps = ground.keeps;
    account_named = names.account;
    device_named = names.device;
    next = nx;
    plain = world_plain (owned_of schedule) x ground.taken ground.named early ground.few o.account;
    few = ground.few;
    more = (let few = asked_few in let most = small.stanzas in omega (arith, few, most));
    short = subst (λ m. IfSome m (λ s. length s.waiting.queue ≤ 1002)) nx.has (short_queue who old.logins d old.view old.in_time old.represents.client);
  }

  -- ---- the links

  same_wire : p.wire ≡ wire
  same_wire = same_Some p.wire wire (sym p.there ∙ under_position position w.wires ∙ n.there)

  abbrev after : ItemWorld
  after = heard_so w position d wire z n

  follows : WorldFollows who old.logins after old.view (noted t.out.notes)
  follows =
      subst (λ v. WorldFollows who old.logins v old.view (noted t.out.notes)) (moved_so w position d wire z n)
      (hear_lifts who old.logins w old.view old.represents position d wire z n
      (subst (λ u. HearingFollows who old.logins d (by_number w.wires) old.view (position + 1) u (client_step_on z d)) same_wire
      (stanza_read who old.logins d (by_number w.wires) old.view (position + 1) z p (client_within w i d runs.in_bounds.fits old.represents.there) (next_answered w position wire z n.items runs.in_bounds.fits n.there n.first))))

  abbrev r : Option Request
  r = (reaction schedule w x i o old z known).request

  done_so : noted t.out.notes ≡ Reads z ∷ says_all (puts_of r)
  done_so = (read_so schedule w x i o old z known).noted

  asked_so : IfSome r IsRequest
  asked_so = asked_well schedule w x i o old z known

  paged : IsPaged old.device
  paged =
      from_beginning Paged paged_kept paged_begins (keep_of schedule.version) (accounts_of (steps_in schedule)) (map (λ (o : Owned). o.account) (owned_of schedule)) runs.in_bounds.led.events x runs.in_bounds.led.reaches i old.device old.there

  timely : AreInTime (noted t.out.notes) old.device.sessions.now
  timely = subst (λ ds. AreInTime ds old.device.sessions.now) (sym done_so) (reads_in_time (around x old.device) old.device z (puts_of r) paged (ups_are r asked_so))

  abbrev done : (end : Sessions) × DoesInterleaved stanzas_read (labels_of follows.moves) old.device.sessions end × IsDevice stanzas_read (seen follows.next) end
  done = moves_done stanzas_read follows.moves old.view follows.next old.device.sessions p.shown.reached follows.leads old.sessions

  abbrev goes_so : DeviceGoes schedule after i o history (noted t.out.notes) old.device.sessions old.view
  goes_so = record {
    logins = old.logins;
    view = follows.next;
    leads = (follows.moves, follows.leads, follows.does);
    reached = reached_along follows.moves old.view follows.next p.shown.reached follows.leads;
    in_time = paging_stays follows.moves old.view follows.next old.device.sessions old.in_time follows.leads follows.prompt old.sessions (subst (λ ds. AreInTime ds old.device.sessions.now) (sym follows.does) timely);
    prompt = prompt_stays follows.moves old.view follows.next old.prompt follows.leads follows.prompt;
    represents = follows.represents;
    end = done.0;
    interleaved = subst (λ ds. DoesInterleaved stanzas_read ds old.device.sessions done.0) follows.does done.1;
    sessions = done.2;
    built =
        built_along o history follows.moves old.view follows.next p.shown.reached follows.leads
        (subst (ArePutBuilt o history) (sym follows.does) (subst (ArePutBuilt o history) (sym done_so) (put_built o history z r asked_so))) old.built;
  }

  interleaved : DoesInterleaved stanzas_read (Reads z ∷ says_all (puts_of r)) old.device.sessions goes_so.end
  interleaved = subst (λ ds. DoesInterleaved stanzas_read ds old.device.sessions goes_so.end) done_so goes_so.interleaved

  -- ---- the device behind it

  abbrev next : Device
  next = following schedule w x i o old z known goes_so.end interleaved

  abbrev next_world : AppWorld
  next_world = with_device i next x

  same_device : device_after t d ≡ goes_so.represents.device
  same_device = same_Some (device_after t d) goes_so.represents.device (sym (set_here w.devices i d (device_after t d) old.represents.there) ∙ goes_so.represents.there)

  abbrev device_runs : DeviceSimulates schedule after next_world i o
  device_runs = record {
    logins = goes_so.logins;
    view = goes_so.view;
    in_time = goes_so.in_time;
    prompt = goes_so.prompt;
    represents = goes_so.represents;
    device = next;
    there = set_here x.devices i old.device next old.there;
    account = old.account;
    sessions = subst (IsDevice stanzas_read (seen goes_so.view)) (ends_so schedule w x i o old z known goes_so.end interleaved) goes_so.sessions;
    built = goes_so.built;
    submissions = subst (λ (e : ItemDevice). SubmissionsRepresent e.client next.sessions) same_device (submits_so schedule w x i o old z known goes_so.end interleaved);
    log = subst (λ (e : ItemDevice). LogRepresents (keep_in schedule) history e.client.log next.reading) same_device (read_so schedule w x i o old z known).log;
    pages = subst (λ (e : ItemDevice). e.client.pages ≡ next.reading.asked) same_device (read_so schedule w x i o old z known).pages;
    flags = flags_so schedule w x i o old z known goes_so.end interleaved goes_so.view goes_so.represents.server (link_kept goes_so.view goes_so.reached) goes_so.sessions;
  }

  -- ---- the worlds

  abbrev events : List AppEvent
  events = session_step_events i (session_steps schedule w x i o old z known goes_so.end interleaved) ++ At i ClientHandles ∷ []

  reaches : Reaches events x next_world
  reaches = reaches_so schedule w x i o old z known goes_so.end interleaved

  silent : spoken_in events ≡ []
  silent = act_spoken i (session_steps schedule w x i o old z known goes_so.end interleaved) ClientHandles

  abbrev leads : (j : ℕ) (e f : Device) → slice_get x.devices j ≡ Some e → slice_get next_world.devices j ≡ Some f → LeadsTo e f
  leads j e f at after_at = leads_along events x next_world j e f ground.taken ground.read (all_between j i (session_steps schedule w x i o old z known goes_so.end interleaved)) reaches at after_at

  asked_still : next.reading.asked ≤ b.pages + 1
  asked_still =
      let l = leads i old.device next old.there (set_here x.devices i old.device next old.there) in
      elim (bounds.0 wire old.device n.there old.there) [
        | inl few ↦ elim l.few [
          | inl same ↦ omega (arith, same, few)
          | inr more ↦ (let one = more.0 in omega (arith, one, few))
        ]
        | inr none ↦ (let same = (l.still none).0 in let few = asked_few in omega (arith, same, few))
      ]

  abbrev acts : ActsAlone schedule b says w x runs i o after next
  acts = record {
    owned = owned;
    old = old.device;
    there = old.there;
    alone = hears_alone w position d wire z n;
    fits = subst FitsHere (moved_so w position d wire z n) (move_fits UpFits DownFits ServerFits ClientFits keep_here takes_any (Down position) w runs.in_bounds.fits tt);
    events = events;
    reaches = reaches;
    said = subst (λ l. says + length l ≤ b.says) (sym silent) (let said = runs.in_bounds.said in omega (arith, said));
    asked = asked_still;
    device = device_runs;
    done = noted t.out.notes;
    leads = goes_so.leads;
    others = λ j q is other.
        subst (λ v. Represents (identity_at schedule j q) (runs.simulation.devices j q is).logins v (runs.simulation.devices j q is).view) (moved_so w position d wire z n)
        (down_leaves (identity_at schedule j q) (runs.simulation.devices j q is).logins w (runs.simulation.devices j q is).view (runs.simulation.devices j q is).represents position wire n.there (λ same. other (sym same)));
  }

  world_runs : RunsOn schedule b says w x runs (DoesBy (Down position) w) (says + 0) (moved (Down position) w) next_world
  world_runs =
      subst (λ v. RunsOn schedule b says w x runs (DoesBy (Down position) w) (says + 0) v next_world) (sym (moved_so w position d wire z n))
      (subst (λ l. RunsOn schedule b says w x runs (DoesBy (Down position) w) (says + length l) after next_world) silent
      (acted_on schedule b says w x runs i o after next acts (DoesBy (Down position) w) (heard_does position i w d wire z n) (heard_beside position i w d wire z n)))

  elsewhere : (j : ℕ) (e f : Device) → slice_get x.devices j ≡ Some e → slice_get next_world.devices j ≡ Some f → (u : ItemWire) → slice_get w.wires position ≡ Some u → u.device ≢ j
      → (f.reading.asked ≡ e.reading.asked) × (IsUnanswered e → IsUnanswered f)
  elsewhere j e f at after_at u there apart =
      let mine : i ≢ j = λ same. apart (ap (λ (y : ItemWire). y.device) (same_Some u wire (sym there ∙ n.there)) ∙ same) in
      let is : e ≡ f = same_Some e f (sym at ∙ sym (set_elsewhere x.devices i j next (λ same. mine (sym same))) ∙ after_at) in
      subst (λ y. (y.reading.asked ≡ e.reading.asked) × (IsUnanswered e → IsUnanswered y)) is (refl, λ u. u)

  pub down_runs : MoveSimulates schedule b says (Down position) w x runs
  down_runs = record {
    events = events;
    next = next_world;
    reaches = reaches;
    spoken = silent;
    asked = λ j e f at after_at. (let l = leads j e f at after_at in ((l.still, l.few), elsewhere j e f at after_at));
    runs = world_runs.runs;
    links = world_runs.links;
  }
