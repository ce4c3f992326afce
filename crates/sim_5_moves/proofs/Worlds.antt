-- Where a stanza is handled, and each device is as it should be, the worlds are related.
use Rattle.std.proofs.Common.{◌≡◌, ℕ, ◌+◌, ◌≤◌, List, ◌++◌, Some, length, map, refl, sym, ap, subst, ◌∙◌, append-nil, arith, inl, inr}
use Rattle.std.proofs.lemmas.Bool.{cases_eq}
use Rattle.std.proofs.lemmas.Option.{same_Some, slice_get_within}
use Rattle.std.specs.List.{slice_get}
use Rattle.mam_archive.proofs.NumberedEntries.{at_position}
use Rattle.sim_3_images.proofs.UpMoves.{length_items_emitted}
use Rattle.sim_3_images.proofs.UserMoves.{length_where}
use Rattle.sim_3_images.specs.Relayable.{ClientFits, DownFits, ServerFits, UpFits}
use Rattle.sim_3_items.specs.Labels.{awaits}
use Rattle.sim_3_images.specs.Stands.{ServerStateStands}
use Rattle.sim_3_images.proofs.FittingEncodings.{keep_here, takes_any}
use Rattle.sim_3_images.proofs.MoveSteps.{move_fits}
use Rattle.sim_3_images.specs.Fitting.{FitsHere}
use Rattle.sim_3_items.specs.ItemMoves.{Up, moved, step_of, takes_reported}
use Rattle.sim_3_items.specs.ItemPipes.{ItemWire, handed_up}
use Rattle.sim_3_items.specs.ItemWorlds.{ItemWorld, itself, read_of}
use Rattle.sim_2_links.proofs.WithPremises.{prompt_runs}
use Rattle.cmd_schedule.specs.Contents.{Owned}
use Rattle.sim_3_images.proofs.Within.{item_within}
use Rattle.sim_3_images.specs.Unbound.{IsWithin}
use Rattle.sim_5_moves.proofs.ServersComing.{Coming, after, is_after, mine, old, own, step}
use Rattle.sim_5_moves.proofs.Links.{Stands, stands_run}
use Rattle.sim_5_moves.proofs.OneOwner.{of_owner}
use Rattle.sim_5_devices.proofs.AllSessionSteps.{reaches_both, spoken_both}
use Rattle.sim_3_items.specs.Served.{ServerSimulates, take_reported}
use Rattle.sim_1_applications.specs.Devices.{AppWorld, Device, Sessions, Take}
use Rattle.sim_1_applications.specs.Histories.{spoken_in}
use Rattle.sim_1_applications.specs.Runs.{begins, owned_of}
use Rattle.sim_5_moves.specs.Handled.{AreHandled}
use Rattle.law_server.proofs.PieceTakes.{item_takes}
use Rattle.sim_5_moves.proofs.Wires.{at_same, emitted_same, same_twice}
use Rattle.cmd_network.specs.Positions.{changed_at}
use Rattle.sim_4_links_follow.proofs.Headers.{item_may_go_up}
use Rattle.sim_4_links_follow.proofs.StandMoves.{move_stands}
use Rattle.sim_5_moves.specs.Running.{DeviceSimulates, IsOwned, Leads, MoveSimulates, RunsOn, WorldSimulates, keep_in, names_of, DoesBy}

-- another device, with these sessions
abbrev pub IsSo : Coming → List Take → ℕ → Device → Sessions → Type 0
IsSo c takes j e last = (p : Owned) × (is : IsOwned c.schedule j p) × Stands c.schedule (after c) takes j p (record e { sessions = last }) (c.runs.simulation.devices j p is).view (DoesBy (Up c.position) c.w j)

-- the device whose stanza it is, the others, and the server
pub record IsHandled (c : Coming) (takes : List Take) : Type 0 where
  pub following : Device
  pub handled : AreHandled (IsSo c takes) c.x (mine c) following takes
  pub stands : Stands c.schedule (after c) takes (mine c) c.o following (old c).view (DoesBy (Up c.position) c.w (mine c))
  pub asked : following.reading.asked ≡ (old c).device.reading.asked
  pub server : ServerSimulates (keep_in c.schedule) (owned_of c.schedule) (names_of c.schedule) takes (step c).server_state
  pub told : c.w.takes ++ takes_reported c.w.moment (step c).outs ≡ map (take_reported (owned_of c.schedule)) takes

-- each device of the world of the applications is one of the schedule's
pub record HasOwner (c : Coming) (j : ℕ) (e : Device) : Type 0 where
  pub owner : Owned
  pub is : IsOwned c.schedule j owner
  pub same : (c.runs.simulation.devices j owner is).device ≡ e

pub owner_of : (c : Coming) (j : ℕ) (e : Device) → slice_get c.x.devices j ≡ Some e → HasOwner c j e
owner_of c j e at =
    let within = slice_get_within c.x.devices j e at in
    let many = c.runs.simulation.many_there in
    let owner = at_position j (owned_of c.schedule) (omega (arith, within, many)) in
    let r = c.runs.simulation.devices j owner.0 owner.1 in
    record { owner = owner.0; is = owner.1; same = same_Some r.device e (sym r.there ∙ at) }

module _ (c : Coming) (takes : List Take) (n : IsHandled c takes) where
  abbrev next : AppWorld
  next = record c.x { takes = takes; devices = n.handled.devices }

  -- ---- devices

  abbrev Comes : (j : ℕ) (p : Owned) → IsOwned c.schedule j p → Type 0
  Comes j p is = (e : DeviceSimulates c.schedule (after c) next j p) × Leads (DoesBy (Up c.position) c.w j) (c.runs.simulation.devices j p is).view e.view

  device_comes : (j : ℕ) (p : Owned) (is : IsOwned c.schedule j p) → Comes j p is
  device_comes j p is = elim (cases_eq (mine c) j) [
    | inl same ↦
        subst (λ k. (q : Owned) (at : IsOwned c.schedule k q) → Comes k q at) same
        (of_owner c.schedule (mine c) (Comes (mine c)) c.o c.owned (stands_run c.schedule (after c) next (mine c) c.o n.following (old c).view (DoesBy (Up c.position) c.w (mine c)) n.stands n.handled.here, n.stands.leads)) p is
    | inr apart ↦
        let r = c.runs.simulation.devices j p is in
        let it = n.handled.each j r.device r.there (λ same. apart (sym same)) in
        of_owner c.schedule j (Comes j) it.1.0 it.1.1 (stands_run c.schedule (after c) next j it.1.0 (record r.device { sessions = it.0 }) (c.runs.simulation.devices j it.1.0 it.1.1).view (DoesBy (Up c.position) c.w j) it.1.2 it.2, it.1.2.leads) p is
  ]

  after_it : (j : ℕ) (e : Device) → slice_get c.x.devices j ≡ Some e → (f : Device) × (slice_get next.devices j ≡ Some f) × (f.reading.asked ≡ e.reading.asked)
  after_it j e at = elim (cases_eq (mine c) j) [
    | inl same ↦
        let one : (old c).device ≡ e = same_Some (old c).device e (sym (old c).there ∙ ap (slice_get c.x.devices) same ∙ at) in
        (n.following, ap (slice_get n.handled.devices) (sym same) ∙ n.handled.here, n.asked ∙ ap (λ (y : Device). y.reading.asked) one)
    | inr apart ↦ let it = n.handled.each j e at (λ same. apart (sym same)) in (record e { sessions = it.0 }, it.2, refl)
  ]

  asked_same : (j : ℕ) (d e : Device) → slice_get c.x.devices j ≡ Some d → slice_get next.devices j ≡ Some e → e.reading.asked ≡ d.reading.asked
  asked_same j d e at here = let y = after_it j d at in ap (λ (f : Device). f.reading.asked) (same_Some e y.0 (sym here ∙ y.1)) ∙ y.2

  asked_few : (j : ℕ) (e : Device) → slice_get next.devices j ≡ Some e → e.reading.asked ≤ c.b.pages + 1
  asked_few j e here =
      let within = slice_get_within next.devices j e here in
      let many = n.handled.many in
      let d = at_position j c.x.devices (omega (arith, within, many)) in
      let same = asked_same j d.0 e d.1 here in
      let few = c.runs.in_bounds.asked j d.0 d.1 in
      omega (arith, same, few)

  -- ---- the server

  many_wires : length (after c).wires ≡ length c.w.wires
  many_wires = length_items_emitted (step c).outs (changed_at c.position handed_up c.w.wires) ∙ length_where (Some c.position) handed_up c.w.wires

  wires_are : (q : ℕ) (other : ItemWire) → slice_get (after c).wires q ≡ Some other → (p : Owned) × IsOwned c.schedule other.device p
  wires_are q other at =
      let was = same_twice c.w.wires (changed_at c.position handed_up c.w.wires) (after c).wires (at_same handed_up (λ u. refl) c.position c.w.wires) (emitted_same (step c).outs (changed_at c.position handed_up c.w.wires)) q other at in
      let owner = c.runs.simulation.wires q was.0 was.1 in
      (owner.0, subst (λ d. IsOwned c.schedule d owner.0) (sym was.2) owner.1)

  stands_still : ServerStateStands (length (after c).wires) (after c).server
  stands_still =
      subst (λ (a : ItemWorld). ServerStateStands (length a.wires) a.server) (is_after c)
      (move_stands (Up c.position) c.w
      (item_may_go_up (own c) (old c).logins c.w (old c).view c.position (old c).represents (prompt_runs awaits (old c).view (old c).prompt) (λ other at. ap (λ (u : ItemWire). u.device) (same_Some other c.wire (sym at ∙ c.there))))
      c.runs.in_bounds.stands)

  step_within : IsWithin (length c.w.wires) (step c).server_state
  step_within =
      let dialled = c.runs.in_bounds.dialled in
      let most = c.small.dials in
      item_within itself (c.position + 1) (read_of c.z) (length c.w.wires) (step_of c.w.server) (omega (arith, dialled, most)) c.runs.in_bounds.within

  now_still : (step c).server_state.moment ≡ c.w.moment
  now_still = (item_takes itself (c.position + 1) (read_of c.z) (step_of c.w.server)).1.moment ∙ c.runs.simulation.now

  -- ---- the worlds

  abbrev world_runs : WorldSimulates c.schedule c.b c.says (after c) next
  world_runs = record {
    simulation = record {
      devices = λ j p is. (device_comes j p is).0;
      many = c.runs.simulation.many;
      many_there = n.handled.many ∙ c.runs.simulation.many_there;
      wires = wires_are;
      server = n.server;
      takes = n.told;
      clock = c.runs.simulation.clock;
      now = now_still;
    };
    in_bounds = record {
      led = record {
        events = c.runs.in_bounds.led.events ++ n.handled.events;
        reaches = reaches_both c.runs.in_bounds.led.events n.handled.events (begins c.schedule) c.x next c.runs.in_bounds.led.reaches n.handled.reaches;
        spoken = ap length (spoken_both c.runs.in_bounds.led.events n.handled.events ∙ ap (λ more. spoken_in c.runs.in_bounds.led.events ++ more) n.handled.silent ∙ append-nil (spoken_in c.runs.in_bounds.led.events)) ∙ c.runs.in_bounds.led.spoken;
      };
      said = c.runs.in_bounds.said;
      asked = asked_few;
      dialled = subst (λ k. k ≤ c.b.dials) (sym many_wires) c.runs.in_bounds.dialled;
      fits = subst FitsHere (is_after c) (move_fits UpFits DownFits ServerFits ClientFits keep_here takes_any (Up c.position) c.w c.runs.in_bounds.fits tt);
      stands = stands_still;
      within = subst (λ k. IsWithin k (step c).server_state) (sym many_wires) step_within;
    };
  }

  on : RunsOn c.schedule c.b c.says c.w c.x c.runs (DoesBy (Up c.position) c.w) (c.says + 0) (moved (Up c.position) c.w) next
  on =
      subst (λ k. RunsOn c.schedule c.b c.says c.w c.x c.runs (DoesBy (Up c.position) c.w) k (moved (Up c.position) c.w) next) (let same : c.says ≡ c.says + 0 = omega arith in same)
      (subst (λ (a : ItemWorld). RunsOn c.schedule c.b c.says c.w c.x c.runs (DoesBy (Up c.position) c.w) c.says a next) (sym (is_after c)) (record { runs = world_runs; links = λ j p is. (device_comes j p is).1 }))

  pub handled_runs : MoveSimulates c.schedule c.b c.says (Up c.position) c.w c.x c.runs
  handled_runs = record {
    events = n.handled.events;
    next = next;
    reaches = n.handled.reaches;
    spoken = n.handled.silent;
    asked = asked_same;
    runs = on.runs;
    links = on.links;
  }
