-- However many bytes are handed to a device, what its client tells is no such fault: they are items, one after another.
use Rattle.std.proofs.Common.{◌≡◌, ◌⊎◌, ℕ, ◌+◌, ◌≤◌, Bool, true, false, cond, List, [], ◌∷◌, ◌++◌, Option, None, Some, drop, map, slice_get, take, refl, sym, ap, subst, ◌∙◌, inl, inr, arith}
use Rattle.std.proofs.Math.Seq.{take-nil}
use Rattle.std.proofs.lemmas.Bool.{eq-eqb}
use Rattle.std.proofs.lemmas.List.{take-append-drop}
use Rattle.std.proofs.lemmas.Option.{same_Some}
use Rattle.std.specs.List.{AllByRecursion}
use Rattle.std.specs.Option.{option_map}
use Rattle.cl_core.specs.Feeds.{bytes_in, bytes_step, with_fault}
use Rattle.cl_core.specs.Steps.{item_step, items_run}
use Rattle.law_client.proofs.TableRendered.{bytes_rendered, items_rendered}
use Rattle.law_client.specs.Rendered.{written}
use Rattle.cl_handlers.specs.Clients.{ClientStep, ClientView}
use Rattle.cl_handlers.specs.Speech.{in_bytes, in_items}
use Rattle.cl_handlers.specs.ClientSteps.{ends, is_apart}
use Rattle.cl_handlers.specs.declared.events.Event.TheVariants.{Ended}
use Rattle.cl_handlers.specs.declared.events.PeerFault.TheVariants.{Framing}
use Rattle.sim_5_devices.proofs.Worlds.{set_here}
use Rattle.sim_3_items.specs.Reading.{client_step_on, device_after, wire_after}
use Rattle.cmd_network.specs.Devices as devices
use Rattle.cmd_network.specs.Devices.{DeviceState, has_wire}
use Rattle.xml_framer.specs.States as framing
use Rattle.xml_framer.specs.States.{State}
use Rattle.xml_framer.specs.declared.fault.Fault.{Fault}
use Rattle.sim_3_images.proofs.DownMoves.{run_unplaced}
use Rattle.sim_3_images.proofs.ItemsHeard.{apart_run}
use Rattle.sim_3_images.proofs.Lookups.{get_changed_same}
use Rattle.sim_3_images.proofs.NetworkMoves.{found_both}
use Rattle.sim_3_images.proofs.TurnsAfter.{step_adds}
use Rattle.sim_3_images.proofs.UserMoves.{silent_is}
use Rattle.sim_3_images.proofs.WireSteps.{IsDownHanded, wire_down}
use Rattle.sim_3_images.specs.EncodingsCores.{writer_at}
use Rattle.sim_3_images.specs.Relayable.{ClientFits, DownFits, ServerFits, UpFits}
use Rattle.sim_3_images.specs.PipeEncodings.{over, standing}
use Rattle.sim_3_images.specs.Stands.{StandingServers}
use Rattle.sim_3_images.specs.WireEncodings.{WireEncodes}
use Rattle.sim_3_images.specs.WorldEncodings.{DeviceEncodes, WireAt, framer_here}
use Rattle.sim_3_items.specs.ItemMoves.{Down, here_after, left_where, moved}
use Rattle.sim_3_items.specs.ItemPipes.{ItemWire, handed_down, put_up}
use Rattle.sim_3_items.specs.ItemWorlds.{ItemDevice, ItemWorld, read_of, silent_client_step}
use Rattle.sim_4_links_follow.specs.Following.{IsNextItem}
use Rattle.sim_5_moves.proofs.Alone.{moved_so}
use Rattle.sim_5_moves.proofs.DownMovesDowns.{each_down}
use Rattle.sim_5_moves.proofs.Grounds.{ground}
use Rattle.sim_5_moves.specs.Running.{AreSmall, Bounds, DeviceSimulates, IsInBounds, IsOwned, MoveSimulates, WorldSimulates}
use Rattle.law_payloads.specs.AsRead.{last_moment}
use Rattle.cmd_schedule.proofs.Lists.{all_append}
use Rattle.cmd_schedule.specs.Contents.{Owned}
use Rattle.cmd_schedule.specs.Schedules.{WireView}
use Rattle.cmd_schedule.specs.LineLists.{IsLineList}
use Rattle.srv_core.specs.Events.{framer_at}
use Rattle.sim_1_applications.specs.Counts.{IsUnanswered}
use Rattle.sim_1_applications.specs.Devices.{AppWorld, Device}
use Rattle.sim_7_schedules.proofs.ByteMoves.{IsTimely, cores}
use Rattle.sim_7_schedules.proofs.EventRows.{IsBounded, IsFair}
use Rattle.sim_7_schedules.proofs.ItemsTold.{item_bounded}
use Rattle.sim_7_schedules.specs.Simulation.{Simulates, bounds}
use Rattle.sim_7_schedules.specs.Faults.{EachTells, told_on}
use Rattle.cmd_network.specs.declared.wire.Wire.{Wire}
use Rattle.cmd_world.specs.Worlds as bytes
use Rattle.cmd_world.specs.Worlds.{number_at}
use Rattle.xml_writer.specs.Items.{ItemOut}

-- ---- items, one after another

-- behind all pages that lines ask for a device asks for one more at most
abbrev wide : Bounds
wide = record { says = 10000000; pages = 10100001; dials = 10000 }

small : AreSmall wide
small = record { stanzas = omega arith; dials = omega arith }

widened : (s : WireView) (says : ℕ) (w : ItemWorld) (x : AppWorld) → WorldSimulates s bounds says w x → WorldSimulates s wide says w x
widened s says w x r = record {
  simulation = r.simulation;
  in_bounds = record {
    led = r.in_bounds.led;
    said = r.in_bounds.said;
    asked = λ i d at. (let few = r.in_bounds.asked i d at in omega (arith, few));
    dialled = r.in_bounds.dialled;
    fits = r.in_bounds.fits;
    stands = r.in_bounds.stands;
    within = r.in_bounds.within;
  };
}

-- so far the device asked for few pages, or no answer is under way to it
abbrev IsFew : Device → Type 0
IsFew d = (d.reading.asked ≤ 10100001) ⊎ IsUnanswered d

-- these items are under way to the device of a connection, which has it
record AreComing (s : WireView) (position says : ℕ) (w : ItemWorld) (x : AppWorld) (wire : ItemWire) (d : ItemDevice) (items : List ItemOut) : Type 0 where
  runs : WorldSimulates s wide says w x
  timely : w.moment ≤ last_moment
  there : slice_get w.wires position ≡ Some wire
  has : slice_get w.devices wire.device ≡ Some d
  here : d.here ≡ Some position
  items_are : wire.down.items ≡ items
  few : (e : Device) → slice_get x.devices wire.device ≡ Some e → IsFew e

module _ (s : WireView) (right : IsLineList s) (position : ℕ) where
  -- the first of them
  module _ (z : ItemOut) (rest : List ItemOut) (says : ℕ) (w : ItemWorld) (x : AppWorld) (wire : ItemWire) (d : ItemDevice) (t : ClientStep ItemOut ItemOut) (c : AreComing s position says w x wire d (z ∷ rest)) (same : t.client ≡ d.client)
      (bounded : IsBounded t) where
    of : (o : Owned) × IsOwned s wire.device o
    of = c.runs.simulation.wires position wire c.there

    abbrev old : DeviceSimulates s w x wire.device of.0
    old = c.runs.simulation.devices wire.device of.0 of.1

    abbrev dev : ItemDevice
    dev = old.represents.device

    same_dev : dev ≡ d
    same_dev = same_Some dev d (sym old.represents.there ∙ c.has)

    n : IsNextItem position wire.device w dev wire z
    n = record { there = c.there; of = refl; has = old.represents.there; here = ap (λ (y : ItemDevice). y.here) same_dev ∙ c.here; items = rest; first = c.items_are }

    same_client : t.client ≡ dev.client
    same_client = same ∙ ap (λ (y : ItemDevice). y.client) (sym same_dev)

    abbrev alone : ClientStep ItemOut ItemOut
    alone = client_step_on z dev

    abbrev next : ClientStep ItemOut ItemOut
    next = item_step in_items t (read_of z)

    next_client : next.client ≡ alone.client
    next_client = (step_adds (read_of z) t).client_is ∙ ap (λ c. (item_step in_items (silent_client_step c) (read_of z)).client) same_client

    next_bounded : IsBounded next
    next_bounded = item_bounded s wide small says w x c.runs (ground s right wide small says w x c.runs) c.timely position wire of.0 of.1 z n t same_client bounded

    within : IsInBounds wide says (Down position) w x
    within = (λ wire2 e at there2. c.few e (subst (λ (y : ItemWire). slice_get x.devices y.device ≡ Some e) (same_Some wire2 wire (sym at ∙ c.there)) there2), c.timely)

    r : MoveSimulates s wide says (Down position) w x c.runs
    r = each_down s wide small says w x c.runs (ground s right wide small says w x c.runs) position within

    few_then : (e : Device) → slice_get r.next.devices wire.device ≡ Some e → IsFew e
    few_then e at =
        let once = (r.asked wire.device old.device e old.there at).0 in
        elim (c.few old.device old.there) [
          | inl low ↦ elim once.1 [ inl is ↦ inl (omega (arith, is, low)) | inr more ↦ inr more.1 ]
          | inr none ↦ inr (once.0 none).1
        ]

    -- the connection and the device behind it, where the client stays
    abbrev wire_then : ItemWire
    wire_then = put_up alone.out.put (handed_down wire)

    abbrev dev_then : ItemDevice
    dev_then = record { client = alone.client; here = dev.here }

    others_come : is_apart alone.client.phase ≡ false → AreComing s position (says + 0) (moved (Down position) w) r.next wire_then dev_then rest
    others_come stays = record {
      runs = r.runs;
      timely = subst (λ (v : ItemWorld). v.moment ≤ last_moment) (sym (moved_so w position dev wire z n)) c.timely;
      there =
          ap (λ (v : ItemWorld). slice_get v.wires position) (moved_so w position dev wire z n) ∙ get_changed_same (wire_after alone) w.wires position ∙ ap (option_map (wire_after alone)) c.there
          ∙ ap (λ b. Some (left_where b wire_then)) stays;
      has =
          ap (λ (v : ItemWorld). slice_get v.devices wire.device) (moved_so w position dev wire z n) ∙ set_here w.devices wire.device dev (device_after alone dev) old.represents.there
          ∙ ap (λ b. Some (record { client = alone.client; here = here_after b dev.here })) stays;
      here = n.here;
      items_are = ap (drop 1) c.items_are;
      few = few_then;
    }

    abbrev AllBounded : List ItemOut → Type 0
    AllBounded l = IsBounded (items_run in_items next (map read_of l))

    rest_bounded : (l : List ItemOut) → (is_apart alone.client.phase ≡ false → AllBounded l) → AllBounded l
    rest_bounded l goes_on = by (is_apart alone.client.phase) refl
      where
        by : (b : Bool) → is_apart alone.client.phase ≡ b → AllBounded l
        by true apart = subst IsBounded (sym (apart_run (map read_of l) next (ap (λ (c : ClientView ItemOut). is_apart c.phase) next_client ∙ apart))) next_bounded
        by false stays = goes_on stays

  items_bounded : (l others : List ItemOut) (says : ℕ) (w : ItemWorld) (x : AppWorld) (wire : ItemWire) (d : ItemDevice) (t : ClientStep ItemOut ItemOut) → AreComing s position says w x wire d (l ++ others) → t.client ≡ d.client → IsBounded t
      → IsBounded (items_run in_items t (map read_of l))
  items_bounded [] others says w x wire d t c same bounded = bounded
  items_bounded (z ∷ l) others says w x wire d t c same bounded =
      rest_bounded z (l ++ others) says w x wire d t c same bounded l (λ stays.
      items_bounded l others (says + 0) (moved (Down position) w) (r z (l ++ others) says w x wire d t c same bounded).next (wire_then z (l ++ others) says w x wire d t c same bounded) (dev_then z (l ++ others) says w x wire d t c same bounded)
      (item_step in_items t (read_of z)) (others_come z (l ++ others) says w x wire d t c same bounded stays) (next_client z (l ++ others) says w x wire d t c same bounded) (next_bounded z (l ++ others) says w x wire d t c same bounded))

-- ---- bytes

abbrev AreFair : ClientStep (List ℕ) ℕ → Type 0
AreFair t = AllByRecursion IsFair t.out.events

-- a fault of the bytes is none of these
fault_fair : (t : ClientStep (List ℕ) ℕ) (o : Option Fault) → AreFair t → AreFair (with_fault t o)
fault_fair t None fair = fair
fault_fair t (Some why) fair = by (is_apart t.client.phase)
  where
    by : (b : Bool) → AreFair (cond b t (ends t (Framing why)))
    by true = fair
    by false = all_append IsFair t.out.events (Ended (Framing why) ∷ []) fair ((tt, tt), tt)

module _ (s : WireView) (right : IsLineList s) (W : bytes.ByteWorld) (x : AppWorld) (beside : Simulates s W x) (timely : IsTimely W) where
  abbrev v : ItemWorld
  v = beside.items

  module _ (position n : ℕ) (b : Wire) (d : DeviceState) (found : slice_get W.wires position ≡ Some b) (device : slice_get W.devices b.device ≡ Some d) (here : d.here ≡ Some position) where
    abbrev piece : List ℕ
    piece = take n b.down.bytes

    -- no byte comes
    nothing_told : b.down.bytes ≡ [] → AllByRecursion IsFair (told_on n b d)
    nothing_told none = subst (λ bs. AllByRecursion IsFair (bytes_step in_bytes (devices.silent d.client) bs).turn.out.events) (sym (ap (take n) none ∙ take-nil n)) (by d.client.framer)
      where
        by : (f : Option State) → AllByRecursion IsFair (bytes_in in_bytes (devices.silent_client_step d.client) f []).turn.out.events
        by None = tt
        by (Some f) = fault_fair (devices.silent_client_step d.client) f.fault tt

    module _ (p : ItemWire) (e : ItemDevice) (found_item : slice_get v.wires position ≡ Some p) (item_device : slice_get v.devices b.device ≡ Some e) (at : WireAt W v position b p) (h : DeviceEncodes d e)
        (f : State) (framer : d.client.framer ≡ Some f) (y : IsDownHanded UpFits DownFits cores.up_limits cores.down_limits (framer_at (number_at position) W.server.framers) f (writer_at (number_at position) v.server) b p n) where
      abbrev taken : List ItemOut
      taken = take y.count p.down.items

      abbrev t : ClientStep ItemOut ItemOut
      t = items_run in_items (silent_client_step e.client) (map read_of taken)

      items_told : IsBounded t
      items_told =
          let coming : AreComing s position beside.says v x p e (taken ++ drop y.count p.down.items) = record {
            runs = widened s beside.says v x beside.runs;
            timely = subst (λ m. m ≤ last_moment) beside.encodes.encoding.moment timely;
            there = found_item;
            has = subst (λ k. slice_get v.devices k ≡ Some e) at.device item_device;
            here = sym h.here ∙ here;
            items_are = sym (take-append-drop y.count p.down.items);
            few = λ one there. inl (beside.runs.in_bounds.asked p.device one there);
          } in
          items_bounded s right position taken (drop y.count p.down.items) beside.says v x p e (silent_client_step e.client) coming refl tt

      run_is : items_run in_bytes (devices.silent_client_step d.client) y.first ≡ written t
      run_is =
          ap (λ u. items_run in_bytes u y.first) (silent_is UpFits DownFits (StandingServers ServerFits) ClientFits cores d e h) ∙ run_unplaced y.first (written (silent_client_step e.client))
          ∙ ap (items_run in_bytes (written (silent_client_step e.client))) y.read ∙ items_rendered bytes_rendered (map read_of taken) (silent_client_step e.client)

      some_told : AllByRecursion IsFair (told_on n b d)
      some_told =
          subst (λ o. AllByRecursion IsFair (bytes_in in_bytes (devices.silent_client_step d.client) o piece).turn.out.events) (sym framer)
          (subst (λ (u : framing.Turn). AreFair (with_fault (items_run in_bytes (devices.silent_client_step d.client) u.items) u.state.fault)) (sym y.run_is)
          (fault_fair (items_run in_bytes (devices.silent_client_step d.client) y.first) y.now.fault (subst AreFair (sym run_is) items_told)))

    all_told : AllByRecursion IsFair (told_on n b d)
    all_told =
        let wire = found_both (WireAt W v position) b (slice_get W.wires position) (slice_get v.wires position) found (beside.encodes.encoding.wires position) in
        let of = found_both DeviceEncodes d (slice_get W.devices b.device) (slice_get v.devices b.device) device (beside.encodes.encoding.devices b.device) in
        elim wire.holds.down.carried [
          | over o ↦ nothing_told o.no_bytes
          | standing f reader st ↦
              let framer : d.client.framer ≡ Some f = sym reader_is ∙ reader in
              some_told wire.other of.other wire.is of.is wire.holds of.holds f framer
              (wire_down UpFits DownFits cores.up_limits cores.down_limits (framer_at (number_at position) W.server.framers) f (writer_at (number_at position) v.server) b wire.other n st
              (subst (λ r. WireEncodes (framer_at (number_at position) W.server.framers) r (writer_at (number_at position) v.server) b wire.other) reader wire.holds))
        ]
      where
        reader_is : framer_here position (slice_get W.devices b.device) ≡ d.client.framer
        reader_is = ap (framer_here position) device ∙ ap (λ o. cond (has_wire position o) d.client.framer None) here ∙ ap (λ (c : Bool). cond c d.client.framer None) (eq-eqb position position refl)

  pub told_fair : EachTells IsFair W
  told_fair position n wire d = all_told position n wire d
