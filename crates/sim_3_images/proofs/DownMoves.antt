-- Bytes that are handed to a device are the items whose last bytes are among them.
use Rattle.std.proofs.Common.{◌≡◌, ℕ, ◌==◌, ◌&&◌, Bool, true, false, true≢false, cond, List, [], ◌∷◌, ◌++◌, Option, Some, None, map, flat_map, take, drop, length, refl, sym, ap, ap₂, subst, ◌∙◌, inl, inr}
use Rattle.std.proofs.lemmas.Bool.{eq-eqb, eqb-true}
use Rattle.std.proofs.lemmas.List.{take-append-drop}
use Rattle.std.proofs.lemmas.Option.{same_Some}
use Rattle.std.specs.List.{AllByRecursion, slice_get, slice_set}
use Rattle.cl_core.specs.Feeds.{Fed, bytes_in, bytes_step, kept_while, with_fault}
use Rattle.cl_core.specs.Steps.{item_step, items_run}
use Rattle.cl_core.specs.UserCalls.{leaves}
use Rattle.law_client.proofs.TableRendered.{bytes_rendered, items_rendered}
use Rattle.law_client.specs.Calls.{Bytes, Call, calls_run}
use Rattle.law_client.specs.Rendered.{client_rendered, written}
use Rattle.cl_handlers.specs.Clients.{ClientStep, ClientView}
use Rattle.cl_handlers.specs.Speech.{in_bytes, in_items}
use Rattle.cl_handlers.specs.ClientSteps.{is_apart}
use Rattle.cl_handlers.specs.declared.phase.Phase.TheVariants.{Apart}
use Rattle.srv_state.specs.State.{ServerState}
use Rattle.cmd_network.specs.Devices as devices
use Rattle.cmd_network.specs.Devices.{DeviceState, after_step, has_wire, hears, is_left, loses, spoken, unless_left}
use Rattle.xml_framer.specs.Limits.{client_limits}
use Rattle.xml_framer.specs.States as framing
use Rattle.xml_framer.specs.States.{State, turn}
use Rattle.xml_framer.specs.declared.items.Item.{Item}
use Rattle.xml_framer.specs.declared.items.Item.TheVariants as item
use Rattle.law_xml.specs.Spells.{placed}
use Rattle.sim_3_images.proofs.Beginnings.{closed_begun, entered_begun}
use Rattle.sim_3_images.proofs.ItemsHeard.{client_step_fits, client_step_of_items, downs_are, downs_noted, many_down, many_of, nothing_either, set_twice}
use Rattle.sim_3_images.proofs.Lookups.{set_changes}
use Rattle.sim_3_images.proofs.NetworkMoves.{found_both}
use Rattle.sim_3_images.proofs.PutsTold.{downs_give}
use Rattle.sim_3_images.proofs.ReadsTold.{downs_read}
use Rattle.sim_3_images.proofs.NotesTold.{calls_noted, down_end_noted, nothing_noted, silent_at, written_notes}
use Rattle.sim_3_images.proofs.PipeSteps.{items_due}
use Rattle.sim_3_images.proofs.UpMoves.{drop_taken, moved_joined, no_amount}
use Rattle.sim_3_images.proofs.UserMoves.{After, away, client_fits, get_set_same, silent_is, user_encodes}
use Rattle.sim_3_images.proofs.WireSteps.{IsDownHanded, all_taken, wire_down, wire_down_told, wire_last, wire_left, wire_put_up}
use Rattle.sim_3_images.specs.EncodingsCores.{CoresFit, HeardFits, IsInClientStep, IsNoFooter, writer_at}
use Rattle.sim_3_images.specs.ItemRuns.{downs, moved_where}
use Rattle.sim_3_images.specs.Notes.{all_item_notes, call_of_piece, calls_at, calls_in, calls_on, notes_in, notes_of}
use Rattle.sim_3_images.specs.PipeEncodings.{over, standing}
use Rattle.sim_3_images.specs.WireEncodings.{WireEncodes}
use Rattle.sim_3_images.specs.WorldEncodings.{DeviceEncodes, IsBegun, IsMoved, WireAt, WorldEncodes, framer_here}
use Rattle.sim_3_items.specs.ItemMoves as items
use Rattle.sim_3_items.specs.ItemMoves.{fed_of, here_after}
use Rattle.sim_3_items.specs.ItemPipes as pipes
use Rattle.sim_3_items.specs.ItemPipes.{ItemWire}
use Rattle.sim_3_items.specs.ItemWorlds.{ItemDevice, ItemWorld, read_of, silent_client_step}
use Rattle.net_pipes.specs.Pipes.{is_end_due}
use Rattle.cmd_schedule.specs.declared.schedule.Count.{Count}
use Rattle.srv_core.specs.Events.{framer_at}
use Rattle.cmd_network.specs.Positions.{changed_at, changed_where}
use Rattle.cmd_network.specs.Wires.{amount, down_end_reported, handed_down, put_up}
use Rattle.cmd_network.specs.Wires as wires
use Rattle.cmd_network.specs.declared.wire.Wire.{Wire}
use Rattle.cmd_world.specs.Moves.{Down, Link, down_by, down_to, end_heard, heard, heard_first, left_where, link_of, with_link}
use Rattle.cmd_world.specs.Worlds.{ByteWorld, number_at}
use Rattle.sim_3_images.proofs.DevicesMoved.{put_again}
use Rattle.sim_3_images.proofs.MovesKept.{has_here}
use Rattle.sim_3_images.proofs.ChangedLists.{all_found}
use Rattle.sim_3_images.proofs.WiresFit.{down_told_fits, left_where_fits, many_down_fits, put_up_fits}
use Rattle.sim_3_images.specs.Fitting.{WireFits}
use Rattle.xml_writer.specs.Items.{ItemOut, written_item}

-- ---- the place of a header is not looked at

pub step_unplaced : (t : ClientStep (List ℕ) ℕ) (i : Item) → item_step in_bytes t i ≡ item_step in_bytes t (placed 0 i)
step_unplaced t (item.Header at h) = refl
step_unplaced t (item.Element e) = refl
step_unplaced t item.Footer = refl

pub run_unplaced : (l : List Item) (t : ClientStep (List ℕ) ℕ) → items_run in_bytes t l ≡ items_run in_bytes t (map (placed 0) l)
run_unplaced [] t = refl
run_unplaced (i ∷ l) t = ap (λ u. items_run in_bytes u l) (step_unplaced t i) ∙ run_unplaced l (item_step in_bytes t (placed 0 i))

-- nor by a client of items
item_unplaced : (t : ClientStep ItemOut ItemOut) (i : Item) → item_step in_items t i ≡ item_step in_items t (placed 0 i)
item_unplaced t (item.Header at h) = refl
item_unplaced t (item.Element e) = refl
item_unplaced t item.Footer = refl

items_unplaced : (l : List Item) (t : ClientStep ItemOut ItemOut) → items_run in_items t l ≡ items_run in_items t (map (placed 0) l)
items_unplaced [] t = refl
items_unplaced (i ∷ l) t = ap (λ u. items_run in_items u l) (item_unplaced t i) ∙ items_unplaced l (item_step in_items t (placed 0 i))

pub left_device : (a : Bool) (y : Wire) → (left_where a y).device ≡ y.device
left_device true y = refl
left_device false y = refl

-- ---- a device that may have left

abbrev device_left : Bool → DeviceState → DeviceState
device_left a d = cond a (record d { here = None }) d

heard_is : (n : ℕ) (put : List ℕ) (b : Wire) (d d1 : DeviceState) (a : Bool) → is_left d1.client ≡ a → heard n (spoken (unless_left d1) put) (link_of b d) ≡ link_of (left_where a (put_up put (handed_down n b))) (device_left a d1)
heard_is n put b d d1 a e = ap (λ (u : DeviceState). link_of (left_where (is_left u.client) (put_up put (handed_down n b))) u) (ap (λ x. device_left x d1) e) ∙ by a e
  where
    by : (a : Bool) → is_left d1.client ≡ a → link_of (left_where (is_left (device_left a d1).client) (put_up put (handed_down n b))) (device_left a d1) ≡ link_of (left_where a (put_up put (handed_down n b))) (device_left a d1)
    by true e = ap (λ x. link_of (left_where x (put_up put (handed_down n b))) (device_left true d1)) e
    by false e = ap (λ x. link_of (left_where x (put_up put (handed_down n b))) (device_left false d1)) e

module _ (UpFits DownFits : ItemOut → Type 0) (ServerFits : ℕ → ServerState ItemOut → Type 0) (ClientFits : ClientView ItemOut → Type 0) (cores : CoresFit UpFits DownFits ServerFits ClientFits) where
  -- ---- items come

  module _ (position n : ℕ) (w : ByteWorld) (v : ItemWorld) (b : Wire) (p : ItemWire) (d : DeviceState) (e : ItemDevice) (found : slice_get w.wires position ≡ Some b) (found_item : slice_get v.wires position ≡ Some p)
      (device : slice_get w.devices b.device ≡ Some d) (item_device : slice_get v.devices b.device ≡ Some e) (same : b.device ≡ p.device) (h : DeviceEncodes d e) (encodes : WorldEncodes UpFits DownFits ServerFits ClientFits w v)
      (here : d.here ≡ Some position) (f : State) (framer : d.client.framer ≡ Some f) (x : IsDownHanded UpFits DownFits cores.up_limits cores.down_limits (framer_at (number_at position) w.server.framers) f (writer_at (number_at position) v.server) b p n)
      (fit : AllByRecursion DownFits p.down.items) where
    abbrev piece : List ℕ
    piece = take n b.down.bytes

    abbrev taken : List ItemOut
    taken = take x.count p.down.items

    abbrev t : ClientStep ItemOut ItemOut
    t = client_step_of_items e.client taken

    abbrev bytes : List ℕ
    bytes = flat_map written_item t.out.put

    stands : is_apart e.client.phase ≡ false
    stands = by (is_apart e.client.phase) refl
      where
        none_is_not : None ≡ Some f → ⊥
        none_is_not e = cc

        by : (a : Bool) → is_apart e.client.phase ≡ a → a ≡ false
        by true a = absurd (none_is_not (sym (h.framed a) ∙ framer))
        by false a = refl

    fed_is : bytes_step in_bytes (devices.silent d.client) piece ≡ record { framer = cond (is_apart t.client.phase) None (Some x.now); turn = written t }
    fed_is =
        ap (λ o. bytes_in in_bytes (devices.silent_client_step d.client) o piece) framer
        ∙ ap (λ (u : framing.Turn). kept_while (with_fault (items_run in_bytes (devices.silent_client_step d.client) u.items) u.state.fault) u.state) x.run_is
        ∙ ap (λ o. kept_while (with_fault (items_run in_bytes (devices.silent_client_step d.client) x.first) o) x.now) x.no_fault
        ∙ ap (λ u. kept_while (items_run in_bytes u x.first) x.now) (silent_is UpFits DownFits ServerFits ClientFits cores d e h)
        ∙ ap (λ u. kept_while u x.now) (run_unplaced x.first (written (silent_client_step e.client)) ∙ ap (items_run in_bytes (written (silent_client_step e.client))) x.read ∙ items_rendered bytes_rendered (map read_of taken) (silent_client_step e.client))

    -- the device of bytes behind it
    abbrev d1 : Bool → DeviceState
    d1 a = record d { client = record { framer = cond a None (Some x.now); client = client_rendered written_item t.client } }

    abbrev link_now : Bool → Link
    link_now a = link_of (left_where a (put_up bytes (handed_down n b))) (device_left a (d1 a))

    link_is : (a : Bool) → is_apart t.client.phase ≡ a → heard n (hears piece d) (link_of b d) ≡ link_now a
    link_is a apart =
        ap (λ (u : Fed (List ℕ) ℕ). heard n (spoken (unless_left (after_step u d).device) (after_step u d).put) (link_of b d)) (fed_is ∙ ap (λ o. record { framer = cond o None (Some x.now); turn = written t }) apart)
        ∙ heard_is n bytes b d (d1 a) a apart

    abbrev e1 : Bool → ItemDevice
    e1 a = record { client = t.client; here = here_after a e.here }

    here_fits : ClientFits e.client
    here_fits = client_fits UpFits DownFits ServerFits ClientFits cores w v b.device e item_device encodes

    fits : ClientFits t.client
    fits = (client_step_fits UpFits DownFits ServerFits ClientFits cores taken e.client here_fits (all_taken DownFits x.count p.down.items fit)).client

    device_encodes : (a : Bool) → is_apart t.client.phase ≡ a → DeviceEncodes (device_left a (d1 a)) (e1 a)
    device_encodes true apart = record { client = refl; here = refl; framed = λ _. refl }
    device_encodes false apart = record { client = refl; here = h.here; framed = λ y. absurd (true≢false (sym y ∙ apart)) }

    many_is : many_down x.count p ≡ many_down (length taken) p
    many_is = ap (λ l. record p { down = record p.down { items = l } }) (drop_taken x.count p.down.items)

    abbrev put_fits : HeardFits UpFits ClientFits t
    put_fits = client_step_fits UpFits DownFits ServerFits ClientFits cores taken e.client here_fits (all_taken DownFits x.count p.down.items fit)

    -- the connection with what was handed over
    handed_now : WireEncodes (framer_at (number_at position) w.server.framers) (Some x.now) (writer_at (number_at position) v.server) (handed_down n b) (many_down (length taken) p)
    handed_now = subst (WireEncodes (framer_at (number_at position) w.server.framers) (Some x.now) (writer_at (number_at position) v.server) (handed_down n b)) many_is x.encodes

    -- and with what the client put
    put_now : AllByRecursion IsNoFooter t.out.put
        → WireEncodes (framer_at (number_at position) w.server.framers) (Some x.now) (writer_at (number_at position) v.server) (put_up bytes (handed_down n b)) (pipes.put_up t.out.put (many_down (length taken) p))
    put_now none =
        wire_put_up UpFits DownFits cores.up_limits cores.down_limits (framer_at (number_at position) w.server.framers) (Some x.now) (writer_at (number_at position) v.server) (handed_down n b) (many_down (length taken) p) t.out.put put_fits.puts none handed_now

    here_now : framer_here position (slice_get (slice_set w.devices b.device (d1 false)) b.device) ≡ Some x.now
    here_now = ap (framer_here position) (get_set_same w.devices b.device d (d1 false) device) ∙ ap (λ o. cond (has_wire position o) (Some x.now) None) here ∙ ap (λ (c : Bool). cond c (Some x.now) None) (eq-eqb position position refl)

    left_now : IsInClientStep (is_apart t.client.phase) t.out.put → After UpFits DownFits ServerFits ClientFits cores w v b.device (device_left true (d1 true)) position (left_where true (put_up bytes (handed_down n b))) (many_of true t.out.put (length taken) p)
    left_now (inl none) =
        wire_left UpFits DownFits cores.up_limits cores.down_limits (framer_at (number_at position) w.server.framers) (Some x.now) (framer_here position (slice_get (slice_set w.devices b.device (device_left true (d1 true))) b.device)) (writer_at (number_at position) v.server) (writer_at (number_at position) v.server)
        (put_up bytes (handed_down n b)) (pipes.put_up t.out.put (many_down (length taken) p)) (put_now none)
    left_now (inr last) =
        subst (λ l. After UpFits DownFits ServerFits ClientFits cores w v b.device (device_left true (d1 true)) position (wires.left (put_up (flat_map written_item l) (handed_down n b))) (pipes.left (pipes.put_up l (many_down (length taken) p)))) (sym last.1)
        (wire_last UpFits DownFits cores.up_limits cores.down_limits (framer_at (number_at position) w.server.framers) (Some x.now) (framer_here position (slice_get (slice_set w.devices b.device (device_left true (d1 true))) b.device)) (writer_at (number_at position) v.server) (writer_at (number_at position) v.server)
        (handed_down n b) (many_down (length taken) p) last.0 (subst (AllByRecursion UpFits) last.1 put_fits.puts) last.2 handed_now)

    stays_now : is_apart t.client.phase ≡ false → IsInClientStep (is_apart t.client.phase) t.out.put → AllByRecursion IsNoFooter t.out.put
    stays_now stays (inl none) = none
    stays_now stays (inr last) = absurd (true≢false (sym last.3 ∙ stays))

    wire_now : (a : Bool) → is_apart t.client.phase ≡ a → After UpFits DownFits ServerFits ClientFits cores w v b.device (device_left a (d1 a)) position (left_where a (put_up bytes (handed_down n b))) (many_of a t.out.put (length taken) p)
    wire_now true apart = left_now put_fits.in_client_step
    wire_now false stays =
        subst (λ r. WireEncodes (framer_at (number_at position) w.server.framers) r (writer_at (number_at position) v.server) (put_up bytes (handed_down n b)) (pipes.put_up t.out.put (many_down (length taken) p))) (sym here_now) (put_now (stays_now stays put_fits.in_client_step))

    abbrev f_now : Bool → Wire → Wire
    f_now a y = left_where a (put_up bytes (handed_down n y))

    abbrev HereAt : Bool → ℕ → Type 0
    HereAt a q = (c : Wire) (r : ItemWire) → slice_get w.wires q ≡ Some c → slice_get v.wires q ≡ Some r → After UpFits DownFits ServerFits ClientFits cores w v b.device (device_left a (d1 a)) q (f_now a c) (many_of a t.out.put (length taken) r)

    here_at : (a : Bool) → is_apart t.client.phase ≡ a → HereAt a position
    here_at a apart c r there there_item =
        subst (λ y. After UpFits DownFits ServerFits ClientFits cores w v b.device (device_left a (d1 a)) position (f_now a y) (many_of a t.out.put (length taken) r)) (same_Some b c (sym found ∙ there))
        (subst (λ y. After UpFits DownFits ServerFits ClientFits cores w v b.device (device_left a (d1 a)) position (f_now a b) (many_of a t.out.put (length taken) y)) (same_Some p r (sym found_item ∙ there_item)) (wire_now a apart))

    left_framer : (a : Bool) (q : ℕ) → (d.here ≡ Some q → ⊥) → framer_here q (Some (device_left a (d1 a))) ≡ framer_here q (Some d)
    left_framer true q other = sym (away UpFits DownFits ServerFits ClientFits cores d.here d.client.framer q other)
    left_framer false q other = away UpFits DownFits ServerFits ClientFits cores d.here (Some x.now) q other ∙ sym (away UpFits DownFits ServerFits ClientFits cores d.here d.client.framer q other)

    items_here : e.here ≡ Some position
    items_here = sym h.here ∙ here

    many_begun : (a : Bool) (y : ItemWire) → IsBegun y.up → IsBegun (many_of a t.out.put (length taken) y).up
    many_begun true y z = closed_begun (pipes.entered t.out.put y.up) (entered_begun t.out.put y.up z)
    many_begun false y z = entered_begun t.out.put y.up z

    many_fits : (a : Bool) (y : ItemWire) → WireFits UpFits DownFits y → WireFits UpFits DownFits (many_of a t.out.put (length taken) y)
    many_fits a y z =
        left_where_fits UpFits DownFits a (pipes.put_up t.out.put (many_down (length taken) y))
        (put_up_fits UpFits DownFits t.out.put put_fits.puts (many_down (length taken) y) (many_down_fits UpFits DownFits (length taken) y z))

    heard_encodes : (a : Bool) → is_apart t.client.phase ≡ a → WorldEncodes UpFits DownFits ServerFits ClientFits (with_link position b.device (link_now a) w) (items.all_moved (downs position (length taken)) v)
    heard_encodes a apart =
        let all = user_encodes UpFits DownFits ServerFits ClientFits cores w v b.device d (device_left a (d1 a)) e (e1 a) (f_now a) (many_of a t.out.put (length taken)) device item_device (device_encodes a apart) h.here fits (many_fits a) (many_begun a) encodes
        (λ q c r is there there_item y. subst (HereAt a) (same_Some position q (sym here ∙ is)) (here_at a apart) c r there there_item) (left_framer a) in
        let bytes_is : record w { devices = slice_set w.devices b.device (device_left a (d1 a)); wires = changed_where d.here (f_now a) w.wires } ≡ with_link position b.device (link_now a) w =
        ap (λ o. record w { devices = slice_set w.devices b.device (device_left a (d1 a)); wires = changed_where o (f_now a) w.wires }) here
        ∙ ap (λ l. record w { devices = slice_set w.devices b.device (device_left a (d1 a)); wires = l }) (sym (set_changes (f_now a) w.wires position b (f_now a b) found refl)) in
        let items_is : record v { devices = slice_set v.devices b.device (e1 a); wires = changed_where e.here (many_of a t.out.put (length taken)) v.wires } ≡ items.all_moved (downs position (length taken)) v =
        ap (λ o. record v { devices = slice_set v.devices b.device (e1 a); wires = changed_where o (many_of a t.out.put (length taken)) v.wires }) items_here
        ∙ ap (λ c. record v { devices = slice_set v.devices b.device (record { client = t.client; here = here_after c e.here }); wires = changed_at position (many_of c t.out.put (length taken)) v.wires }) (sym apart)
        ∙ sym (downs_are UpFits DownFits ServerFits ClientFits cores position b.device taken (drop x.count p.down.items) v p e found_item (sym same) item_device items_here stands (sym (take-append-drop x.count p.down.items))) in
        subst (λ y. WorldEncodes UpFits DownFits ServerFits ClientFits y (items.all_moved (downs position (length taken)) v)) bytes_is
        (subst (WorldEncodes UpFits DownFits ServerFits ClientFits (record w { devices = slice_set w.devices b.device (device_left a (d1 a)); wires = changed_where d.here (f_now a) w.wires })) items_is all)

    -- ---- what it notes down

    read_notes : (calls_run in_items (Bytes piece ∷ []) (silent_at d.client.framer e.client)).turn.out.notes ≡ t.out.notes
    read_notes =
        ap (λ o. (bytes_in in_items (silent_client_step e.client) o piece).turn.out.notes) framer
        ∙ ap (λ (u : framing.Turn). (kept_while (with_fault (items_run in_items (silent_client_step e.client) u.items) u.state.fault) u.state).turn.out.notes) x.run_is
        ∙ ap (λ o. (kept_while (with_fault (items_run in_items (silent_client_step e.client) x.first) o) x.now).turn.out.notes) x.no_fault
        ∙ ap (λ (u : ClientStep ItemOut ItemOut). u.out.notes) (items_unplaced x.first (silent_client_step e.client) ∙ ap (items_run in_items (silent_client_step e.client)) x.read)

    heard_noted : (n == 0) ≡ false → (i : ℕ) → notes_of (cond (b.device == i) (call_of_piece n b.down.bytes) []) (slice_get w.devices i) ≡ written_notes (all_item_notes (downs position (length taken)) v i)
    heard_noted some i =
        by (b.device == i) refl
        ∙ ap written_notes (sym (downs_noted UpFits DownFits ServerFits ClientFits cores position b.device i taken (drop x.count p.down.items) v p e found_item (sym same) item_device items_here stands (sym (take-append-drop x.count p.down.items))))
      where
        by : (c : Bool) → (b.device == i) ≡ c → notes_of (cond c (call_of_piece n b.down.bytes) []) (slice_get w.devices i) ≡ written_notes (cond c t.out.notes [])
        by true this =
            ap₂ notes_of (ap (λ (z : Bool). cond z [] (Bytes piece ∷ [])) some) (ap (slice_get w.devices) (sym (eqb-true b.device i this)) ∙ device)
            ∙ calls_noted (Bytes piece ∷ []) d e h ∙ ap written_notes read_notes
        by false other = nothing_noted (slice_get w.devices i)

  -- a connection and its device behind the items, and the world
  record IsHeard (position n : ℕ) (w : ByteWorld) (v : ItemWorld) (b : Wire) (l : Link) : Type 0 where
    count : ℕ
    noted : (i : ℕ) → notes_of (cond (b.device == i) (call_of_piece n b.down.bytes) []) (slice_get w.devices i) ≡ written_notes (all_item_notes (downs position count) v i)
    same_device : l.wire.device ≡ b.device
    encodes : WorldEncodes UpFits DownFits ServerFits ClientFits (with_link position b.device l w) (items.all_moved (downs position count) v)

  -- nothing is changed where the same is set
  same_link : (position : ℕ) (w : ByteWorld) (b : Wire) (d : DeviceState) → slice_get w.wires position ≡ Some b → slice_get w.devices b.device ≡ Some d → with_link position b.device (link_of b d) w ≡ w
  same_link position w b d found device = ap₂ (λ x y. record w { wires = x; devices = y }) (put_again w.wires position b found) (put_again w.devices b.device d device)

  is_heard : (position n : ℕ) (w : ByteWorld) (v : ItemWorld) (b : Wire) (p : ItemWire) (d : DeviceState) (e : ItemDevice) → slice_get w.wires position ≡ Some b → slice_get v.wires position ≡ Some p → slice_get w.devices b.device ≡ Some d → slice_get v.devices b.device ≡ Some e
      → WireAt w v position b p → DeviceEncodes d e → WorldEncodes UpFits DownFits ServerFits ClientFits w v → d.here ≡ Some position → (b.down.bytes ≡ [] → n ≡ 0) → IsHeard position n w v b (heard_first n (link_of b d))
  is_heard position n w v b p d e found found_item device item_device at h encodes here none = by (n == 0) refl
    where
      reader_is : framer_here position (slice_get w.devices b.device) ≡ d.client.framer
      reader_is = ap (framer_here position) device ∙ ap (λ o. cond (has_wire position o) d.client.framer None) here ∙ ap (λ (c : Bool). cond c d.client.framer None) (eq-eqb position position refl)

      none_called : (n == 0) ≡ true → (c : Bool) (o : Option DeviceState) → notes_of (cond c (call_of_piece n b.down.bytes) []) o ≡ []
      none_called zero_is true o = ap (λ (z : Bool). notes_of (cond z [] (Bytes (take n b.down.bytes) ∷ [])) o) zero_is ∙ nothing_noted o
      none_called zero_is false o = nothing_noted o

      by : (c : Bool) → (n == 0) ≡ c → IsHeard position n w v b (heard_first n (link_of b d))
      by true zero_is = record {
        count = 0;
        noted = λ i. none_called zero_is (b.device == i) (slice_get w.devices i);
        same_device = ap (λ (c : Bool). (cond c (link_of b d) (heard n (hears (take n b.down.bytes) d) (link_of b d))).wire.device) zero_is;
        encodes = subst (λ y. WorldEncodes UpFits DownFits ServerFits ClientFits y v) (sym (ap (λ (c : Bool). with_link position b.device (cond c (link_of b d) (heard n (hears (take n b.down.bytes) d) (link_of b d))) w) zero_is ∙ same_link position w b d found device)) encodes;
      }
      by false some = elim at.down.carried [
        | over o ↦ absurd (true≢false (sym (ap (λ m. m == 0) (none o.no_bytes)) ∙ some))
        | standing f reader st ↦
            let framer = sym reader_is ∙ reader in
            let x = wire_down UpFits DownFits cores.up_limits cores.down_limits (framer_at (number_at position) w.server.framers) f (writer_at (number_at position) v.server) b p n st
            (subst (λ r. WireEncodes (framer_at (number_at position) w.server.framers) r (writer_at (number_at position) v.server) b p) reader at) in
            let fit : WireFits UpFits DownFits p = all_found (WireFits UpFits DownFits) v.wires position p found_item encodes.fits.wires in
            let taken = take x.count p.down.items in
            let apart = is_apart (client_step_of_items e.client taken).client.phase in
            let now_is = ap (λ (c : Bool). cond c (link_of b d) (heard n (hears (take n b.down.bytes) d) (link_of b d))) some
            ∙ link_is position n w v b p d e found found_item device item_device at.device h encodes here f framer x fit.down apart refl in
            record {
              count = length taken;
              noted = heard_noted position n w v b p d e found found_item device item_device at.device h encodes here f framer x fit.down some;
              same_device = ap (λ (l : Link). l.wire.device) now_is ∙ left_device apart (put_up (flat_map written_item (client_step_of_items e.client taken).out.put) (handed_down n b));
              encodes = subst (λ l. WorldEncodes UpFits DownFits ServerFits ClientFits (with_link position b.device l w) (items.all_moved (downs position (length taken)) v)) (sym now_is)
                  (heard_encodes position n w v b p d e found found_item device item_device at.device h encodes here f framer x fit.down apart refl);
            }
      ]

  -- ---- the end comes

  end_encodes : (position : ℕ) (w : ByteWorld) (v : ItemWorld) (b : Wire) (d : DeviceState) → slice_get w.wires position ≡ Some b → slice_get w.devices b.device ≡ Some d → has_wire position d.here ≡ true → is_end_due b.down ≡ true → WorldEncodes UpFits DownFits ServerFits ClientFits w v
      → WorldEncodes UpFits DownFits ServerFits ClientFits (with_link position b.device (link_of (down_end_reported b) (loses d)) w) (items.moved (items.DownEnd position) v)
  end_encodes position w v b d found device here due encodes =
      let other = found_both (WireAt w v position) b (slice_get w.wires position) (slice_get v.wires position) found (encodes.encoding.wires position) in
      let p = other.other in
      let other_device = found_both DeviceEncodes d (slice_get w.devices b.device) (slice_get v.devices b.device) device (encodes.encoding.devices b.device) in
      let e = other_device.other in
      let h = other_device.holds in
      let has_it : d.here ≡ Some position = has_here position d.here here in
      let item_here : e.here ≡ Some position = sym h.here ∙ has_it in
      let item_due = items_due client_limits (writer_at (number_at position) v.server) (framer_here position (slice_get w.devices b.device)) b.down p.down other.holds.down due in
      let e' : ItemDevice = record e { client = (leaves (fed_of e.client)).turn.client } in
      let all = user_encodes UpFits DownFits ServerFits ClientFits cores w v b.device d (loses d) e e' down_end_reported pipes.down_end_reported device other_device.is
      (record { client = ap (λ (c : ClientView (List ℕ)). record c { phase = Apart }) h.client; here = h.here; framed = λ a. refl }) h.here (cores.client.loses e.client (client_fits UpFits DownFits ServerFits ClientFits cores w v b.device e other_device.is encodes)) (down_told_fits UpFits DownFits) (λ y z. z) encodes
      (λ q c r is there there_item y. told_here q c r is there y) (λ q apart. lost_framer d.here q ∙ sym (away UpFits DownFits ServerFits ClientFits cores d.here d.client.framer q apart)) in
      let bytes_is : record w { devices = slice_set w.devices b.device (loses d); wires = changed_where d.here down_end_reported w.wires } ≡ with_link position b.device (link_of (down_end_reported b) (loses d)) w =
      ap (λ o. record w { devices = slice_set w.devices b.device (loses d); wires = changed_where o down_end_reported w.wires }) has_it
      ∙ ap (λ l. record w { devices = slice_set w.devices b.device (loses d); wires = l }) (sym (set_changes down_end_reported w.wires position b (down_end_reported b) found refl)) in
      let items_is : record v { devices = slice_set v.devices b.device e'; wires = changed_where e.here pipes.down_end_reported v.wires } ≡ items.moved (items.DownEnd position) v =
      ap (λ o. record v { devices = slice_set v.devices b.device e'; wires = changed_where o pipes.down_end_reported v.wires }) item_here
      ∙ ap (λ m. record v { devices = slice_set v.devices m e'; wires = changed_at position pipes.down_end_reported v.wires }) other.holds.device
      ∙ sym (ap (λ o. items.at_wire position (λ wire x. items.end_heard position wire.device (pipes.is_end_due wire.down) x) o v) other.is
      ∙ ap (λ o. items.at_device position (λ wire x. items.end_heard position wire.device (pipes.is_end_due wire.down) x) p o v) (sym (ap (slice_get v.devices) other.holds.device) ∙ other_device.is)
      ∙ ap (λ (c : Bool). cond c (items.end_heard position p.device (pipes.is_end_due p.down) e v) v) (ap (items.has_wire position) item_here ∙ eq-eqb position position refl)
      ∙ ap (λ c. items.end_heard position p.device c e v) item_due) in
      subst (λ y. WorldEncodes UpFits DownFits ServerFits ClientFits y (items.moved (items.DownEnd position) v)) bytes_is
      (subst (WorldEncodes UpFits DownFits ServerFits ClientFits (record w { devices = slice_set w.devices b.device (loses d); wires = changed_where d.here down_end_reported w.wires })) items_is all)
    where
      lost_framer : (o : Option ℕ) (q : ℕ) → cond {A = Option State} (has_wire q o) None None ≡ None
      lost_framer o q = by (has_wire q o)
        where
          by : (c : Bool) → cond {A = Option State} c None None ≡ None
          by true = refl
          by false = refl

      told_here : (q : ℕ) (c : Wire) (r : ItemWire) → d.here ≡ Some q → slice_get w.wires q ≡ Some c → WireAt w v q c r → After UpFits DownFits ServerFits ClientFits cores w v b.device (loses d) q (down_end_reported c) (pipes.down_end_reported r)
      told_here q c r is there y =
          let same_position = same_Some position q (sym (has_here position d.here here) ∙ is) in
          let due_there : is_end_due c.down ≡ true = ap (λ (z : Wire). is_end_due z.down) (sym (same_Some b c (sym found ∙ ap (slice_get w.wires) same_position ∙ there))) ∙ due in
          wire_down_told UpFits DownFits cores.up_limits cores.down_limits (framer_at (number_at q) w.server.framers) (framer_here q (slice_get w.devices c.device)) (framer_here q (slice_get (slice_set w.devices b.device (loses d)) c.device)) (writer_at (number_at q) v.server) c r due_there y

  -- ---- the move

  record IsDown (position : ℕ) (amounts : Count) (w : ByteWorld) (v : ItemWorld) (following : ByteWorld) : Type 0 where
    count : ℕ
    ended : Bool
    noted : (i : ℕ) → notes_in (Down position amounts) w i ≡ written_notes (all_item_notes (downs position count ++ moved_where (items.DownEnd position) ended) v i)
    encodes : WorldEncodes UpFits DownFits ServerFits ClientFits following (items.all_moved (downs position count ++ moved_where (items.DownEnd position) ended) v)

  linked_twice : (position i : ℕ) (l m : Link) (w : ByteWorld) → with_link position i m (with_link position i l w) ≡ with_link position i m w
  linked_twice position i l m w = ap₂ (λ x y. record w { wires = x; devices = y }) (set_twice w.wires position l.wire m.wire) (set_twice w.devices i l.device m.device)

  end_is_heard : (position n : ℕ) (amounts : Count) (w : ByteWorld) (v : ItemWorld) (b : Wire) (d : DeviceState) (l : Link) → slice_get w.wires position ≡ Some b → slice_get w.devices b.device ≡ Some d → IsHeard position n w v b l
      → ((i : ℕ) → calls_in (Down position amounts) w i ≡ cond (b.device == i) (call_of_piece n b.down.bytes) []) → IsDown position amounts w v (with_link position b.device (end_heard position l) w)
  end_is_heard position n amounts w v b d l found device heard_so called = by (has_wire position l.device.here && is_end_due l.wire.down) refl
    where
      both_true : (x y : Bool) → (x && y) ≡ true → (x ≡ true) × (y ≡ true)
      both_true true true e = (refl, refl)
      both_true true false e = absurd (true≢false (sym e))
      both_true false y e = absurd (true≢false (sym e))

      noted_so : (ended : Bool) (i : ℕ) → notes_in (Down position amounts) w i ≡ written_notes (all_item_notes (downs position heard_so.count ++ moved_where (items.DownEnd position) ended) v i)
      noted_so ended i = ap (λ (l : List Call). notes_of l (slice_get w.devices i)) (called i) ∙ heard_so.noted i ∙ ap written_notes (sym (down_end_noted position (downs position heard_so.count) ended v i))

      by : (c : Bool) → (has_wire position l.device.here && is_end_due l.wire.down) ≡ c → IsDown position amounts w v (with_link position b.device (end_heard position l) w)
      by false c = record {
        count = heard_so.count;
        ended = false;
        noted = noted_so false;
        encodes = subst (λ m. WorldEncodes UpFits DownFits ServerFits ClientFits (with_link position b.device m w) (items.all_moved (downs position heard_so.count ++ []) v)) (sym (ap (λ (x : Bool). cond x (link_of (down_end_reported l.wire) (loses l.device)) l) c))
            (subst (WorldEncodes UpFits DownFits ServerFits ClientFits (with_link position b.device l w)) (sym (moved_joined (downs position heard_so.count) [] v)) heard_so.encodes);
      }
      by true c =
          let parts = both_true (has_wire position l.device.here) (is_end_due l.wire.down) c in
          let v1 = items.all_moved (downs position heard_so.count) v in
          let wire_there : slice_get (slice_set w.wires position l.wire) position ≡ Some l.wire = get_set_same w.wires position b l.wire found in
          let device_there : slice_get (slice_set w.devices b.device l.device) l.wire.device ≡ Some l.device = ap (slice_get (slice_set w.devices b.device l.device)) heard_so.same_device ∙ get_set_same w.devices b.device d l.device device in
          let m = link_of (down_end_reported l.wire) (loses l.device) in
          let one = end_encodes position (with_link position b.device l w) v1 l.wire l.device wire_there device_there parts.0 parts.1 heard_so.encodes in
          record {
            count = heard_so.count;
            ended = true;
            noted = noted_so true;
            encodes = subst (λ y. WorldEncodes UpFits DownFits ServerFits ClientFits (with_link position b.device y w) (items.all_moved (downs position heard_so.count ++ items.DownEnd position ∷ []) v)) (sym (ap (λ (x : Bool). cond x m l) c))
                (subst (WorldEncodes UpFits DownFits ServerFits ClientFits (with_link position b.device m w)) (sym (moved_joined (downs position heard_so.count) (items.DownEnd position ∷ []) v))
                (subst (λ y. WorldEncodes UpFits DownFits ServerFits ClientFits y (items.moved (items.DownEnd position) v1)) (ap (λ i. with_link position i m (with_link position b.device l w)) heard_so.same_device ∙ linked_twice position b.device l m w) one));
          }

  down_of : (position : ℕ) (count : Count) (w : ByteWorld) (v : ItemWorld) → WorldEncodes UpFits DownFits ServerFits ClientFits w v → IsDown position count w v (down_by position count (slice_get w.wires position) w)
  down_of position count w v encodes = by (slice_get w.wires position) refl
    where
      nothing : (x : ByteWorld) → x ≡ w → ((i : ℕ) → calls_in (Down position count) w i ≡ []) → IsDown position count w v x
      nothing x same none = record { count = 0; ended = false; noted = λ i. ap (λ (l : List Call). notes_of l (slice_get w.devices i)) (none i) ∙ nothing_noted (slice_get w.devices i); encodes = subst (λ y. WorldEncodes UpFits DownFits ServerFits ClientFits y v) (sym same) encodes }

      -- what is called of the devices
      called_on : (b : Wire) (o : Option DeviceState) (piece : List Call) → slice_get w.wires position ≡ Some b → slice_get w.devices b.device ≡ o → calls_at position count b o ≡ piece → (i : ℕ) → calls_in (Down position count) w i ≡ cond (b.device == i) piece []
      called_on b o piece found device is i = ap (calls_on position count i (slice_get w.devices i)) found ∙ by (b.device == i) refl
        where
          by : (c : Bool) → (b.device == i) ≡ c → cond c (calls_at position count b (slice_get w.devices i)) [] ≡ cond c piece []
          by true same = ap (calls_at position count b) (ap (slice_get w.devices) (sym (eqb-true b.device i same)) ∙ device) ∙ is
          by false other = refl

      called_none : (b : Wire) (o : Option DeviceState) → slice_get w.wires position ≡ Some b → slice_get w.devices b.device ≡ o → calls_at position count b o ≡ [] → (i : ℕ) → calls_in (Down position count) w i ≡ []
      called_none b o found device is i = called_on b o [] found device is i ∙ nothing_either (b.device == i)

      -- the device has this connection
      has_it : (b : Wire) (d : DeviceState) → slice_get w.wires position ≡ Some b → slice_get w.devices b.device ≡ Some d → d.here ≡ Some position → IsDown position count w v (with_link position b.device (end_heard position (heard_first (amount count b.down) (link_of b d))) w)
      has_it b d found device here =
          let other = found_both (WireAt w v position) b (slice_get w.wires position) (slice_get v.wires position) found (encodes.encoding.wires position) in
          let other_device = found_both DeviceEncodes d (slice_get w.devices b.device) (slice_get v.devices b.device) device (encodes.encoding.devices b.device) in
          end_is_heard position (amount count b.down) count w v b d (heard_first (amount count b.down) (link_of b d)) found device
          (is_heard position (amount count b.down) w v b other.other d other_device.other found other.is device other_device.is other.holds other_device.holds encodes here (no_amount count b.down))
          (called_on b (Some d) (call_of_piece (amount count b.down) b.down.bytes) found device
          (ap (λ o. cond (has_wire position o) (call_of_piece (amount count b.down) b.down.bytes) []) here ∙ ap (λ (c : Bool). cond c (call_of_piece (amount count b.down) b.down.bytes) []) (eq-eqb position position refl)))

      has_or_not : (b : Wire) (d : DeviceState) → slice_get w.wires position ≡ Some b → slice_get w.devices b.device ≡ Some d → (o : Option ℕ) → d.here ≡ o → (c : Bool) → has_wire position o ≡ c → IsDown position count w v (with_link position b.device (cond c (end_heard position (heard_first (amount count b.down) (link_of b d))) (link_of b d)) w)
      has_or_not b d found device o here false elsewhere =
          nothing (with_link position b.device (link_of b d) w) (same_link position w b d found device)
          (called_none b (Some d) found device (ap (λ (c : Bool). cond c (call_of_piece (amount count b.down) b.down.bytes) []) (ap (has_wire position) here ∙ elsewhere)))
      has_or_not b d found device None here true is = absurd (true≢false (sym is))
      has_or_not b d found device (Some q) here true is = has_it b d found device (here ∙ ap Some (eqb-true q position is))

      of_device : (b : Wire) → slice_get w.wires position ≡ Some b → (o : Option DeviceState) → slice_get w.devices b.device ≡ o → IsDown position count w v (down_to position count b o w)
      of_device b found None device = nothing w refl (called_none b None found device refl)
      of_device b found (Some d) device = has_or_not b d found device d.here refl (has_wire position d.here) refl

      by : (o : Option Wire) → slice_get w.wires position ≡ o → IsDown position count w v (down_by position count (slice_get w.wires position) w)
      by None found = nothing (down_by position count (slice_get w.wires position) w) (ap (λ o. down_by position count o w) found) (λ i. ap (calls_on position count i (slice_get w.devices i)) found)
      by (Some b) found = subst (λ o. IsDown position count w v (down_by position count o w)) (sym found) (of_device b found (slice_get w.devices b.device) refl)

  pub down_moves : (position : ℕ) (count : Count) (w : ByteWorld) (v : ItemWorld) → WorldEncodes UpFits DownFits ServerFits ClientFits w v → IsMoved UpFits DownFits ServerFits ClientFits (Down position count) w v
  down_moves position count w v encodes =
      let h = down_of position count w v encodes in
      record { moves = downs position h.count ++ moved_where (items.DownEnd position) h.ended; is_run = (h.count, h.ended, refl); encodes = h.encodes; notes = h.noted; reads = λ i. sym (downs_read position h.count h.ended v i); gives = λ i. sym (ap (map written_item) (downs_give position h.count h.ended v i)) }
