-- A device dials.
use Rattle.std.proofs.Common.{◌≡◌, ℕ, ◌+◌, ◌==◌, Bool, true, false, cond, List, [], ◌∷◌, ◌++◌, Option, Some, None, flat_map, length, refl, sym, ap, ap₂, subst, ◌∙◌, inl, inr, append-nil, length-append}
use Rattle.std.proofs.lemmas.Bool.{cases_eq, eq-eqb, eqb-true}
use Rattle.std.proofs.lemmas.Option.{same_Some}
use Rattle.std.specs.BTreeMap.{insert_entry}
use Rattle.std.specs.List.{slice_get, slice_set}
use Rattle.std.specs.Option.{option_map}
use Rattle.std.specs.Ordering.{nat_cmp}
use Rattle.cl_core.specs.Feeds.{Fed}
use Rattle.cl_core.specs.UserCalls.{dials}
use Rattle.law_client.proofs.TableRendered.{bytes_rendered, calls_rendered}
use Rattle.law_client.specs.Calls as calls
use Rattle.law_client.specs.Rendered.{client_rendered, written_fed}
use Rattle.cl_login.specs.LoginRows.{client_header}
use Rattle.cl_handlers.specs.Clients.{ClientStep, ClientView}
use Rattle.cl_handlers.specs.Speech.{in_bytes, in_items}
use Rattle.srv_state.specs.Moments.{at_moment, fresh_conn, with_fresh}
use Rattle.srv_state.specs.State.{ServerState}
use Rattle.cmd_network.specs.Devices as devices
use Rattle.cmd_network.specs.Devices.{DeviceState, client_after}
use Rattle.xml_framer.specs.Limits.{client_limits, server_limits}
use Rattle.xml_framer.specs.States.{from_start}
use Rattle.sim_3_images.proofs.DialMoves.{framed, silent_fed}
use Rattle.sim_3_images.proofs.Beginnings.{begins_where, closed_begun}
use Rattle.sim_3_images.proofs.ServerStatesRendered.{moment_rendered}
use Rattle.sim_3_images.proofs.Lookups.{found_beside_inserted, found_inserted, get_before, get_last}
use Rattle.sim_3_images.proofs.NetworkMoves.{both_weaker, number_apart}
use Rattle.sim_3_images.proofs.UserMoves.{After, away, client_fits, devices_changed, get_set_same, left_at_here, length_where, wires_changed}
use Rattle.sim_3_images.proofs.WireSteps.{wire_fresh}
use Rattle.sim_3_images.proofs.NotesTold.{nothing_noted}
use Rattle.sim_3_images.specs.EncodingsCores.{ClientStepFits, CoresFit, writer_at, writer_of}
use Rattle.sim_3_images.specs.WireEncodings.{WireEncodes}
use Rattle.sim_3_images.specs.WorldEncodings.{Begins, Both, DeviceEncodes, IsBegun, IsMoved, WorldEncodes, framer_here}
use Rattle.sim_3_images.proofs.ChangedLists.{all_set, all_where}
use Rattle.sim_3_images.proofs.WiresFit.{fresh_fits, left_fits, put_up_fits}
use Rattle.sim_3_images.specs.Fitting.{WireFits}
use Rattle.sim_3_items.specs.ItemMoves as items
use Rattle.sim_3_items.specs.ItemMoves.{fed_of}
use Rattle.sim_3_items.specs.ItemPipes as pipes
use Rattle.sim_3_items.specs.ItemPipes.{ItemWire}
use Rattle.sim_3_items.specs.ItemWorlds.{ItemDevice, ItemWorld}
use Rattle.xml_names.specs.declared.headers.Header.{Header}
use Rattle.srv_core.specs.Events.{Framers, after_connect, framer_at}
use Rattle.cmd_network.specs.Positions.{changed_where}
use Rattle.cmd_network.specs.Wires.{fresh_wire, left, put_up}
use Rattle.cmd_network.specs.declared.wire.Wire.{Wire}
use Rattle.cmd_world.specs.Moves.{Dial, dialed_by}
use Rattle.cmd_world.specs.Worlds.{ByteWorld, client_entropy, number_at, server_entropy}
use Rattle.xml_writer.specs.Items.{ItemOut, Opening, written_item}
use Rattle.law_xml.proofs.PlainElements.{append_each}

module _ (UpFits DownFits : ItemOut → Type 0) (ServerFits : ℕ → ServerState ItemOut → Type 0) (ClientFits : ClientView ItemOut → Type 0) (cores : CoresFit UpFits DownFits ServerFits ClientFits) where
  module _ (i : ℕ) (w : ByteWorld) (v : ItemWorld) (d : DeviceState) (e : ItemDevice) (found : slice_get w.devices i ≡ Some d) (found_item : slice_get v.devices i ≡ Some e) (h : DeviceEncodes d e)
      (encodes : WorldEncodes UpFits DownFits ServerFits ClientFits w v) where
    -- how many connections there are, and the number of the new one
    abbrev n : ℕ
    n = length w.wires

    abbrev k : ℕ
    k = number_at (length w.wires)

    abbrev t : ClientStep ItemOut ItemOut
    t = (dials in_items (client_entropy k) (fed_of e.client)).turn

    abbrev header : Header
    header = client_header e.client.account.login.domain

    abbrev d' : DeviceState
    d' = record (record d { here = Some n; newest = Some n }) { client = record { framer = Some (from_start client_limits); client = client_rendered written_item t.client } }

    abbrev e' : ItemDevice
    e' = record { client = t.client; here = Some (length v.wires) }

    abbrev new_wire : Wire
    new_wire = put_up (flat_map written_item t.out.put) (fresh_wire i)

    abbrev new_item_wire : ItemWire
    new_item_wire = pipes.put_up t.out.put (pipes.fresh_wire i)

    abbrev old_wires : List Wire
    old_wires = changed_where d.here left w.wires

    abbrev old_item_wires : List ItemWire
    old_item_wires = changed_where d.here pipes.left v.wires

    abbrev server_state_now : ServerState ItemOut
    server_state_now = with_fresh k (server_entropy k) (at_moment v.moment v.server)

    abbrev framers_now : Framers
    framers_now = insert_entry nat_cmp w.server.framers k (from_start server_limits)

    abbrev Now : ℕ → Wire → ItemWire → Type 0
    Now q b p = WireEncodes (framer_at (number_at q) framers_now) (framer_here q (slice_get (slice_set w.devices i d') b.device)) (writer_at (number_at q) server_state_now) b p

    fits : ClientStepFits UpFits ClientFits t
    fits = cores.client.dials_so k e.client (client_fits UpFits DownFits ServerFits ClientFits cores w v i e found_item encodes)

    device_encodes : DeviceEncodes d' e'
    device_encodes = record { client = refl; here = ap Some encodes.encoding.as_many; framed = λ a. absurd (false_is_not a) }
      where
        false_is_not : false ≡ true → ⊥
        false_is_not a = cc

    -- the new connection
    new_here : framer_here n (slice_get (slice_set w.devices i d') i) ≡ Some (from_start client_limits)
    new_here = ap (framer_here n) (get_set_same w.devices i d d' found) ∙ ap (λ (b : Bool). cond b (Some (from_start client_limits)) None) (eq-eqb n n refl)

    new_encodes : Now n new_wire new_item_wire
    new_encodes =
        subst (λ l. Now n (put_up l (fresh_wire i)) new_item_wire) (sym (append-nil (written_item (Opening header))))
        (subst (λ r. WireEncodes r (framer_here n (slice_get (slice_set w.devices i d') i)) (writer_at k server_state_now) (put_up (written_item (Opening header)) (fresh_wire i)) new_item_wire) (sym (found_inserted k (from_start server_limits) w.server.framers))
        (subst (λ r. WireEncodes (Some (from_start server_limits)) r (writer_at k server_state_now) (put_up (written_item (Opening header)) (fresh_wire i)) new_item_wire) (sym new_here)
        (subst (λ o. WireEncodes (Some (from_start server_limits)) (Some (from_start client_limits)) o (put_up (written_item (Opening header)) (fresh_wire i)) new_item_wire)
        (sym (ap (option_map writer_of) (found_inserted k (fresh_conn (server_entropy k)) v.server.conns)))
        (wire_fresh UpFits DownFits cores.up_limits cores.down_limits i header fits.puts.0))))

    -- another one
    not_new : (q : ℕ) → (q ≡ n → ⊥) → framer_here q (Some d') ≡ None
    not_new q other = by (n == q) refl
      where
        by : (b : Bool) → (n == q) ≡ b → cond b (Some (from_start client_limits)) None ≡ None
        by true same = absurd (other (sym (eqb-true n q same)))
        by false same = refl

    old_encodes : (q : ℕ) → (q ≡ n → ⊥) → Both (Now q) (slice_get old_wires q) (slice_get old_item_wires q)
    old_encodes q other =
        both_weaker (After UpFits DownFits ServerFits ClientFits cores w v i d' q) (Now q)
        (λ b p x. subst (λ r. WireEncodes r (framer_here q (slice_get (slice_set w.devices i d') b.device)) (writer_at (number_at q) server_state_now) b p) (sym (found_beside_inserted (number_at q) k (from_start server_limits) w.server.framers (number_apart q n other)))
        (subst (λ o. WireEncodes (framer_at (number_at q) w.server.framers) (framer_here q (slice_get (slice_set w.devices i d') b.device)) o b p)
        (sym (ap (option_map writer_of) (found_beside_inserted (number_at q) k (fresh_conn (server_entropy k)) v.server.conns (number_apart q n other)))) x))
        (slice_get old_wires q) (slice_get old_item_wires q)
        (wires_changed UpFits DownFits ServerFits ClientFits cores w v i d d' left pipes.left d.here q found encodes
        (λ b p here x y r. left_at_here UpFits DownFits ServerFits ClientFits cores w v i d' q b p r)
        (λ not_here. not_new q other ∙ sym (away UpFits DownFits ServerFits ClientFits cores d.here d.client.framer q not_here)))

    many_items : length old_item_wires ≡ n
    many_items = length_where d.here pipes.left v.wires ∙ sym encodes.encoding.as_many

    all_encodings : (q : ℕ) → Both (Now q) (slice_get (old_wires ++ new_wire ∷ []) q) (slice_get (old_item_wires ++ new_item_wire ∷ []) q)
    all_encodings q = elim (cases_eq q n) [
      | inl same ↦
          subst (λ x. Both (Now x) (slice_get (old_wires ++ new_wire ∷ []) x) (slice_get (old_item_wires ++ new_item_wire ∷ []) x)) (sym same)
          (subst (λ o. Both (Now n) o (slice_get (old_item_wires ++ new_item_wire ∷ []) n)) (sym (sym (ap (slice_get (old_wires ++ new_wire ∷ [])) (length_where d.here left w.wires)) ∙ get_last old_wires new_wire))
          (subst (λ o. Both (Now n) (Some new_wire) o) (sym (sym (ap (slice_get (old_item_wires ++ new_item_wire ∷ [])) many_items) ∙ get_last old_item_wires new_item_wire)) new_encodes))
      | inr other ↦
          subst (λ o. Both (Now q) o (slice_get (old_item_wires ++ new_item_wire ∷ []) q)) (sym (get_before old_wires new_wire q (λ x. other (x ∙ length_where d.here left w.wires))))
          (subst (λ o. Both (Now q) (slice_get old_wires q) o) (sym (get_before old_item_wires new_item_wire q (λ x. other (x ∙ many_items)))) (old_encodes q other))
    ]

    -- both worlds behind it
    abbrev world_now : ByteWorld
    world_now = record w {
      server = record { server_state = with_fresh k (server_entropy k) (at_moment w.moment w.server.server_state); framers = framers_now };
      devices = slice_set w.devices i d';
      wires = old_wires ++ new_wire ∷ [];
    }

    abbrev items_now : ItemWorld
    items_now = record v { server = server_state_now; devices = slice_set v.devices i e'; wires = old_item_wires ++ new_item_wire ∷ [] }

    dialed_begins : Begins (old_item_wires ++ new_item_wire ∷ []) server_state_now
    dialed_begins q r there first = elim (cases_eq q n) [
      | inl same ↦
          let is : new_item_wire ≡ r = same_Some new_item_wire r (sym (sym (ap (slice_get (old_item_wires ++ new_item_wire ∷ [])) many_items) ∙ get_last old_item_wires new_item_wire) ∙ ap (slice_get (old_item_wires ++ new_item_wire ∷ [])) (sym same) ∙ there) in
          subst (λ (y : ItemWire). IsBegun y.up) is (inl (header, [], refl))
      | inr other ↦
          begins_where v.wires v.server d.here pipes.left (λ x. closed_begun x.up) encodes.begins q r (sym (get_before old_item_wires new_item_wire q (λ x. other (x ∙ many_items))) ∙ there)
          (sym (ap (option_map writer_of) (found_beside_inserted (number_at q) k (fresh_conn (server_entropy k)) v.server.conns (number_apart q n other))) ∙ first)
    ]

    dialed_encodes : WorldEncodes UpFits DownFits ServerFits ClientFits world_now items_now
    dialed_encodes = record {
      encoding = record {
        moment = encodes.encoding.moment;
        server_state = ap₂ (λ m x. with_fresh k (server_entropy k) (at_moment m x)) encodes.encoding.moment encodes.encoding.server_state ∙ ap (with_fresh k (server_entropy k)) (moment_rendered written_item v.moment v.server);
        devices = devices_changed UpFits DownFits ServerFits ClientFits cores w v i d d' e e' found found_item device_encodes encodes;
        as_many = length-append old_wires (new_wire ∷ []) ∙ ap (λ m. m + 1) (length_where d.here left w.wires ∙ sym many_items) ∙ sym (length-append old_item_wires (new_item_wire ∷ []));
        wires = all_encodings;
        takes = encodes.encoding.takes;
      };
      fits = record {
        server_state = subst (λ m. ServerFits m server_state_now) (sym (length-append old_item_wires (new_item_wire ∷ []) ∙ ap (λ m. m + 1) many_items))
            (cores.comes n (at_moment v.moment v.server) (cores.moment n v.moment v.server (subst (λ m. ServerFits m v.server) (sym encodes.encoding.as_many) encodes.fits.server_state)));
        clients = all_set (λ (x : ItemDevice). ClientFits x.client) v.devices i e' fits.client encodes.fits.clients;
        wires = append_each (WireFits UpFits DownFits) old_item_wires (new_item_wire ∷ []) (all_where (WireFits UpFits DownFits) pipes.left (left_fits UpFits DownFits) d.here v.wires encodes.fits.wires)
            (put_up_fits UpFits DownFits t.out.put fits.puts (pipes.fresh_wire i) (fresh_fits UpFits DownFits i), tt);
      };
      begins = dialed_begins;
    }

    -- what the client of bytes did
    abbrev world_by : Fed (List ℕ) ℕ → ByteWorld
    world_by f = record w {
      server = after_connect k (server_entropy k) w.moment w.server;
      devices = slice_set w.devices i (record (record d { here = Some n; newest = Some n }) { client = client_after f });
      wires = changed_where d.here left w.wires ++ put_up f.turn.out.put (fresh_wire i) ∷ [];
    }

    fed_is : dials in_bytes (client_entropy k) (devices.silent d.client) ≡ written_fed (dials in_items (client_entropy k) (framed d e))
    fed_is = ap (dials in_bytes (client_entropy k)) (silent_fed UpFits DownFits ServerFits ClientFits cores d e h) ∙ calls_rendered bytes_rendered (calls.Dial (client_entropy k) ∷ []) (framed d e)

    bytes_is : dialed_by i (Some d) w ≡ world_now
    bytes_is = ap world_by fed_is

    items_is : items.dialed_by i (client_entropy k) (server_entropy k) (Some e) v ≡ items_now
    items_is =
        ap (λ o. record v {
          server = with_fresh (length v.wires + 1) (server_entropy k) (at_moment v.moment v.server);
          devices = slice_set v.devices i e';
          wires = changed_where o pipes.left v.wires ++ new_item_wire ∷ [];
        }) (sym h.here)
        ∙ ap (λ m. record v { server = with_fresh (m + 1) (server_entropy k) (at_moment v.moment v.server); devices = slice_set v.devices i e'; wires = old_item_wires ++ new_item_wire ∷ [] }) (sym encodes.encoding.as_many)

    pub dial_encodes : WorldEncodes UpFits DownFits ServerFits ClientFits (dialed_by i (Some d) w) (items.dialed_by i (client_entropy k) (server_entropy k) (Some e) v)
    dial_encodes =
        subst (λ x. WorldEncodes UpFits DownFits ServerFits ClientFits x (items.dialed_by i (client_entropy k) (server_entropy k) (Some e) v)) (sym bytes_is) (subst (WorldEncodes UpFits DownFits ServerFits ClientFits world_now) (sym items_is) dialed_encodes)

  abbrev Dialed : ℕ → ByteWorld → ItemWorld → Option DeviceState → Option ItemDevice → Type 0
  Dialed i w v od oe =
      WorldEncodes UpFits DownFits ServerFits ClientFits (dialed_by i od w) (items.dialed_by i (client_entropy (number_at (length w.wires))) (server_entropy (number_at (length w.wires))) oe v)

  pub dial_is : (i : ℕ) (w : ByteWorld) (v : ItemWorld) → WorldEncodes UpFits DownFits ServerFits ClientFits w v → IsMoved UpFits DownFits ServerFits ClientFits (Dial i) w v
  dial_is i w v encodes = record {
    moves = items.Dial i (client_entropy (number_at (length w.wires))) (server_entropy (number_at (length w.wires))) ∷ [];
    is_run = (number_at (length w.wires), refl);
    encodes = by (slice_get w.devices i) (slice_get v.devices i) refl refl (encodes.encoding.devices i);
    notes = λ j. nothing_noted (slice_get w.devices j);
    reads = λ j. refl;
    gives = λ j. refl;
  }
    where
      by : (od : Option DeviceState) (oe : Option ItemDevice) → slice_get w.devices i ≡ od → slice_get v.devices i ≡ oe → Both DeviceEncodes od oe → Dialed i w v (slice_get w.devices i) (slice_get v.devices i)
      by None None found found_item h = subst (λ o. Dialed i w v o (slice_get v.devices i)) (sym found) (subst (Dialed i w v None) (sym found_item) encodes)
      by None (Some e) found found_item h = absurd h
      by (Some d) None found found_item h = absurd h
      by (Some d) (Some e) found found_item h = subst (λ o. Dialed i w v o (slice_get v.devices i)) (sym found) (subst (Dialed i w v (Some d)) (sym found_item) (dial_encodes i w v d e found found_item h encodes))
