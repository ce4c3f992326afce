-- A device closes its stream, or dials.
use Rattle.std.proofs.Common.{◌≡◌, ℕ, Bool, true, false, cond, List, [], ◌∷◌, ◌++◌, Option, Some, None, flat_map, refl, sym, ap, subst, ◌∙◌, append-nil, arith}
use Rattle.std.specs.List.{slice_get, slice_set}
use Rattle.cl_core.specs.Feeds.{Fed}
use Rattle.cl_core.specs.UserCalls.{closes, forgets}
use Rattle.law_client.proofs.TableRendered.{bytes_rendered, calls_rendered}
use Rattle.law_client.specs.Calls as calls
use Rattle.law_client.specs.Rendered.{client_rendered, written_fed}
use Rattle.cl_handlers.specs.Clients.{ClientView}
use Rattle.cl_handlers.specs.Speech.{in_bytes, in_items, uttered}
use Rattle.cl_handlers.specs.ClientSteps as turns
use Rattle.cl_handlers.specs.ClientSteps.{drops, is_apart, puts}
use Rattle.srv_state.specs.State.{ServerState}
use Rattle.cmd_network.specs.Devices as devices
use Rattle.cmd_network.specs.Devices.{DeviceState, client_after}
use Rattle.xml_framer.specs.Limits.{client_limits, server_limits}
use Rattle.xml_framer.specs.States.{State}
use Rattle.xml_framer.specs.declared.states.Phase.{Phase}
use Rattle.xml_framer.specs.declared.states.Phase.TheVariants as phase
use Rattle.sim_3_images.proofs.Beginnings.{closed_begun, entered_begun}
use Rattle.sim_3_images.proofs.ItemsServed.{changed_twice}
use Rattle.sim_3_images.proofs.PipeSteps.{closed_encodes, over_encodes}
use Rattle.sim_3_images.proofs.PutSteps.{put_encodes}
use Rattle.sim_3_images.proofs.UserMoves.{After, away, client_fits, silent_is, user_encodes}
use Rattle.sim_3_images.proofs.WireSteps.{wire_left, wire_put_up}
use Rattle.sim_3_images.proofs.NotesTold.{nothing_noted}
use Rattle.sim_3_images.specs.EncodingsCores.{CoresFit, writer_at}
use Rattle.sim_3_images.specs.PipeEncodings.{PipeEncodes}
use Rattle.sim_3_images.specs.WireEncodings.{WireEncodes}
use Rattle.sim_3_images.specs.WorldEncodings.{Both, DeviceEncodes, IsMoved, WorldEncodes, framer_here}
use Rattle.sim_3_images.proofs.WiresFit.{footer_fits, left_fits, put_up_fits}
use Rattle.sim_3_items.specs.ItemMoves as items
use Rattle.sim_3_items.specs.ItemMoves.{fed_of}
use Rattle.sim_3_items.specs.ItemPipes as pipes
use Rattle.sim_3_items.specs.ItemPipes.{ItemWire}
use Rattle.sim_3_items.specs.ItemWorlds.{ItemDevice, ItemWorld, silent_client_step}
use Rattle.net_pipes.specs.Pipes.{entered}
use Rattle.srv_core.specs.Events.{framer_at}
use Rattle.cmd_network.specs.Positions.{changed_where}
use Rattle.cmd_network.specs.Wires.{left, put_up}
use Rattle.cmd_network.specs.declared.wire.Wire.{Wire}
use Rattle.cmd_world.specs.Moves.{Close, closed_by}
use Rattle.cmd_world.specs.Worlds.{ByteWorld, number_at}
use Rattle.xml_writer.specs.Items.{Closing, ItemOut, written_item}

where_twice : {T : Type 0} (o : Option ℕ) (f g : T → T) (l : List T) → changed_where o f (changed_where o g l) ≡ changed_where o (λ x. f (g x)) l
where_twice None f g l = refl
where_twice (Some q) f g l = changed_twice f g (λ x. f (g x)) l q (λ x. refl)

-- ---- what is put

-- a footer, where a connection stands
close_puts : (c : ClientView ItemOut) → (closes in_items (fed_of c)).turn.out.put ≡ cond (is_apart c.phase) [] (Closing ∷ [])
close_puts c = by (is_apart c.phase)
  where
    by : (b : Bool) → (drops in_items (turns.left (cond b (silent_client_step c) (puts (silent_client_step c) (uttered in_items Closing))))).out.put ≡ cond b [] (Closing ∷ [])
    by true = refl
    by false = refl

pub close_client : (c : ClientView ItemOut) → (closes in_items (fed_of c)).turn.client ≡ (forgets in_items (fed_of c)).turn.client
close_client c = by (is_apart c.phase)
  where
    by : (b : Bool) → (drops in_items (turns.left (cond b (silent_client_step c) (puts (silent_client_step c) (uttered in_items Closing))))).client ≡ (forgets in_items (fed_of c)).turn.client
    by true = refl
    by false = refl

-- the client of bytes, and that of items with the same framer
abbrev pub framed : DeviceState → ItemDevice → Fed ItemOut ItemOut
framed d e = record { framer = d.client.framer; turn = silent_client_step e.client }

module _ (UpFits DownFits : ItemOut → Type 0) (ServerFits : ℕ → ServerState ItemOut → Type 0) (ClientFits : ClientView ItemOut → Type 0) (cores : CoresFit UpFits DownFits ServerFits ClientFits) where
  pub silent_fed : (d : DeviceState) (e : ItemDevice) → DeviceEncodes d e → devices.silent d.client ≡ written_fed (framed d e)
  silent_fed d e h = ap (λ u. record { framer = d.client.framer; turn = u }) (silent_is UpFits DownFits ServerFits ClientFits cores d e h)

  -- ---- a footer, and the connection is left

  last_encodes : (r d e : Option State) (writer next : Option Phase) (b : Wire) (p : ItemWire) (apart : Bool) → WireEncodes r d writer b p
      → WireEncodes r e next (left (put_up (flat_map written_item (cond apart [] (Closing ∷ []))) b)) (pipes.left (pipes.put_up (cond apart [] (Closing ∷ [])) p))
  last_encodes r d e writer next b p true i =
      wire_left UpFits DownFits cores.up_limits cores.down_limits r d e writer next (put_up [] b) (pipes.put_up [] p) (wire_put_up UpFits DownFits cores.up_limits cores.down_limits r d writer b p [] tt tt i)
  last_encodes r d e writer next b p false i = record {
    device = i.device;
    end_together = refl;
    up = closed_encodes server_limits (Some phase.Ended) (Some phase.Between) r (entered (written_item Closing ++ []) b.up) (pipes.entered (Closing ∷ []) p.up)
        (subst (λ l. PipeEncodes server_limits (Some phase.Ended) r (entered l b.up) (pipes.entered (Closing ∷ []) p.up)) (sym (append-nil (written_item Closing)))
        (put_encodes server_limits (omega arith) (omega arith) phase.Between r b.up p.up Closing tt (cores.up_limits Closing cores.footer) i.up));
    down = over_encodes client_limits next e b.down p.down i.down.told;
  }

  abbrev Closed : ℕ → ByteWorld → ItemWorld → Option DeviceState → Option ItemDevice → Type 0
  Closed i w v od oe = WorldEncodes UpFits DownFits ServerFits ClientFits (closed_by i od w) (items.closed_by i oe v)

  -- the world of bytes behind what the client did
  abbrev closed_world : ℕ → DeviceState → ByteWorld → Fed (List ℕ) ℕ → ByteWorld
  closed_world i d w f = record w {
    devices = slice_set w.devices i (record (record d { here = None }) { client = client_after f });
    wires = changed_where d.here left (changed_where d.here (put_up f.turn.out.put) w.wires);
  }

  pub close_is : (i : ℕ) (w : ByteWorld) (v : ItemWorld) → WorldEncodes UpFits DownFits ServerFits ClientFits w v → IsMoved UpFits DownFits ServerFits ClientFits (Close i) w v
  close_is i w v encodes = record { moves = items.Close i ∷ []; is_run = refl; encodes = by (slice_get w.devices i) (slice_get v.devices i) refl refl (encodes.encoding.devices i); notes = λ j. nothing_noted (slice_get w.devices j); reads = λ j. refl; gives = λ j. refl }
    where
      some : (d : DeviceState) (e : ItemDevice) → slice_get w.devices i ≡ Some d → slice_get v.devices i ≡ Some e → DeviceEncodes d e → Closed i w v (Some d) (Some e)
      some d e found found_item h =
          let t = (closes in_items (fed_of e.client)).turn in
          let fed_is : closes in_bytes (devices.silent d.client) ≡ written_fed (closes in_items (framed d e)) = ap (closes in_bytes) (silent_fed d e h) ∙ calls_rendered bytes_rendered (calls.Close ∷ []) (framed d e) in
          let d' : DeviceState = record (record d { here = None }) { client = record { framer = None; client = client_rendered written_item t.client } } in
          let e' : ItemDevice = record { client = t.client; here = None } in
          let f : Wire → Wire = λ b. left (put_up (flat_map written_item t.out.put) b) in
          let g : ItemWire → ItemWire = λ p. pipes.left (pipes.put_up t.out.put p) in
          subst (λ x. WorldEncodes UpFits DownFits ServerFits ClientFits (closed_world i d w x) (items.closed_by i (Some e) v)) (sym fed_is)
          (subst (λ l. WorldEncodes UpFits DownFits ServerFits ClientFits (record w { devices = slice_set w.devices i d'; wires = l }) (items.closed_by i (Some e) v)) (sym (where_twice d.here left (put_up (flat_map written_item t.out.put)) w.wires))
          (subst (λ l. WorldEncodes UpFits DownFits ServerFits ClientFits (record w { devices = slice_set w.devices i d'; wires = changed_where d.here f w.wires }) (record v { devices = slice_set v.devices i e'; wires = l })) (sym (where_twice e.here pipes.left (pipes.put_up t.out.put) v.wires))
          (user_encodes UpFits DownFits ServerFits ClientFits cores w v i d d' e e' f g found found_item (record { client = refl; here = refl; framed = λ a. refl }) h.here (subst ClientFits (sym (close_client e.client)) (cores.client.forgets_so e.client (client_fits UpFits DownFits ServerFits ClientFits cores w v i e found_item encodes))) (λ x y. left_fits UpFits DownFits (pipes.put_up t.out.put x) (put_up_fits UpFits DownFits t.out.put (footer_fits UpFits e.client cores.footer) x y)) (λ x b. closed_begun (pipes.entered t.out.put x.up) (entered_begun t.out.put x.up b)) encodes
          (λ q b p here x y r. subst (λ l. After UpFits DownFits ServerFits ClientFits cores w v i d' q (left (put_up (flat_map written_item l) b)) (pipes.left (pipes.put_up l p))) (sym (close_puts e.client))
          (last_encodes (framer_at (number_at q) w.server.framers) (framer_here q (slice_get w.devices b.device)) (framer_here q (slice_get (slice_set w.devices i d') b.device)) (writer_at (number_at q) v.server) (writer_at (number_at q) v.server) b p (is_apart e.client.phase) r))
          (λ q other. sym (away UpFits DownFits ServerFits ClientFits cores d.here d.client.framer q other)))))

      by : (od : Option DeviceState) (oe : Option ItemDevice) → slice_get w.devices i ≡ od → slice_get v.devices i ≡ oe → Both DeviceEncodes od oe → Closed i w v (slice_get w.devices i) (slice_get v.devices i)
      by None None found found_item h = subst (λ o. Closed i w v o (slice_get v.devices i)) (sym found) (subst (Closed i w v None) (sym found_item) encodes)
      by None (Some e) found found_item h = absurd h
      by (Some d) None found found_item h = absurd h
      by (Some d) (Some e) found found_item h = subst (λ o. Closed i w v o (slice_get v.devices i)) (sym found) (subst (Closed i w v (Some d)) (sym found_item) (some d e found found_item h))
