-- Each move of items leaves a world in which all fits.
use Rattle.std.proofs.Common.{◌≡◌, ℕ, ◌+◌, ◌≤◌, Bool, true, false, cond, List, [], ◌∷◌, Option, Some, None, Result, Ok, Err, IfSome, IsTrue, length, refl, sym, subst}
use Rattle.std.specs.List.{AllByRecursion, slice_get}
use Rattle.cl_core.specs.Steps.{item_step}
use Rattle.cl_core.specs.UserCalls.{catch_up_answer, catches_up, closes, dials, forgets, leaves, say_answer, says}
use Rattle.cl_core.specs.declared.faults.CatchUpStart.{CatchUpStart}
use Rattle.cl_core.specs.declared.faults.SayFault.{SayFault}
use Rattle.cl_handlers.specs.Clients.{ClientStep, ClientView}
use Rattle.cl_handlers.specs.Speech.{in_items}
use Rattle.cl_handlers.specs.ClientSteps.{is_apart}
use Rattle.srv_state.specs.Moments.{at_moment, gone_at}
use Rattle.srv_state.specs.State.{ServerState}
use Rattle.law_xml.proofs.PlainElements.{append_each}
use Rattle.sim_3_images.proofs.DialMoves.{close_client}
use Rattle.sim_3_images.proofs.WiresFit.{all_emitted_fits, cut_fits, down_told_fits, footer_fits, fresh_fits, handed_down_fits, handed_up_fits, left_fits, left_where_fits, put_up_fits, up_told_fits}
use Rattle.sim_3_images.specs.EncodingsOwed.{CoresKeep}
use Rattle.sim_3_images.proofs.ChangedLists.{all_at, all_changed, all_set, all_where}
use Rattle.sim_3_images.specs.Fitting.{MayItem, TakesAny, WireFits, WorldFits}
use Rattle.sim_3_items.specs.ItemMoves.{CatchUp, Close, Cut, Dial, Down, DownEnd, Forget, ItemMove, Say, Tick, Up, UpEnd}
use Rattle.sim_3_items.specs.ItemMoves.{all_moved, at_device, at_wire, caught_up_by, closed_by, dialed_by, end_heard, fed_of, forgot_by, has_wire, heard_first, left_where, moved, reported_up, said_by, said_in, served_by, served_first, spoke, step_of}
use Rattle.sim_3_items.specs.ItemPipes.{ItemWire, cut_at, down_end_reported, fresh_wire, handed_down, handed_up, is_end_due, left, put_up, up_end_reported}
use Rattle.sim_3_items.specs.ItemWorlds.{ItemDevice, ItemWorld, itself, read_of, silent_client_step}
use Rattle.cmd_report.specs.Addresses.{bare_address}
use Rattle.cmd_schedule.specs.Grammar.{is_name, is_text}
use Rattle.srv_core.specs.Table.{after_item}
use Rattle.cmd_network.specs.Positions.{changed_at, changed_where}
use Rattle.cmd_world.specs.Worlds.{client_entropy, server_entropy}
use Rattle.xml_writer.specs.Items.{ItemOut}

-- ---- moves

module _ (UpFits DownFits : ItemOut → Type 0) (ServerKeeps : ServerState ItemOut → Type 0) (ClientFits : ClientView ItemOut → Type 0) (keep : CoresKeep UpFits DownFits ServerKeeps ClientFits) where
  abbrev Fits : ItemWorld → Type 0
  Fits w = WorldFits UpFits DownFits ServerKeeps ClientFits w

  abbrev OfWire : ItemWire → Type 0
  OfWire wire = WireFits UpFits DownFits wire

  abbrev OfDevice : ItemDevice → Type 0
  OfDevice d = ClientFits d.client

  -- of the device at a place
  device_at : (w : ItemWorld) (position : ℕ) → Fits w → IfSome (slice_get w.devices position) OfDevice
  device_at w position fits = all_at OfDevice w.devices position fits.clients

  -- ---- the user of a device

  dial_fits : TakesAny ServerKeeps → (device k : ℕ) (w : ItemWorld) (o : Option ItemDevice) → Fits w → IfSome o OfDevice → Fits (dialed_by device (client_entropy k) (server_entropy k) o w)
  dial_fits any device k w None fits here = fits
  dial_fits any device k w (Some d) fits here =
      let t = (dials in_items (client_entropy k) (fed_of d.client)).turn in
      let done = keep.client.dials_so k d.client here in
      record {
        server_state = any (length w.wires + 1) k (at_moment w.moment w.server) (keep.moment w.moment w.server fits.server_state);
        clients = all_set OfDevice w.devices device (record { client = t.client; here = Some (length w.wires) }) done.client fits.clients;
        wires = append_each OfWire (changed_where d.here left w.wires) (put_up t.out.put (fresh_wire device) ∷ [])
            (all_where OfWire left (left_fits UpFits DownFits) d.here w.wires fits.wires) (put_up_fits UpFits DownFits t.out.put done.puts (fresh_wire device) (fresh_fits UpFits DownFits device), tt);
      }

  forget_fits : (device : ℕ) (w : ItemWorld) (o : Option ItemDevice) → Fits w → IfSome o OfDevice → Fits (forgot_by device o w)
  forget_fits device w None fits here = fits
  forget_fits device w (Some d) fits here = record {
    server_state = fits.server_state;
    clients = all_set OfDevice w.devices device (record { client = (forgets in_items (fed_of d.client)).turn.client; here = None }) (keep.client.forgets_so d.client here) fits.clients;
    wires = all_where OfWire left (left_fits UpFits DownFits) d.here w.wires fits.wires;
  }

  close_fits : (device : ℕ) (w : ItemWorld) (o : Option ItemDevice) → Fits w → IfSome o OfDevice → Fits (closed_by device o w)
  close_fits device w None fits here = fits
  close_fits device w (Some d) fits here =
      let t = (closes in_items (fed_of d.client)).turn in
      record {
        server_state = fits.server_state;
        clients = all_set OfDevice w.devices device (record { client = t.client; here = None }) (subst ClientFits (sym (close_client d.client)) (keep.client.forgets_so d.client here)) fits.clients;
        wires = all_where OfWire left (left_fits UpFits DownFits) d.here (changed_where d.here (put_up t.out.put) w.wires)
            (all_where OfWire (put_up t.out.put) (put_up_fits UpFits DownFits t.out.put (footer_fits UpFits d.client keep.footer)) d.here w.wires fits.wires);
      }

  spoke_fits : (device : ℕ) (w : ItemWorld) (d : ItemDevice) (t : ClientStep ItemOut ItemOut) → Fits w → ClientFits t.client → AllByRecursion UpFits t.out.put → Fits (spoke device d t w)
  spoke_fits device w d t fits client puts = record {
    server_state = fits.server_state;
    clients = all_set OfDevice w.devices device (record d { client = t.client }) client fits.clients;
    wires = all_where OfWire (put_up t.out.put) (put_up_fits UpFits DownFits t.out.put puts) d.here w.wires fits.wires;
  }

  say_fits : (device : ℕ) (name text : List ℕ) (private : Bool) (w : ItemWorld) (o : Option ItemDevice) → IsTrue (is_name name) → IsTrue (is_text text) → Fits w → IfSome o OfDevice → Fits (said_by device (bare_address name) text private o w)
  say_fits device name text private w None named plain fits here = fits
  say_fits device name text private w (Some d) named plain fits here = by (say_answer d.client text) refl
    where
      by : (a : Result ℕ SayFault) → say_answer d.client text ≡ a → Fits (said_in a device d (says in_items (silent_client_step d.client) (bare_address name) text private) w)
      by (Ok n) ok =
          let done = keep.client.says_so name text private n d.client here named plain ok in
          spoke_fits device w d (says in_items (silent_client_step d.client) (bare_address name) text private) fits done.client done.puts
      by (Err fault) refused = fits

  catch_up_fits : (device most : ℕ) (w : ItemWorld) (o : Option ItemDevice) → 1 ≤ most → most ≤ 100 → Fits w → IfSome o OfDevice → Fits (caught_up_by device most o w)
  catch_up_fits device most w None some few fits here = fits
  catch_up_fits device most w (Some d) some few fits here = by (catch_up_answer d.client) refl
    where
      by : (a : Result (Unit {0}) CatchUpStart) → catch_up_answer d.client ≡ a → Fits (said_in a device d (catches_up in_items (silent_client_step d.client) most) w)
      by (Ok tt) ok =
          let done = keep.client.catches_up_so most d.client here some few ok in
          spoke_fits device w d (catches_up in_items (silent_client_step d.client) most) fits done.client done.puts
      by (Err fault) refused = fits

  -- ---- to the server

  first_fits : (position : ℕ) (items : List ItemOut) (w : ItemWorld) → AllByRecursion UpFits items → Fits w → Fits (served_first position items w)
  first_fits position [] w come fits = fits
  first_fits position (i ∷ items) w come fits =
      let done = after_item itself (position + 1) (read_of i) (step_of w.server) in
      record {
        server_state = keep.handles (position + 1) i w.server fits.server_state come.0;
        clients = fits.clients;
        wires = all_emitted_fits UpFits DownFits done.outs _ (keep.puts (position + 1) i w.server fits.server_state come.0) (all_changed OfWire handed_up (handed_up_fits UpFits DownFits) position w.wires fits.wires);
      }

  up_fits : (position : ℕ) (w : ItemWorld) (o : Option ItemWire) → Fits w → IfSome o OfWire → Fits (served_by position o w)
  up_fits position w None fits here = fits
  up_fits position w (Some wire) fits here = first_fits position wire.up.items w here.up fits

  up_end_fits : (position : ℕ) (w : ItemWorld) (o : Option ItemWire) → Fits w → Fits (reported_up position o w)
  up_end_fits position w None fits = fits
  up_end_fits position w (Some wire) fits = by (is_end_due wire.up)
    where
      told : ItemWorld
      told = record w { server = gone_at (position + 1) (at_moment w.moment w.server); wires = changed_at position up_end_reported w.wires }

      by : (due : Bool) → Fits (cond due told w)
      by true = record {
        server_state = keep.goes (position + 1) (at_moment w.moment w.server) (keep.moment w.moment w.server fits.server_state);
        clients = fits.clients;
        wires = all_changed OfWire up_end_reported (up_told_fits UpFits DownFits) position w.wires fits.wires;
      }
      by false = fits

  -- ---- to the device

  heard_fits : (position device : ℕ) (items : List ItemOut) (d : ItemDevice) (w : ItemWorld) → AllByRecursion DownFits items → ClientFits d.client → Fits w → Fits (heard_first position device items d w)
  heard_fits position device [] d w come here fits = fits
  heard_fits position device (i ∷ items) d w come here fits =
      let t = item_step in_items (silent_client_step d.client) (read_of i) in
      let done = keep.client.hears i d.client here come.0 in
      record {
        server_state = fits.server_state;
        clients = all_set OfDevice w.devices device _ done.client fits.clients;
        wires = all_changed OfWire (λ wire. left_where (is_apart t.client.phase) (put_up t.out.put (handed_down wire)))
            (λ wire one. left_where_fits UpFits DownFits (is_apart t.client.phase) (put_up t.out.put (handed_down wire))
            (put_up_fits UpFits DownFits t.out.put done.puts (handed_down wire) (handed_down_fits UpFits DownFits wire one))) position w.wires fits.wires;
      }

  down_end_fits : (position device : ℕ) (due : Bool) (d : ItemDevice) (w : ItemWorld) → ClientFits d.client → Fits w → Fits (end_heard position device due d w)
  down_end_fits position device false d w here fits = fits
  down_end_fits position device true d w here fits = record {
    server_state = fits.server_state;
    clients = all_set OfDevice w.devices device (record d { client = (leaves (fed_of d.client)).turn.client }) (keep.client.loses d.client here) fits.clients;
    wires = all_changed OfWire down_end_reported (down_told_fits UpFits DownFits) position w.wires fits.wires;
  }

  -- what is handed to a device fits, where it fits for each connection and each device
  at_device_fits : (position : ℕ) (f : ItemWire → ItemDevice → ItemWorld → ItemWorld) (w : ItemWorld) (wire : ItemWire) (o : Option ItemDevice) → ((d : ItemDevice) → OfDevice d → Fits (f wire d w)) → Fits w → IfSome o OfDevice → Fits (at_device position f wire o w)
  at_device_fits position f w wire None does fits here = fits
  at_device_fits position f w wire (Some d) does fits here = by (has_wire position d.here)
    where
      by : (b : Bool) → Fits (cond b (f wire d w) w)
      by true = does d here
      by false = fits

  at_wire_fits : (position : ℕ) (f : ItemWire → ItemDevice → ItemWorld → ItemWorld) (w : ItemWorld) (o : Option ItemWire) → ((wire : ItemWire) → OfWire wire → (d : ItemDevice) → OfDevice d → Fits (f wire d w)) → Fits w → IfSome o OfWire → Fits (at_wire position f o w)
  at_wire_fits position f w None does fits here = fits
  at_wire_fits position f w (Some wire) does fits here = at_device_fits position f w wire (slice_get w.devices wire.device) (does wire here) fits (device_at w wire.device fits)

  -- ---- a move

  pub move_fits : TakesAny ServerKeeps → (m : ItemMove) (w : ItemWorld) → Fits w → MayItem m → Fits (moved m w)
  move_fits any (Dial device mine yours) w fits may =
      subst (λ l. Fits (dialed_by device l yours (slice_get w.devices device) w)) (sym may.1)
      (subst (λ l. Fits (dialed_by device (client_entropy may.0) l (slice_get w.devices device) w)) (sym may.2) (dial_fits any device may.0 w (slice_get w.devices device) fits (device_at w device fits)))
  move_fits any (Forget device) w fits may = forget_fits device w (slice_get w.devices device) fits (device_at w device fits)
  move_fits any (Close device) w fits may = close_fits device w (slice_get w.devices device) fits (device_at w device fits)
  move_fits any (Say device to text private) w fits may =
      subst (λ a. Fits (said_by device a text private (slice_get w.devices device) w)) (sym may.1)
      (say_fits device may.0 text private w (slice_get w.devices device) may.2 may.3 fits (device_at w device fits))
  move_fits any (CatchUp device most) w fits may = catch_up_fits device most w (slice_get w.devices device) may.0 may.1 fits (device_at w device fits)
  move_fits any (Tick milliseconds) w fits may = record { server_state = keep.moment (w.moment + milliseconds) w.server fits.server_state; clients = fits.clients; wires = fits.wires }
  move_fits any (Up position) w fits may = up_fits position w (slice_get w.wires position) fits (all_at OfWire w.wires position fits.wires)
  move_fits any (UpEnd position) w fits may = up_end_fits position w (slice_get w.wires position) fits
  move_fits any (Down position) w fits may =
      at_wire_fits position (λ wire d. heard_first position wire.device wire.down.items d) w (slice_get w.wires position) (λ wire one d here. heard_fits position wire.device wire.down.items d w one.down here fits) fits (all_at OfWire w.wires position fits.wires)
  move_fits any (DownEnd position) w fits may =
      at_wire_fits position (λ wire d. end_heard position wire.device (is_end_due wire.down) d) w (slice_get w.wires position) (λ wire one d here. down_end_fits position wire.device (is_end_due wire.down) d w here fits) fits (all_at OfWire w.wires position fits.wires)
  move_fits any (Cut position up down) w fits may = record { server_state = fits.server_state; clients = fits.clients; wires = all_changed OfWire (cut_at up down) (cut_fits UpFits DownFits up down) position w.wires fits.wires }

  pub moves_fit : TakesAny ServerKeeps → (ms : List ItemMove) (w : ItemWorld) → Fits w → AllByRecursion MayItem ms → Fits (all_moved ms w)
  moves_fit any [] w fits may = fits
  moves_fit any (m ∷ ms) w fits may = moves_fit any ms (moved m w) (move_fits any m w fits may.0) may.1
