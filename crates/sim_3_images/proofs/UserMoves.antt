-- What the user of a device does.
use Rattle.std.proofs.Common.{◌≡◌, ◌≢◌, ℕ, ◌≤◌, ◌==◌, Bool, true, false, cond, List, [], ◌∷◌, Option, Some, None, Result, Ok, Err, IsTrue, is_ok, nat_le, flat_map, refl, sym, ap, ap₂, subst, ◌∙◌, inl, inr}
use Rattle.std.proofs.lemmas.Bool.{cases_eq, eqb-true}
use Rattle.std.specs.List.{AllByRecursion, slice_get, slice_set}
use Rattle.std.proofs.lemmas.List.{length-map}
use Rattle.std.proofs.lemmas.Option.{none-some, same_Some}
use Rattle.std.specs.Option.{is_some, option_map}
use Rattle.cl_core.specs.Feeds.{Fed}
use Rattle.cl_core.specs.Values.{ClientValue}
use Rattle.cl_core.specs.UserCalls.{catch_up_answer, catch_up_in, outbox_bound, catches_up, forgets, say_answer, says, submission_of}
use Rattle.cl_core.specs.declared.faults.CatchUpStart.{CatchUpStart}
use Rattle.cl_core.specs.declared.faults.CatchUpStart.TheVariants as start
use Rattle.cl_core.specs.declared.faults.SayFault.{SayFault}
use Rattle.cl_core.specs.declared.faults.SayFault.TheVariants as fault
use Rattle.law_client.proofs.TableRendered.{answer_rendered, bytes_rendered, calls_rendered}
use Rattle.law_client.specs.Calls as calls
use Rattle.law_client.specs.Rendered.{client_rendered, session_rendered, written, written_fed}
use Rattle.cl_handlers.specs.Clients.{ClientStep, ClientView}
use Rattle.cl_handlers.specs.Speech.{in_bytes, in_items}
use Rattle.cl_handlers.specs.ClientSteps.{dropped, is_apart}
use Rattle.cl_handlers.specs.declared.phase.Phase.TheVariants.{Apart}
use Rattle.sm_outbox.specs.Sessions.{SessionView}
use Rattle.sm_outbox.specs.Submissions.{said_of}
use Rattle.srv_state.specs.State.{ServerState}
use Rattle.cmd_network.specs.Devices as devices
use Rattle.cmd_network.specs.Devices.{DeviceState, has_wire}
use Rattle.xml_framer.specs.States.{State}
use Rattle.xml_framer.specs.declared.states.Phase.TheVariants as phase
use Rattle.sim_3_images.proofs.Beginnings.{begins_where, closed_begun, entered_begun}
use Rattle.sim_3_images.proofs.ChangedLists.{all_found, all_set, all_where}
use Rattle.sim_3_images.proofs.ItemsServed.{changed_none}
use Rattle.sim_3_images.proofs.Lookups.{get_changed_other, get_changed_same, set_changes}
use Rattle.sim_3_images.proofs.NetworkMoves.{both_changed, both_weaker}
use Rattle.sim_3_images.proofs.NotesTold.{catch_up_noted, nothing_noted, say_noted}
use Rattle.sim_3_images.proofs.WireSteps.{wire_left, wire_put_up}
use Rattle.sim_3_images.proofs.WiresFit.{left_fits, put_up_fits}
use Rattle.sim_3_images.specs.Fitting.{WireFits}
use Rattle.sim_3_images.specs.EncodingsCores.{ClientStepFits, CoresFit, writer_at}
use Rattle.sim_3_images.specs.WireEncodings.{WireEncodes}
use Rattle.sim_3_images.specs.WorldEncodings.{Both, DeviceEncodes, IsBegun, IsMoved, WireAt, WorldEncodes, framer_here}
use Rattle.sim_3_items.specs.ItemMoves as items
use Rattle.sim_3_items.specs.ItemMoves.{fed_of}
use Rattle.sim_3_items.specs.ItemPipes as pipes
use Rattle.sim_3_items.specs.ItemPipes.{ItemWire}
use Rattle.sim_3_items.specs.ItemWorlds.{ItemDevice, ItemWorld, silent_client_step}
use Rattle.cmd_report.specs.Addresses.{bare_address}
use Rattle.cmd_schedule.specs.Grammar.{is_name, is_text}
use Rattle.srv_core.specs.Events.{framer_at}
use Rattle.cmd_network.specs.Positions.{changed_at, changed_where}
use Rattle.cmd_network.specs.Wires.{left, put_up}
use Rattle.cmd_network.specs.declared.wire.Wire.{Wire}
pub use Rattle.cmd_world.proofs.Numbers.{many_where as length_where}
use Rattle.cmd_world.specs.Moves.{CatchUp, Forget, Say, caught_up_by, forgot_by, said_by, spoke}
use Rattle.cmd_world.specs.Worlds.{ByteWorld, number_at}
use Rattle.sim_3_images.proofs.DevicesMoved.{put_again}
use Rattle.sim_3_images.proofs.Keeping.{submits_phase, catches_phase_in}
use Rattle.sim_3_images.proofs.PutSteps.{nothing_entered}
use Rattle.xml_writer.specs.Items.{ItemOut, written_item}
use Rattle.law_xml.specs.Puts.{phase_behind}

-- ---- lists set at a place

pub get_set_same : {T : Type 0} (l : List T) (i : ℕ) (x y : T) → slice_get l i ≡ Some x → slice_get (slice_set l i y) i ≡ Some y
get_set_same l i x y found = ap (λ m. slice_get m i) (set_changes (λ _. y) l i x y found refl) ∙ get_changed_same (λ _. y) l i ∙ ap (option_map (λ _. y)) found

pub get_set_other : {T : Type 0} (l : List T) (i j : ℕ) (x y : T) → slice_get l i ≡ Some x → j ≢ i → slice_get (slice_set l i y) j ≡ slice_get l j
get_set_other l i j x y found other = ap (λ m. slice_get m j) (set_changes (λ _. y) l i x y found refl) ∙ get_changed_other (λ _. y) l i j other

-- a device that changes has the framer of a connection that it had before, where its framer there is the same
pub framer_stays : (ds : List DeviceState) (i : ℕ) (d d' : DeviceState) (q j : ℕ) → slice_get ds i ≡ Some d → framer_here q (Some d') ≡ framer_here q (Some d) → framer_here q (slice_get (slice_set ds i d') j) ≡ framer_here q (slice_get ds j)
framer_stays ds i d d' q j found same = elim (cases_eq j i) [
  | inl e ↦ ap (λ x. framer_here q (slice_get (slice_set ds i d') x)) e ∙ ap (framer_here q) (get_set_same ds i d d' found) ∙ same ∙ sym (ap (framer_here q) found) ∙ sym (ap (λ x. framer_here q (slice_get ds x)) e)
  | inr other ↦ ap (framer_here q) (get_set_other ds i j d d' found other)
]

module _ (UpFits DownFits : ItemOut → Type 0) (ServerFits : ℕ → ServerState ItemOut → Type 0) (ClientFits : ClientView ItemOut → Type 0) (cores : CoresFit UpFits DownFits ServerFits ClientFits) where
  -- a device changes, and the connection that it has
  abbrev pub After : ByteWorld → ItemWorld → ℕ → DeviceState → ℕ → Wire → ItemWire → Type 0
  After w v i d' q b p = WireEncodes (framer_at (number_at q) w.server.framers) (framer_here q (slice_get (slice_set w.devices i d') b.device)) (writer_at (number_at q) v.server) b p

  pub devices_changed : (w : ByteWorld) (v : ItemWorld) (i : ℕ) (d d' : DeviceState) (e e' : ItemDevice) → slice_get w.devices i ≡ Some d → slice_get v.devices i ≡ Some e → DeviceEncodes d' e' → WorldEncodes UpFits DownFits ServerFits ClientFits w v
      → (position : ℕ) → Both DeviceEncodes (slice_get (slice_set w.devices i d') position) (slice_get (slice_set v.devices i e') position)
  devices_changed w v i d d' e e' found found_item h encodes position =
      subst (λ l. Both DeviceEncodes (slice_get l position) (slice_get (slice_set v.devices i e') position)) (sym (set_changes (λ _. d') w.devices i d d' found refl))
      (subst (λ l. Both DeviceEncodes (slice_get (changed_at i (λ _. d') w.devices) position) (slice_get l position)) (sym (set_changes (λ _. e') v.devices i e e' found_item refl))
      (both_changed (λ _. DeviceEncodes) (λ _. DeviceEncodes) (λ _. d') (λ _. e') w.devices v.devices i here (λ p other a b r. r) encodes.encoding.devices position))
    where
      here : Both DeviceEncodes (option_map (λ _. d') (slice_get w.devices i)) (option_map (λ _. e') (slice_get v.devices i))
      here = subst (λ o. Both DeviceEncodes (option_map (λ _. d') o) (option_map (λ _. e') (slice_get v.devices i))) (sym found) (subst (λ o. Both DeviceEncodes (Some d') (option_map (λ _. e') o)) (sym found_item) h)

  -- what stands at a place behind the change
  pub wires_changed : (w : ByteWorld) (v : ItemWorld) (i : ℕ) (d d' : DeviceState) (f : Wire → Wire) (g : ItemWire → ItemWire) (here : Option ℕ) (position : ℕ) → slice_get w.devices i ≡ Some d → WorldEncodes UpFits DownFits ServerFits ClientFits w v
      → ((b : Wire) (p : ItemWire) → here ≡ Some position → slice_get w.wires position ≡ Some b → slice_get v.wires position ≡ Some p → WireAt w v position b p → After w v i d' position (f b) (g p))
      → ((here ≡ Some position → ⊥) → framer_here position (Some d') ≡ framer_here position (Some d))
      → Both (After w v i d' position) (slice_get (changed_where here f w.wires) position) (slice_get (changed_where here g v.wires) position)
  wires_changed w v i d d' f g None position found encodes at_here at_other =
      both_weaker (WireAt w v position) (After w v i d' position)
      (λ b p x. subst (λ r. WireEncodes (framer_at (number_at position) w.server.framers) r (writer_at (number_at position) v.server) b p) (sym (framer_stays w.devices i d d' position b.device found (at_other (none-some position)))) x)
      (slice_get w.wires position) (slice_get v.wires position) (encodes.encoding.wires position)
  wires_changed w v i d d' f g (Some h) position found encodes at_here at_other = elim (cases_eq position h) [
    | inl same ↦
        subst (λ x. Both (After w v i d' position) (slice_get (changed_at x f w.wires) position) (slice_get (changed_at x g v.wires) position)) same
        (subst (λ o. Both (After w v i d' position) o (slice_get (changed_at position g v.wires) position)) (sym (get_changed_same f w.wires position))
        (subst (λ o. Both (After w v i d' position) (option_map f (slice_get w.wires position)) o) (sym (get_changed_same g v.wires position))
        (both_here (ap Some (sym same)) (slice_get w.wires position) (slice_get v.wires position) refl refl (encodes.encoding.wires position))))
    | inr other ↦
        subst (λ o. Both (After w v i d' position) o (slice_get (changed_at h g v.wires) position)) (sym (get_changed_other f w.wires h position other))
        (subst (λ o. Both (After w v i d' position) (slice_get w.wires position) o) (sym (get_changed_other g v.wires h position other))
        (both_weaker (WireAt w v position) (After w v i d' position)
        (λ b p x. subst (λ r. WireEncodes (framer_at (number_at position) w.server.framers) r (writer_at (number_at position) v.server) b p) (sym (framer_stays w.devices i d d' position b.device found (at_other (λ e. other (sym (same_Some h position e)))))) x)
        (slice_get w.wires position) (slice_get v.wires position) (encodes.encoding.wires position)))
  ]
    where
      both_here : Some h ≡ Some position → (ob : Option Wire) (op : Option ItemWire) → slice_get w.wires position ≡ ob → slice_get v.wires position ≡ op → Both (WireAt w v position) ob op → Both (After w v i d' position) (option_map f ob) (option_map g op)
      both_here e None None x y r = tt
      both_here e None (Some p) x y r = absurd r
      both_here e (Some b) None x y r = absurd r
      both_here e (Some b) (Some p) x y r = at_here b p e x y r

  -- the client of a device that is there is within limits
  pub client_fits : (w : ByteWorld) (v : ItemWorld) (i : ℕ) (e : ItemDevice) → slice_get v.devices i ≡ Some e → WorldEncodes UpFits DownFits ServerFits ClientFits w v → ClientFits e.client
  client_fits w v i e found encodes = all_found (λ (x : ItemDevice). ClientFits x.client) v.devices i e found encodes.fits.clients

  pub user_encodes : (w : ByteWorld) (v : ItemWorld) (i : ℕ) (d d' : DeviceState) (e e' : ItemDevice) (f : Wire → Wire) (g : ItemWire → ItemWire) → slice_get w.devices i ≡ Some d → slice_get v.devices i ≡ Some e → DeviceEncodes d' e' → d.here ≡ e.here → ClientFits e'.client → ((x : ItemWire) → WireFits UpFits DownFits x → WireFits UpFits DownFits (g x)) → ((x : ItemWire) → IsBegun x.up → IsBegun (g x).up)
      → WorldEncodes UpFits DownFits ServerFits ClientFits w v → ((q : ℕ) (b : Wire) (p : ItemWire) → d.here ≡ Some q → slice_get w.wires q ≡ Some b → slice_get v.wires q ≡ Some p → WireAt w v q b p → After w v i d' q (f b) (g p))
      → ((q : ℕ) → (d.here ≡ Some q → ⊥) → framer_here q (Some d') ≡ framer_here q (Some d))
      → WorldEncodes UpFits DownFits ServerFits ClientFits (record w { devices = slice_set w.devices i d'; wires = changed_where d.here f w.wires }) (record v { devices = slice_set v.devices i e'; wires = changed_where e.here g v.wires })
  user_encodes w v i d d' e e' f g found found_item h same_here fit fits keeps encodes at_here at_other =
      subst (λ o. WorldEncodes UpFits DownFits ServerFits ClientFits (record w { devices = slice_set w.devices i d'; wires = changed_where d.here f w.wires }) (record v { devices = slice_set v.devices i e'; wires = changed_where o g v.wires })) same_here
      (record {
        encoding = record {
          moment = encodes.encoding.moment;
          server_state = encodes.encoding.server_state;
          devices = devices_changed w v i d d' e e' found found_item h encodes;
          as_many = length_where d.here f w.wires ∙ encodes.encoding.as_many ∙ sym (length_where d.here g v.wires);
          wires = λ position. wires_changed w v i d d' f g d.here position found encodes (at_here position) (at_other position);
          takes = encodes.encoding.takes;
        };
        fits = record {
          server_state = subst (λ n. ServerFits n v.server) (sym (length_where d.here g v.wires)) encodes.fits.server_state;
          clients = all_set (λ (x : ItemDevice). ClientFits x.client) v.devices i e' fit encodes.fits.clients;
          wires = all_where (WireFits UpFits DownFits) g fits d.here v.wires encodes.fits.wires;
        };
        begins = begins_where v.wires v.server d.here g keeps encodes.begins;
      })

  -- ---- what is put goes out, where a connection is there

  said_at_here : (w : ByteWorld) (v : ItemWorld) (i : ℕ) (d d' : DeviceState) (more : List ItemOut) → slice_get w.devices i ≡ Some d → ((q : ℕ) → framer_here q (Some d') ≡ framer_here q (Some d)) → AllByRecursion UpFits more → AllByRecursion (λ x. phase_behind x ≡ phase.Between) more
      → (q : ℕ) (b : Wire) (p : ItemWire) → d.here ≡ Some q → slice_get w.wires q ≡ Some b → slice_get v.wires q ≡ Some p → WireAt w v q b p → After w v i d' q (put_up (flat_map written_item more) b) (pipes.put_up more p)
  said_at_here w v i d d' more found same fit between q b p here there there_item x =
      wire_put_up UpFits DownFits cores.up_limits cores.down_limits (framer_at (number_at q) w.server.framers) (framer_here q (slice_get (slice_set w.devices i d') b.device)) (writer_at (number_at q) v.server) b p more fit between
      (subst (λ r. WireEncodes (framer_at (number_at q) w.server.framers) r (writer_at (number_at q) v.server) b p) (sym (framer_stays w.devices i d d' q b.device found (same q))) x)

  -- the device of bytes behind a turn
  abbrev rendered_device : DeviceState → ClientStep ItemOut ItemOut → DeviceState
  rendered_device d t = record d { client = record d.client { client = client_rendered written_item t.client } }

  spoke_encodes : (w : ByteWorld) (v : ItemWorld) (i : ℕ) (d : DeviceState) (e : ItemDevice) (t : ClientStep ItemOut ItemOut) → slice_get w.devices i ≡ Some d → slice_get v.devices i ≡ Some e → DeviceEncodes d e → t.client.phase ≡ e.client.phase → ClientStepFits UpFits ClientFits t → WorldEncodes UpFits DownFits ServerFits ClientFits w v
      → WorldEncodes UpFits DownFits ServerFits ClientFits (record w { devices = slice_set w.devices i (rendered_device d t); wires = changed_where d.here (put_up (flat_map written_item t.out.put)) w.wires }) (items.spoke i e t v)
  spoke_encodes w v i d e t found found_item h same fits encodes =
      user_encodes w v i d (rendered_device d t) e (record e { client = t.client }) (put_up (flat_map written_item t.out.put)) (pipes.put_up t.out.put) found found_item (record { client = refl; here = h.here; framed = λ a. h.framed (sym (ap is_apart same) ∙ a) }) h.here fits.client (put_up_fits UpFits DownFits t.out.put fits.puts) (λ x. entered_begun t.out.put x.up) encodes
      (said_at_here w v i d (rendered_device d t) t.out.put found (λ q. refl) fits.puts fits.no_footer) (λ q other. refl)

  nothing_put : (p : ItemWire) → pipes.put_up [] p ≡ p
  nothing_put p = ap (λ u. record p { up = u }) (nothing_entered p.up)

  nothing_where : (o : Option ℕ) (l : List ItemWire) → changed_where o (pipes.put_up []) l ≡ l
  nothing_where None l = refl
  nothing_where (Some q) l = changed_none (pipes.put_up []) l q nothing_put

  -- a line that is refused is noted down, and nothing is put
  refused_encodes : (w : ByteWorld) (v : ItemWorld) (i : ℕ) (d d' : DeviceState) (e : ItemDevice) → slice_get w.devices i ≡ Some d → slice_get v.devices i ≡ Some e → DeviceEncodes d e → d'.client ≡ d.client → d'.here ≡ d.here → WorldEncodes UpFits DownFits ServerFits ClientFits w v
      → WorldEncodes UpFits DownFits ServerFits ClientFits (record w { devices = slice_set w.devices i d'; wires = changed_where d.here (put_up []) w.wires }) v
  refused_encodes w v i d d' e found found_item h same same_here encodes =
      let same_framer : (q : ℕ) → framer_here q (Some d') ≡ framer_here q (Some d) = λ q. ap₂ (λ o (c : ClientValue). cond (has_wire q o) c.framer None) same_here same in
      subst (WorldEncodes UpFits DownFits ServerFits ClientFits (record w { devices = slice_set w.devices i d'; wires = changed_where d.here (put_up []) w.wires })) (ap₂ (λ l m. record v { devices = l; wires = m }) (put_again v.devices i e found_item) (nothing_where e.here v.wires))
      (user_encodes w v i d d' e e (put_up []) (pipes.put_up []) found found_item (record { client = ap (λ (c : ClientValue). c.client) same ∙ h.client; here = same_here ∙ h.here; framed = λ a. ap (λ (c : ClientValue). c.framer) same ∙ h.framed a }) h.here (client_fits w v i e found_item encodes) (put_up_fits UpFits DownFits [] tt) (λ x. entered_begun [] x.up) encodes
      (said_at_here w v i d d' [] found same_framer tt tt) (λ q other. same_framer q))

  -- ---- submissions

  pub silent_is : (d : DeviceState) (e : ItemDevice) → DeviceEncodes d e → devices.silent_client_step d.client ≡ written (silent_client_step e.client)
  silent_is d e h = ap (λ c. record { client = c; out = record { put = []; events = []; notes = [] } }) h.client

  said_is : (c : ClientView ItemOut) (to text : List ℕ) (private : Bool) (n : ℕ) → say_answer c text ≡ Ok n → says in_bytes (written (silent_client_step c)) to text private ≡ written (says in_items (silent_client_step c) to text private)
  said_is c to text private n ok =
      let fed : Fed ItemOut ItemOut = fed_of c in
      ap (λ (f : Fed (List ℕ) ℕ). f.turn)
      (sym (ap (λ a. calls.said_by in_bytes (written_fed fed) to text private (is_ok a)) (answer_rendered written_item c text ∙ ok)) ∙ calls_rendered bytes_rendered (calls.Say to text private ∷ []) fed
      ∙ ap (λ a. written_fed (calls.said_by in_items fed to text private (is_ok a))) ok)

  says_phase : (c : ClientView ItemOut) (to text : List ℕ) (private : Bool) → (says in_items (silent_client_step c) to text private).client.phase ≡ c.phase
  says_phase c to text private = submits_phase (silent_client_step c) c.session (in_items.say (submission_of c to text private)) (said_of c.epoch c.n to text private)

  say_refused_same : (line : ℕ) (f : SayFault) (d : DeviceState) → ((devices.say_refused line f d).client ≡ d.client) × ((devices.say_refused line f d).here ≡ d.here)
  say_refused_same line fault.NotBound d = (refl, refl)
  say_refused_same line fault.OutboxFull d = (refl, refl)
  say_refused_same line fault.BadText d = (refl, refl)
  say_refused_same line fault.NoMemory d = (refl, refl)

  abbrev Submitted : ℕ → ℕ → List ℕ → List ℕ → Bool → ByteWorld → ItemWorld → Option DeviceState → Option ItemDevice → Type 0
  Submitted i line to text private w v od oe = WorldEncodes UpFits DownFits ServerFits ClientFits (said_by i line to text private od w) (items.said_by i (bare_address to) text private oe v)

  pub say_is : (i line : ℕ) (to text : List ℕ) (private : Bool) (w : ByteWorld) (v : ItemWorld) → IsTrue (is_name to) → IsTrue (is_text text) → WorldEncodes UpFits DownFits ServerFits ClientFits w v → IsMoved UpFits DownFits ServerFits ClientFits (Say i line to text private) w v
  say_is i line to text private w v name plain encodes = record { moves = items.Say i (bare_address to) text private ∷ []; is_run = refl; encodes = by (slice_get w.devices i) (slice_get v.devices i) refl refl (encodes.encoding.devices i); notes = say_noted i line to text private w v encodes.encoding.devices; reads = λ j. refl; gives = λ j. refl }
    where
      answered : (d : DeviceState) (e : ItemDevice) → slice_get w.devices i ≡ Some d → slice_get v.devices i ≡ Some e → DeviceEncodes d e → (a : Result ℕ SayFault) → say_answer e.client text ≡ a
          → WorldEncodes UpFits DownFits ServerFits ClientFits (spoke i d.here (devices.says_by line (bare_address to) text private a d) w) (items.said_in a i e (says in_items (silent_client_step e.client) (bare_address to) text private) v)
      answered d e found found_item h (Ok n) ok =
          let t = says in_items (silent_client_step e.client) (bare_address to) text private in
          subst (λ (u : ClientStep (List ℕ) ℕ). WorldEncodes UpFits DownFits ServerFits ClientFits (spoke i d.here (devices.after_client_step u d) w) (items.spoke i e t v)) (sym (ap (λ u. says in_bytes u (bare_address to) text private) (silent_is d e h) ∙ said_is e.client (bare_address to) text private n ok))
          (spoke_encodes w v i d e t found found_item h (says_phase e.client (bare_address to) text private) (cores.client.says_so to text private n e.client (client_fits w v i e found_item encodes) name plain ok) encodes)
      answered d e found found_item h (Err f) refused =
          let same = say_refused_same line f d in
          refused_encodes w v i d (devices.say_refused line f d) e found found_item h same.0 same.1 encodes

      by : (od : Option DeviceState) (oe : Option ItemDevice) → slice_get w.devices i ≡ od → slice_get v.devices i ≡ oe → Both DeviceEncodes od oe → Submitted i line to text private w v (slice_get w.devices i) (slice_get v.devices i)
      by None None found found_item h = subst (λ o. Submitted i line to text private w v o (slice_get v.devices i)) (sym found) (subst (Submitted i line to text private w v None) (sym found_item) encodes)
      by None (Some e) found found_item h = absurd h
      by (Some d) None found found_item h = absurd h
      by (Some d) (Some e) found found_item h =
          subst (λ o. Submitted i line to text private w v o (slice_get v.devices i)) (sym found) (subst (Submitted i line to text private w v (Some d)) (sym found_item)
          (subst (λ a. WorldEncodes UpFits DownFits ServerFits ClientFits (spoke i d.here (devices.says_by line (bare_address to) text private a d) w) (items.said_in (say_answer e.client text) i e (says in_items (silent_client_step e.client) (bare_address to) text private) v))
          (sym (ap (λ c. say_answer c text) h.client ∙ answer_rendered written_item e.client text)) (answered d e found found_item h (say_answer e.client text) refl)))

  -- ---- catching up

  start_rendered : (f : ItemOut → List ℕ) (c : ClientView ItemOut) → catch_up_answer (client_rendered f c) ≡ catch_up_answer c
  start_rendered f c = by c.session
    where
      by : (o : Option (SessionView ItemOut)) → catch_up_in (client_rendered f c) (option_map (session_rendered f) o) ≡ catch_up_in c o
      by None = refl
      by (Some s) = ap (λ n. cond (nat_le outbox_bound n) (Err start.OutboxFull) (cond (is_some c.log.page) (Err start.Underway) (Ok tt))) (length-map s.waiting.queue f)

  caught_up_is : (c : ClientView ItemOut) (most : ℕ) → catch_up_answer c ≡ Ok tt → catches_up in_bytes (written (silent_client_step c)) most ≡ written (catches_up in_items (silent_client_step c) most)
  caught_up_is c most ok =
      let fed : Fed ItemOut ItemOut = fed_of c in
      ap (λ (f : Fed (List ℕ) ℕ). f.turn)
      (sym (ap (λ a. calls.caught_up_by in_bytes (written_fed fed) most (is_ok a)) (start_rendered written_item c ∙ ok)) ∙ calls_rendered bytes_rendered (calls.CatchUp most ∷ []) fed ∙ ap (λ a. written_fed (calls.caught_up_by in_items fed most (is_ok a))) ok)

  catch_up_refused_same : (line : ℕ) (f : CatchUpStart) (d : DeviceState) → ((devices.catch_up_refused line f d).client ≡ d.client) × ((devices.catch_up_refused line f d).here ≡ d.here)
  catch_up_refused_same line start.NotBound d = (refl, refl)
  catch_up_refused_same line start.OutboxFull d = (refl, refl)
  catch_up_refused_same line start.Underway d = (refl, refl)
  catch_up_refused_same line start.NoMemory d = (refl, refl)

  abbrev Asked : ℕ → ℕ → ℕ → ByteWorld → ItemWorld → Option DeviceState → Option ItemDevice → Type 0
  Asked i line most w v od oe = WorldEncodes UpFits DownFits ServerFits ClientFits (caught_up_by i line most od w) (items.caught_up_by i most oe v)

  pub catch_up_is : (i line most : ℕ) (w : ByteWorld) (v : ItemWorld) → 1 ≤ most → most ≤ 100 → WorldEncodes UpFits DownFits ServerFits ClientFits w v → IsMoved UpFits DownFits ServerFits ClientFits (CatchUp i line most) w v
  catch_up_is i line most w v some few encodes = record { moves = items.CatchUp i most ∷ []; is_run = refl; encodes = by (slice_get w.devices i) (slice_get v.devices i) refl refl (encodes.encoding.devices i); notes = catch_up_noted i line most w v encodes.encoding.devices; reads = λ j. refl; gives = λ j. refl }
    where
      answered : (d : DeviceState) (e : ItemDevice) → slice_get w.devices i ≡ Some d → slice_get v.devices i ≡ Some e → DeviceEncodes d e → (a : Result (Unit {0}) CatchUpStart) → catch_up_answer e.client ≡ a
          → WorldEncodes UpFits DownFits ServerFits ClientFits (spoke i d.here (devices.catches_up_by line most a d) w) (items.said_in a i e (catches_up in_items (silent_client_step e.client) most) v)
      answered d e found found_item h (Ok done) ok =
          let t = catches_up in_items (silent_client_step e.client) most in
          subst (λ (u : ClientStep (List ℕ) ℕ). WorldEncodes UpFits DownFits ServerFits ClientFits (spoke i d.here (devices.after_client_step u d) w) (items.spoke i e t v)) (sym (ap (λ u. catches_up in_bytes u most) (silent_is d e h) ∙ caught_up_is e.client most ok))
          (spoke_encodes w v i d e t found found_item h (catches_phase_in (silent_client_step e.client) e.client.session most) (cores.client.catches_up_so most e.client (client_fits w v i e found_item encodes) some few ok) encodes)
      answered d e found found_item h (Err f) refused =
          let same = catch_up_refused_same line f d in
          refused_encodes w v i d (devices.catch_up_refused line f d) e found found_item h same.0 same.1 encodes

      by : (od : Option DeviceState) (oe : Option ItemDevice) → slice_get w.devices i ≡ od → slice_get v.devices i ≡ oe → Both DeviceEncodes od oe → Asked i line most w v (slice_get w.devices i) (slice_get v.devices i)
      by None None found found_item h = subst (λ o. Asked i line most w v o (slice_get v.devices i)) (sym found) (subst (Asked i line most w v None) (sym found_item) encodes)
      by None (Some e) found found_item h = absurd h
      by (Some d) None found found_item h = absurd h
      by (Some d) (Some e) found found_item h =
          subst (λ o. Asked i line most w v o (slice_get v.devices i)) (sym found) (subst (Asked i line most w v (Some d)) (sym found_item)
          (subst (λ a. WorldEncodes UpFits DownFits ServerFits ClientFits (spoke i d.here (devices.catches_up_by line most a d) w) (items.said_in (catch_up_answer e.client) i e (catches_up in_items (silent_client_step e.client) most) v))
          (sym (ap catch_up_answer h.client ∙ start_rendered written_item e.client)) (answered d e found found_item h (catch_up_answer e.client) refl)))

  -- ---- a connection that is left

  -- a connection that the device doesn't have has no framer there
  pub away : (o : Option ℕ) (f : Option State) (q : ℕ) → (o ≡ Some q → ⊥) → cond (has_wire q o) f None ≡ None
  away None f q other = refl
  away (Some h) f q other = by (h == q) refl
    where
      by : (b : Bool) → (h == q) ≡ b → cond b f None ≡ None
      by true e = absurd (other (ap Some (eqb-true h q e)))
      by false e = refl

  pub left_at_here : (w : ByteWorld) (v : ItemWorld) (i : ℕ) (d' : DeviceState) (q : ℕ) (b : Wire) (p : ItemWire) → WireAt w v q b p → After w v i d' q (left b) (pipes.left p)
  left_at_here w v i d' q b p x =
      wire_left UpFits DownFits cores.up_limits cores.down_limits (framer_at (number_at q) w.server.framers) (framer_here q (slice_get w.devices b.device)) (framer_here q (slice_get (slice_set w.devices i d') b.device)) (writer_at (number_at q) v.server) (writer_at (number_at q) v.server) b p x

  abbrev Forgotten : ℕ → ByteWorld → ItemWorld → Option DeviceState → Option ItemDevice → Type 0
  Forgotten i w v od oe = WorldEncodes UpFits DownFits ServerFits ClientFits (forgot_by i od w) (items.forgot_by i oe v)

  pub forget_is : (i : ℕ) (w : ByteWorld) (v : ItemWorld) → WorldEncodes UpFits DownFits ServerFits ClientFits w v → IsMoved UpFits DownFits ServerFits ClientFits (Forget i) w v
  forget_is i w v encodes = record { moves = items.Forget i ∷ []; is_run = refl; encodes = by (slice_get w.devices i) (slice_get v.devices i) refl refl (encodes.encoding.devices i); notes = λ j. nothing_noted (slice_get w.devices j); reads = λ j. refl; gives = λ j. refl }
    where
      by : (od : Option DeviceState) (oe : Option ItemDevice) → slice_get w.devices i ≡ od → slice_get v.devices i ≡ oe → Both DeviceEncodes od oe → Forgotten i w v (slice_get w.devices i) (slice_get v.devices i)
      by None None found found_item h = subst (λ o. Forgotten i w v o (slice_get v.devices i)) (sym found) (subst (Forgotten i w v None) (sym found_item) encodes)
      by None (Some e) found found_item h = absurd h
      by (Some d) None found found_item h = absurd h
      by (Some d) (Some e) found found_item h =
          subst (λ o. Forgotten i w v o (slice_get v.devices i)) (sym found) (subst (Forgotten i w v (Some d)) (sym found_item)
          (user_encodes w v i d (devices.forgets_all d) e (record { client = (forgets in_items (fed_of e.client)).turn.client; here = None }) left pipes.left found found_item
          (record { client = ap (λ c. dropped (record c { phase = Apart })) h.client; here = refl; framed = λ a. refl }) h.here (cores.client.forgets_so e.client (client_fits w v i e found_item encodes)) (left_fits UpFits DownFits) (λ x. closed_begun x.up) encodes
          (λ q b p here x y r. left_at_here w v i (devices.forgets_all d) q b p r) (λ q other. sym (away d.here d.client.framer q other))))
