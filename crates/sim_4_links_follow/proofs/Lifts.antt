-- What follows a step of one end follows it in the world.
use Rattle.std.proofs.Common.{◌≡◌, ℕ, ◌+◌, Bool, true, false, not, ◌&&◌, List, [], ◌∷◌, Option, Some, None, Ok, Err, if◌then◌else◌, slice_get, refl, sym, ap, subst, ◌∙◌}
use Rattle.std.proofs.lemmas.Bool.{eq-eqb, eqb-true}
use Rattle.std.specs.List.{slice_set}
use Rattle.cl_core.specs.UserCalls.{catch_up_answer, catches_up, closes, forgets, leaves, say_answer, says}
use Rattle.cl_core.specs.declared.faults.CatchUpStart.{CatchUpStart}
use Rattle.cl_core.specs.declared.faults.SayFault.{SayFault}
use Rattle.cl_handlers.specs.Clients.{ClientStep}
use Rattle.cl_handlers.specs.Speech.{in_items}
use Rattle.sim_3_images.proofs.UserMoves.{get_set_same}
use Rattle.sim_4_links_follow.proofs.CutPipes.{cut_of_device}
use Rattle.sim_4_links_follow.proofs.Former.{pipes_as}
use Rattle.sim_4_links_follow.proofs.Numbered.{here_again, here_changed, position_is}
use Rattle.sim_4_links_follow.proofs.Parts.{closed_so, closes_note, forgotten, told_over}
use Rattle.sim_4_links_follow.proofs.Stays.{client_stays, server_stays}
use Rattle.sim_4_links_follow.specs.Following.{IsNextItem, WorldFollows}
use Rattle.srv_state.specs.Moments.{at_moment, gone_at}
use Rattle.sim_3_items.specs.Clients.{ClientFollows}
use Rattle.sim_3_items.specs.Labels.{Drops, Label, SaysNothing}
use Rattle.sim_3_items.specs.Identities.{Identity, Login}
use Rattle.sim_3_items.specs.Pipes.{by_number, under}
use Rattle.sim_3_items.specs.Reading.{HearingFollows, IsOverHere, IsRepresentedHere, SpeakingFollows, client_step_on, device_after, noted, where_here, wire_after}
use Rattle.sim_3_items.specs.Servers.{ServerFollows, ServerRepresents}
use Rattle.sim_3_items.specs.Represents.{Represents}
use Rattle.sim_3_items.specs.ItemMoves.{CatchUp, Close, Cut, Down, DownEnd, Forget, Say, Tick, Up, UpEnd, at_device, at_wire, caught_up_by, closed_by, end_heard, fed_of, forgot_by, has_wire, heard, heard_first, moved, reported_up, said_by, said_in, served_by, served_first, served_item, spoke}
use Rattle.sim_3_items.specs.ItemPipes.{ItemPipe, ItemWire, cut_at, down_end_reported, is_empty, is_end_due, left, put_up, up_end_reported}
use Rattle.sim_3_items.specs.ItemWorlds.{ItemDevice, ItemWorld, silent_client_step}
use Rattle.sim_2_links.specs.Machine.{Cuts, LinkReached}
use Rattle.sim_2_links.specs.Views.{Table, View, with_at}
use Rattle.sim_4_links_follow.proofs.Changes.{under_position}
use Rattle.sim_4_links_follow.proofs.PromptMoves.{silent_as}
use Rattle.cmd_network.specs.Positions.{changed_at, changed_where}
use Rattle.xml_writer.specs.Items.{ItemOut}
use Rattle.sim_4_links_follow.proofs.Listening.{first_true as first_of}

-- a pipe of which the end is due is empty and has ended
pub due_empty : (p : ItemPipe) → is_end_due p ≡ true → p.items ≡ []
due_empty p due = go p.items refl
  where
    go : (l : List ItemOut) → p.items ≡ l → p.items ≡ []
    go [] is = is
    go (i ∷ items) is =
        let full : is_empty p ≡ false = ap (λ l. is_empty (record p { items = l })) is in
        let first : is_empty p ≡ true = first_of (is_empty p) p.ended (first_of (is_empty p && p.ended) (not p.told) due) in
        absurd (let no_way : ⊥ = cc in no_way)

pub due_ended : (p : ItemPipe) → is_end_due p ≡ true → p.ended ≡ true
due_ended p due = second (is_empty p) p.ended (not p.told) due
  where
    second : (a b c : Bool) → a && b && c ≡ true → b ≡ true
    second true true c e = refl
    second true false c e = absurd (let no_way : ⊥ = cc in no_way)
    second false b c e = absurd (let no_way : ⊥ = cc in no_way)

module _ (who : Identity) (logins : ℕ → Login) (w : ItemWorld) (v : View ItemOut) (s : Represents who logins w v) where
  pub shown_here : LinkReached v → IsRepresentedHere who logins s.device (by_number w.wires) v
  shown_here reached = record { normal = s.normal; reached = reached; client = s.client; pipes = s.pipes }

  pub nothing_moves : WorldFollows who logins w v []
  nothing_moves = record { moves = []; next = v; leads = refl; does = refl; prompt = tt; represents = s }

  pub client_lifts : (after : ItemWorld) (d : ItemDevice) (wires : Table ItemWire) (done : List (Label ItemOut)) → after.server ≡ w.server → after.devices ≡ slice_set w.devices who.position d → ((j : ℕ) → under j after.wires ≡ wires j)
      → ClientFollows who logins d wires v done → WorldFollows who logins after v done
  client_lifts after d wires done server devices pipes f = record {
    moves = f.moves;
    next = f.next;
    leads = f.leads;
    does = f.does;
    prompt = f.prompt;
    represents = record {
      normal = s.normal;
      device = d;
      there = ap (λ l. slice_get l who.position) devices ∙ get_set_same w.devices who.position s.device d s.there;
      pipes = pipes_as who logins wires (by_number after.wires) f.next pipes f.pipes;
      server = subst (λ h. ServerRepresents who logins h f.next) (sym server) (server_stays who logins w.server v f.next f.server s.server);
      client = f.client;
    };
  }

  pub server_lifts : (after : ItemWorld) (done : List (Label ItemOut)) → SaysNothing done → after.devices ≡ w.devices → ServerFollows who logins after.server (by_number after.wires) v done → WorldFollows who logins after v done
  server_lifts after done silent devices f = record {
    moves = f.moves;
    next = f.next;
    leads = f.leads;
    does = f.does;
    prompt = silent_as f.moves done f.does silent;
    represents = record {
      normal = s.normal;
      device = s.device;
      there = ap (λ l. slice_get l who.position) devices ∙ s.there;
      pipes = f.pipes;
      server = f.server;
      client = client_stays who logins s.device v f.next f.client s.client;
    };
  }

  -- ---- the client parts

  pub forget_lifts : LinkReached v → WorldFollows who logins (moved (Forget who.position) w) v (Drops ∷ [])
  forget_lifts reached =
      let d : ItemDevice = s.device in
      subst (λ o. WorldFollows who logins (forgot_by who.position o w) v (Drops ∷ [])) (sym s.there)
      (client_lifts (forgot_by who.position (Some d) w) (record { client = (forgets in_items (fed_of d.client)).turn.client; here = None }) (where_here d.here left (by_number w.wires)) (Drops ∷ []) refl refl (here_changed d.here left w.wires)
      (forgotten who logins d (by_number w.wires) v (shown_here reached)))

  pub close_lifts : LinkReached v → WorldFollows who logins (moved (Close who.position) w) v (Drops ∷ [])
  close_lifts reached =
      let d : ItemDevice = s.device in
      let t : ClientStep ItemOut ItemOut = (closes in_items (fed_of d.client)).turn in
      let shown = shown_here reached in
      subst (λ o. WorldFollows who logins (closed_by who.position o w) v (Drops ∷ [])) (sym s.there)
      (subst (WorldFollows who logins (closed_by who.position (Some d) w) v) (closes_note who logins d (by_number w.wires) v shown)
      (client_lifts (closed_by who.position (Some d) w) (record { client = t.client; here = None }) (where_here d.here left (where_here d.here (put_up t.out.put) (by_number w.wires))) (noted t.out.notes) refl refl
      (λ j. here_changed d.here left (changed_where d.here (put_up t.out.put) w.wires) j
      ∙ here_again d.here left (by_number (changed_where d.here (put_up t.out.put) w.wires)) (where_here d.here (put_up t.out.put) (by_number w.wires)) j (here_changed d.here (put_up t.out.put) w.wires j))
      (closed_so who logins d (by_number w.wires) v shown)))

  -- ---- a connection of the device

  module _ (position : ℕ) (wire : ItemWire) (there : slice_get w.wires position ≡ Some wire) (of : wire.device ≡ who.position) where
    under_it : by_number w.wires (position + 1) ≡ Some wire
    under_it = under_position position w.wires ∙ there

    pub cut_lifts : (i j : ℕ) → WorldFollows who logins (moved (Cut position i j) w) v []
    cut_lifts i j =
        let f = cut_of_device who logins w.server s.device (by_number w.wires) v (position + 1) i j wire s.server s.client s.pipes under_it of in
        record {
          moves = Cuts (position + 1) i j ∷ [];
          next = f.next;
          leads = (f.next, f.cuts, refl);
          does = refl;
          prompt = (tt, tt);
          represents = record {
            normal = s.normal;
            device = s.device;
            there = s.there;
            pipes = pipes_as who logins (with_at (position + 1) (cut_at i j wire) (by_number w.wires)) (by_number (moved (Cut position i j) w).wires) f.next (position_is position (cut_at i j) wire w.wires there) f.pipes;
            server = f.server;
            client = f.client;
          };
        }

    found : slice_get w.devices wire.device ≡ Some s.device
    found = ap (slice_get w.devices) of ∙ s.there

    pub end_lifts : LinkReached v → WorldFollows who logins (moved (DownEnd position) w) v []
    end_lifts reached =
        subst (λ o. WorldFollows who logins (at_wire position ends o w) v []) (sym there)
        (subst (λ o. WorldFollows who logins (at_device position ends wire o w) v []) (sym found) (by (has_wire position s.device.here) refl))
      where
        ends : ItemWire → ItemDevice → ItemWorld → ItemWorld
        ends u d = end_heard position u.device (is_end_due u.down) d

        on_it : (o : Option ℕ) → has_wire position o ≡ true → o ≡ Some position
        on_it None e = absurd (let no_way : ⊥ = cc in no_way)
        on_it (Some here) e = ap Some (eqb-true here position e)

        due : (b : Bool) → is_end_due wire.down ≡ b → has_wire position s.device.here ≡ true → WorldFollows who logins (end_heard position wire.device b s.device w) v []
        due false e has = nothing_moves
        due true e has =
            let over : IsOverHere s.device (by_number w.wires) position = record { here = on_it s.device.here has; wire = wire; there = under_it; nothing = due_empty wire.down e; ended = due_ended wire.down e } in
            client_lifts (end_heard position wire.device true s.device w) (record s.device { client = (leaves (fed_of s.device.client)).turn.client }) (with_at (position + 1) (down_end_reported wire) (by_number w.wires)) [] refl
            (ap (λ n. slice_set w.devices n (record s.device { client = (leaves (fed_of s.device.client)).turn.client })) of) (position_is position down_end_reported wire w.wires there)
            (told_over who logins s.device (by_number w.wires) v (shown_here reached) position over)

        by : (b : Bool) → has_wire position s.device.here ≡ b → WorldFollows who logins (if b then ends wire s.device w else w) v []
        by false e = nothing_moves
        by true e = due (is_end_due wire.down) refl e

  -- ---- an item that comes

  pub hear_lifts : (position : ℕ) (d : ItemDevice) (wire : ItemWire) (i : ItemOut) → IsNextItem position who.position w d wire i → HearingFollows who logins d (by_number w.wires) v (position + 1) wire (client_step_on i d)
      → WorldFollows who logins (moved (Down position) w) v (noted (client_step_on i d).out.notes)
  hear_lifts position d wire i n f =
      let t : ClientStep ItemOut ItemOut = client_step_on i d in
      subst (λ x. WorldFollows who logins x v (noted t.out.notes)) (sym moved_so)
      (client_lifts (heard position who.position d t w) (device_after t d) (with_at (position + 1) (wire_after t wire) (by_number w.wires)) (noted t.out.notes) refl refl (position_is position (wire_after t) wire w.wires n.there) f)
    where
      hears : ItemWire → ItemDevice → ItemWorld → ItemWorld
      hears u e = heard_first position u.device u.down.items e

      moved_so : moved (Down position) w ≡ heard position who.position d (client_step_on i d) w
      moved_so =
          ap (λ o. at_wire position hears o w) n.there
          ∙ ap (λ o. at_device position hears wire o w) (ap (slice_get w.devices) n.of ∙ n.has)
          ∙ ap (λ o. if has_wire position o then hears wire d w else w) n.here
          ∙ ap (λ b. if b then hears wire d w else w) (eq-eqb position position refl)
          ∙ ap (λ items. heard_first position wire.device items d w) n.first
          ∙ ap (λ m. heard position m d (client_step_on i d) w) n.of

  -- ---- a call

  pub spoke_lifts : (d : ItemDevice) (t : ClientStep ItemOut ItemOut) → SpeakingFollows who logins d (by_number w.wires) v t → WorldFollows who logins (spoke who.position d t w) v (noted t.out.notes)
  spoke_lifts d t f =
      client_lifts (spoke who.position d t w) (record d { client = t.client }) (where_here d.here (put_up t.out.put) (by_number w.wires)) (noted t.out.notes) refl refl (here_changed d.here (put_up t.out.put) w.wires) f

  pub say_lifts : (to text : List ℕ) (private : Bool) (d : ItemDevice) (n : ℕ) → slice_get w.devices who.position ≡ Some d → say_answer d.client text ≡ Ok n
      → SpeakingFollows who logins d (by_number w.wires) v (says in_items (silent_client_step d.client) to text private)
      → WorldFollows who logins (moved (Say who.position to text private) w) v (noted (says in_items (silent_client_step d.client) to text private).out.notes)
  say_lifts to text private d n is answer f =
      let t : ClientStep ItemOut ItemOut = says in_items (silent_client_step d.client) to text private in
      subst (λ x. WorldFollows who logins x v (noted t.out.notes)) (sym (ap (λ o. said_by who.position to text private o w) is ∙ ap (λ r. said_in r who.position d t w) answer)) (spoke_lifts d t f)

  pub refused_lifts : (to text : List ℕ) (private : Bool) (d : ItemDevice) (e : SayFault) → slice_get w.devices who.position ≡ Some d → say_answer d.client text ≡ Err e → WorldFollows who logins (moved (Say who.position to text private) w) v []
  refused_lifts to text private d e is answer =
      let t : ClientStep ItemOut ItemOut = says in_items (silent_client_step d.client) to text private in
      subst (λ x. WorldFollows who logins x v []) (sym (ap (λ o. said_by who.position to text private o w) is ∙ ap (λ r. said_in r who.position d t w) answer)) nothing_moves

  pub ask_lifts : (most : ℕ) (d : ItemDevice) (u : Unit {0}) → slice_get w.devices who.position ≡ Some d → catch_up_answer d.client ≡ Ok u → SpeakingFollows who logins d (by_number w.wires) v (catches_up in_items (silent_client_step d.client) most)
      → WorldFollows who logins (moved (CatchUp who.position most) w) v (noted (catches_up in_items (silent_client_step d.client) most).out.notes)
  ask_lifts most d u is answer f =
      let t : ClientStep ItemOut ItemOut = catches_up in_items (silent_client_step d.client) most in
      subst (λ x. WorldFollows who logins x v (noted t.out.notes)) (sym (ap (λ o. caught_up_by who.position most o w) is ∙ ap (λ r. said_in r who.position d t w) answer)) (spoke_lifts d t f)

  pub unasked_lifts : (most : ℕ) (d : ItemDevice) (e : CatchUpStart) → slice_get w.devices who.position ≡ Some d → catch_up_answer d.client ≡ Err e → WorldFollows who logins (moved (CatchUp who.position most) w) v []
  unasked_lifts most d e is answer =
      let t : ClientStep ItemOut ItemOut = catches_up in_items (silent_client_step d.client) most in
      subst (λ x. WorldFollows who logins x v []) (sym (ap (λ o. caught_up_by who.position most o w) is ∙ ap (λ r. said_in r who.position d t w) answer)) nothing_moves

  -- ---- the server

  pub serve_lifts : (position : ℕ) (wire : ItemWire) (i : ItemOut) (items : List ItemOut) (done : List (Label ItemOut)) → SaysNothing done → slice_get w.wires position ≡ Some wire → wire.up.items ≡ i ∷ items
      → ServerFollows who logins (served_item position i w).server (by_number (served_item position i w).wires) v done → WorldFollows who logins (moved (Up position) w) v done
  serve_lifts position wire i items done silent there first f =
      subst (λ x. WorldFollows who logins x v done) (sym (ap (λ o. served_by position o w) there ∙ ap (λ is. served_first position is w) first)) (server_lifts (served_item position i w) done silent refl f)

  pub tick_lifts : (milliseconds : ℕ) (done : List (Label ItemOut)) → SaysNothing done → ServerFollows who logins (at_moment (w.moment + milliseconds) w.server) (by_number w.wires) v done → WorldFollows who logins (moved (Tick milliseconds) w) v done
  tick_lifts milliseconds done silent f = server_lifts (moved (Tick milliseconds) w) done silent refl f

  pub told_lifts : (position : ℕ) (wire : ItemWire) (done : List (Label ItemOut)) → SaysNothing done → slice_get w.wires position ≡ Some wire → is_end_due wire.up ≡ true
      → ServerFollows who logins (gone_at (position + 1) (at_moment w.moment w.server)) (with_at (position + 1) (up_end_reported wire) (by_number w.wires)) v done → WorldFollows who logins (moved (UpEnd position) w) v done
  told_lifts position wire done silent there due f =
      subst (λ x. WorldFollows who logins x v done) (sym (ap (λ o. reported_up position o w) there ∙ ap (λ b. if b then ended else w) due))
      (server_lifts ended done silent refl (record {
        moves = f.moves;
        next = f.next;
        leads = f.leads;
        does = f.does;
        server = f.server;
        pipes = pipes_as who logins (with_at (position + 1) (up_end_reported wire) (by_number w.wires)) (by_number ended.wires) f.next (position_is position up_end_reported wire w.wires there) f.pipes;
        client = f.client;
      }))
    where
      ended : ItemWorld
      ended = record w { server = gone_at (position + 1) (at_moment w.moment w.server); wires = changed_at position up_end_reported w.wires }
