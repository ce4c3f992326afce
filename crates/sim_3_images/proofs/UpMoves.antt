-- Bytes that are handed to the server are the items whose last bytes are among them.
use Rattle.std.proofs.Common.{◌≡◌, ◌≤◌, ◌<◌, ℕ, zero, suc, ◌+◌, ◌==◌, min, Bool, true, false, true≢false, cond, List, [], ◌∷◌, ◌++◌, Option, Some, None, map, take, drop, length, refl, sym, ap, ap₂, subst, ◌∙◌, inl, inr, append_assoc, append-nil, arith}
use Rattle.std.proofs.lemmas.Bool.{cases_eq}
use Rattle.std.proofs.lemmas.List.{map-append, take-append-drop}
use Rattle.std.proofs.lemmas.Option.{slice_get_within}
use Rattle.std.specs.List.{AllByRecursion, slice_get, slice_set}
use Rattle.std.specs.Map.{set_value}
use Rattle.std.specs.Option.{option_map}
use Rattle.cl_handlers.specs.Clients.{ClientView}
use Rattle.cl_handlers.specs.declared.account.Account.{Account}
use Rattle.cmd_network.specs.Devices.{DeviceState}
use Rattle.srv_state.specs.Moments.{at_moment}
use Rattle.srv_state.specs.State.{Out, Put, ServerState, Shut, Step, Took, is_number}
use Rattle.xml_framer.specs.Machine.{run}
use Rattle.xml_framer.specs.States.{State, Turn, turn}
use Rattle.xml_framer.specs.declared.items.Item.{Item}
use Rattle.xml_framer.specs.declared.states.Phase.{Phase}
use Rattle.xml_framer.specs.declared.states.Phase.TheVariants as phase
use Rattle.law_xml.specs.Spells.{placed}
use Rattle.sim_3_images.proofs.Beginnings.{IsHeaded, begun_headed, first_before, wire_there}
use Rattle.sim_3_images.proofs.Emissions.{all_here}
use Rattle.sim_3_images.proofs.ServerStatesRendered.{moment_rendered}
use Rattle.sim_3_images.proofs.ItemsServed.{at_once, changed_none, many_up, served, served_fits, served_in_order, served_opened, up_after, ups_are, ups_give, ups_read}
use Rattle.sim_3_images.proofs.Lookups.{get_changed_other, found_after_other_value, found_after_value, length_changed, set_changes}
use Rattle.sim_3_images.proofs.NetworkMoves.{both_changed, end_is, found_both, number_apart}
use Rattle.sim_3_images.proofs.WireSteps.{IsUpHanded, all_taken, wire_up}
use Rattle.sim_3_images.proofs.NotesTold.{up_noted}
use Rattle.sim_3_images.proofs.PutsTold.{given_rendered, given_unplaced, nobody_given, up_end_gives}
use Rattle.sim_3_images.proofs.ReadsTold.{item_unplaced, read_rendered, read_unplaced, up_end_read}
use Rattle.sim_3_images.specs.Puts.{all_item_gives, begins_stanza, given_along, given_first, given_in, given_of_piece, given_on, is_put_as_stanza}
use Rattle.sim_3_images.specs.Reads.{all_item_reads, read_along, read_first, read_in, read_of_piece, read_on}
use Rattle.sim_3_images.specs.EncodingsCores.{CoresFit, writer_at}
use Rattle.sim_3_images.specs.ItemRuns.{AreServedUps, moved_where, ups}
use Rattle.sim_3_images.specs.PipeEncodings.{AreRead, over, standing}
use Rattle.sim_3_images.specs.WireEncodings.{WireEncodes}
use Rattle.sim_3_images.specs.WorldEncodings.{Begins, Both, DeviceEncodes, IsBegun, IsMoved, WireAt, WorldEncodes, framer_here, line_reported}
use Rattle.sim_3_images.proofs.ChangedLists.{all_changed, all_found}
use Rattle.sim_3_images.proofs.WiresFit.{all_emitted_fits, many_up_fits, outs_fit}
use Rattle.sim_3_images.specs.Fitting.{WireFits}
use Rattle.sim_3_images.specs.Stands.{OutPuts}
use Rattle.sim_3_items.specs.ItemMoves as items
use Rattle.sim_3_items.specs.ItemMoves.{ItemMove, step_of}
use Rattle.sim_3_items.specs.ItemPipes.{ItemWire}
use Rattle.sim_3_items.specs.ItemWorlds.{ItemDevice, ItemWorld, itself, read_of}
use Rattle.cmd_schedule.specs.declared.schedule.Count.{Count}
use Rattle.cmd_schedule.specs.declared.schedule.Count.TheVariants.{All, Number}
use Rattle.cmd_schedule.specs.declared.schedule.Version.{Version}
use Rattle.srv_core.specs.Events.{after_fault, at_piece, begun, dropped, fed, framer_at}
use Rattle.srv_core.specs.Table.{after_item, after_items}
use Rattle.law_server.proofs.TableRendered.{items_rendered}
use Rattle.law_server.specs.Rendered.{outs_rendered, server_state_rendered, step_rendered}
use Rattle.cmd_network.specs.Positions.{changed_at, changed_under}
use Rattle.cmd_network.specs.Takes.{take_reported}
use Rattle.cmd_network.specs.Wires.{amount, handed_up}
use Rattle.cmd_network.specs.declared.wire.Wire.{Wire}
use Rattle.net_pipes.specs.Pipes.{Pipe}
use Rattle.cmd_world.specs.Effects.{Effects, all_emitted, effects_of, emitted}
use Rattle.cmd_world.specs.Moves as bytes
use Rattle.cmd_world.specs.Moves.{Up, end_reported_up, server_after, served_by, step_of_piece, with_effects}
use Rattle.cmd_world.specs.Worlds.{ByteWorld, number_at}
use Rattle.cmd_world.proofs.Numbers.{many_all_emitted}
use Rattle.xml_writer.specs.Items.{ItemOut, written_item}

-- ---- the place of a header is not looked at

unplaced : {A : Type 0} (say : ItemOut → A) (k : ℕ) (l : List Item) (s : Step A) → after_items say k l s ≡ after_items say k (map (placed 0) l) s
unplaced say k [] s = refl
unplaced say k (i ∷ l) s = ap (after_items say k l) (item_unplaced say k i s) ∙ unplaced say k l (after_item say k (placed 0 i) s)

-- ---- lengths

length_under : {T : Type 0} (k : ℕ) (f : T → T) (l : List T) → length (changed_under k f l) ≡ length l
length_under zero f l = refl
length_under (suc q) f l = length_changed f l q

-- what was taken has the same lines
takes_emitted : (version : Version) (moment : ℕ) (outs : List (Out ItemOut)) (e : Effects) → (all_emitted version moment (outs_rendered written_item outs) e).takes ≡ e.takes ++ map (line_reported version) (items.takes_reported moment outs)
takes_emitted version moment [] e = sym (append-nil e.takes)
takes_emitted version moment (Put k i ∷ outs) e = takes_emitted version moment outs (emitted version moment (Put k (written_item i)) e)
takes_emitted version moment (Shut k ∷ outs) e = takes_emitted version moment outs (emitted version moment (Shut k) e)
takes_emitted version moment (Took from to origin ∷ outs) e =
    takes_emitted version moment outs (emitted version moment (Took from to origin) e) ∙ append_assoc e.takes (take_reported version moment from to origin ∷ []) (map (line_reported version) (items.takes_reported moment outs))

pub length_items_emitted : (outs : List (Out ItemOut)) (ps : List ItemWire) → length (items.all_emitted outs ps) ≡ length ps
length_items_emitted [] ps = refl
length_items_emitted (Put k i ∷ outs) ps = length_items_emitted outs (items.emitted (Put k i) ps) ∙ length_under k _ ps
length_items_emitted (Shut k ∷ outs) ps = length_items_emitted outs (items.emitted (Shut k) ps) ∙ length_under k _ ps
length_items_emitted (Took from to origin ∷ outs) ps = length_items_emitted outs ps

-- as many are dropped as there are
pub drop_taken : (n : ℕ) (l : List ItemOut) → drop n l ≡ drop (length (take n l)) l
drop_taken zero l = refl
drop_taken (suc n) [] = refl
drop_taken (suc n) (x ∷ l) = drop_taken n l

pub no_amount : (count : Count) (p : Pipe) → p.bytes ≡ [] → amount count p ≡ 0
no_amount (Number n) p none = ap (λ l. min n (length l)) none ∙ omega arith
no_amount All p none = ap length none

pub moved_joined : (a b : List ItemMove) (v : ItemWorld) → items.all_moved (a ++ b) v ≡ items.all_moved b (items.all_moved a v)
moved_joined [] b v = refl
moved_joined (m ∷ a) b v = moved_joined a b (items.moved m v)

-- ---- the server's step

-- a server that took a piece without a fault took its items
piece_is : (k : ℕ) (piece : List ℕ) (f now : State) (first : List Item) (taken : List ItemOut) (s : Step (List ℕ)) (t : Step ItemOut) → run (turn f []) piece ≡ turn now first → now.fault ≡ None → AreRead first taken → s ≡ step_rendered written_item t
    → at_piece written_item k piece (Some f) s ≡ step_rendered written_item (after_items itself k (map read_of taken) t)
piece_is k piece f now first taken s t run_is no_fault read same =
    ap (λ (u : Turn). after_fault written_item k u.state.fault (after_items written_item k u.items s)) run_is ∙ ap (λ o. after_fault written_item k o (after_items written_item k first s)) no_fault
    ∙ unplaced written_item k first s ∙ ap (λ l. after_items written_item k l s) read ∙ ap (after_items written_item k (map read_of taken)) same ∙ items_rendered written_item itself k (map read_of taken) t

module _ (UpFits DownFits : ItemOut → Type 0) (ServerFits : ℕ → ServerState ItemOut → Type 0) (ClientFits : ClientView ItemOut → Type 0) (cores : CoresFit UpFits DownFits ServerFits ClientFits) where
  record IsServedSo (position : ℕ) (count : Count) (w : ByteWorld) (v : ItemWorld) : Type 0 where
    moves : List ItemMove
    is_served : AreServedUps position moves
    read : (i : ℕ) → read_in (Up position count) w i ≡ all_item_reads moves v i
    given : (i : ℕ) → given_in (Up position count) w i ≡ map written_item (all_item_gives moves v i)
    encodes : WorldEncodes UpFits DownFits ServerFits ClientFits (served_by position count (slice_get w.wires position) w) (items.all_moved moves v)

  -- where the framer gives some first items
  module _ (position n : ℕ) (w : ByteWorld) (v : ItemWorld) (b : Wire) (p : ItemWire) (found : slice_get w.wires position ≡ Some b) (found_item : slice_get v.wires position ≡ Some p) (i : WorldEncodes UpFits DownFits ServerFits ClientFits w v)
      (f : State) (reader : framer_at (number_at position) w.server.framers ≡ Some f)
      (h : IsUpHanded UpFits DownFits cores.up_limits cores.down_limits f (framer_here position (slice_get w.devices b.device)) (writer_at (number_at position) v.server) b p n) (fit : AllByRecursion UpFits p.up.items) where
    abbrev piece : List ℕ
    piece = take n b.up.bytes

    abbrev taken : List ItemOut
    taken = take h.count p.up.items

    -- behind the look at the clock
    abbrev ticked : ItemWorld
    ticked = record v { moment = v.moment + 0; server = at_moment (v.moment + 0) v.server }

    abbrev done : Step ItemOut
    done = served position taken ticked.server

    same_moment : w.moment ≡ v.moment + 0
    same_moment = (let e = i.encoding.moment in omega (arith, e))

    abbrev many : ℕ
    many = length v.wires

    few : number_at position ≤ many
    few = (let within = slice_get_within v.wires position p found_item in omega (arith, within))

    ticked_fits : ServerFits many ticked.server
    ticked_fits = cores.moment many (v.moment + 0) v.server i.fits.server_state

    taken_fit : AllByRecursion UpFits taken
    taken_fit = all_taken UpFits h.count p.up.items fit

    comes : writer_at (number_at position) ticked.server ≡ Some phase.First → IsHeaded taken
    comes first = begun_headed h.count p.up (i.begins position p found_item first)

    done_is : step_of_piece (number_at position) piece w.moment w.server ≡ step_rendered written_item done
    done_is =
        ap (λ o. at_piece written_item (number_at position) piece o (begun w.moment w.server.server_state [])) reader
        ∙ piece_is (number_at position) piece f h.now h.first taken (begun w.moment w.server.server_state []) (step_of ticked.server) h.run_is h.no_fault h.read
        (ap (λ x. record { server_state = x; outs = [] }) (ap₂ at_moment same_moment i.encoding.server_state ∙ moment_rendered written_item (v.moment + 0) v.server))

    abbrev framers_now : List (ℕ × State)
    framers_now = set_value (is_number (number_at position)) w.server.framers h.now

    -- the connections before anything is put out
    abbrev Handed : ℕ → Wire → ItemWire → Type 0
    Handed q c r = WireEncodes (framer_at (number_at q) framers_now) (framer_here q (slice_get w.devices c.device)) (writer_at (number_at q) ticked.server) c r

    many_is : many_up h.count p ≡ many_up (length taken) p
    many_is = ap (λ l. record p { up = record p.up { items = l } }) (drop_taken h.count p.up.items)

    handed_here : Both (Handed position) (option_map (handed_up n) (slice_get w.wires position)) (option_map (many_up (length taken)) (slice_get v.wires position))
    handed_here =
        subst (λ o. Both (Handed position) (option_map (handed_up n) o) (option_map (many_up (length taken)) (slice_get v.wires position))) (sym found)
        (subst (λ o. Both (Handed position) (Some (handed_up n b)) (option_map (many_up (length taken)) o)) (sym found_item)
        (subst (Handed position (handed_up n b)) many_is
        (subst (λ r. WireEncodes r (framer_here position (slice_get w.devices b.device)) (writer_at (number_at position) v.server) (handed_up n b) (many_up h.count p)) (sym (found_after_value (number_at position) w.server.framers f h.now reader)) h.encodes)))

    handed_there : (q : ℕ) → (q ≡ position → ⊥) → (c : Wire) (r : ItemWire) → WireAt w v q c r → Handed q c r
    handed_there q other c r x =
        subst (λ o. WireEncodes o (framer_here q (slice_get w.devices c.device)) (writer_at (number_at q) v.server) c r) (sym (found_after_other_value (number_at q) (number_at position) w.server.framers h.now (number_apart q position other))) x

    handed_all : (q : ℕ) → Both (Handed q) (slice_get (slice_set w.wires position (handed_up n b)) q) (slice_get (changed_at position (many_up (length taken)) v.wires) q)
    handed_all q =
        subst (λ l. Both (Handed q) (slice_get l q) (slice_get (changed_at position (many_up (length taken)) v.wires) q)) (sym (set_changes (handed_up n) w.wires position b (handed_up n b) found refl))
        (both_changed (WireAt w v) Handed (handed_up n) (many_up (length taken)) w.wires v.wires position handed_here handed_there i.encoding.wires q)

    abbrev before : Effects
    before = effects_of (slice_set w.wires position (handed_up n b)) w.takes

    -- the world of bytes, by what the server of items does
    abbrev after_it : ByteWorld
    after_it = record w {
      server = record { server_state = server_state_rendered written_item done.server_state; framers = dropped (outs_rendered written_item done.outs) framers_now };
      wires = (all_emitted w.version w.moment (outs_rendered written_item done.outs) before).wires;
      takes = (all_emitted w.version w.moment (outs_rendered written_item done.outs) before).takes;
    }

    bytes_is : bytes.served position n b w ≡ after_it
    bytes_is =
        ap (λ s. with_effects (server_after (number_at position) piece w.server s) (all_emitted w.version w.moment s.outs before) w) done_is
        ∙ ap (λ o. record after_it { server = record { server_state = server_state_rendered written_item done.server_state; framers = dropped (outs_rendered written_item done.outs) (fed_by o) } }) reader
        ∙ ap (λ (u : Turn). record after_it { server = record { server_state = server_state_rendered written_item done.server_state; framers = dropped (outs_rendered written_item done.outs) (set_value (is_number (number_at position)) w.server.framers u.state) } }) h.run_is
      where
        fed_by : Option State → List (ℕ × State)
        fed_by o = fed (number_at position) piece o w.server.framers

    abbrev handed_items : List ItemWire
    handed_items = changed_at position (many_up (length taken)) v.wires

    now_begins : Begins (items.all_emitted done.outs handed_items) done.server_state
    now_begins q r there first = elim (cases_eq q position) [
      | inl same ↦
          let none : taken ≡ [] = served_opened UpFits DownFits ServerFits ClientFits cores many position taken ticked.server few ticked_fits taken_fit comes (ap (λ j. writer_at (number_at j) done.server_state) (sym same) ∙ first) in
          let unchanged : handed_items ≡ v.wires = ap (λ l. changed_at position (many_up (length l)) v.wires) none ∙ changed_none (many_up 0) v.wires position (λ x. refl) in
          kept p (ap (slice_get handed_items) same ∙ ap (λ l. slice_get l position) unchanged ∙ found_item) (λ e. i.begins position p found_item (ap (λ j. writer_at (number_at j) v.server) (sym same) ∙ e))
      | inr other ↦
          let x = wire_there v.wires q within in
          kept x.0 (get_changed_other (many_up (length taken)) v.wires position q other ∙ x.1) (λ e. i.begins q x.0 x.1 e)
    ]
      where
        within : q < length v.wires
        within = (let has = slice_get_within (items.all_emitted done.outs handed_items) q r there in let same_length = length_items_emitted done.outs handed_items ∙ length_changed (many_up (length taken)) v.wires position in omega (arith, has, same_length))

        some_is : (x y : ItemWire) → Some x ≡ Some y → x ≡ y
        some_is x y e = cc

        none_is_not : (o : Option Phase) → o ≡ None → o ≡ Some phase.First → ⊥
        none_is_not o e f = cc

        -- what goes up there is as it was
        kept : (x : ItemWire) → slice_get handed_items q ≡ Some x → (writer_at (number_at q) v.server ≡ Some phase.First → IsBegun x.up) → IsBegun r.up
        kept x found_there begun =
            let order = served_in_order UpFits DownFits ServerFits ClientFits cores many position taken ticked.server (number_at q) few ticked_fits taken_fit comes in
            let after = up_after DownFits q done.outs (writer_at (number_at q) ticked.server) (writer_at (number_at q) done.server_state) handed_items x order found_there in
            let is : after.wire ≡ r = some_is after.wire r (sym after.found ∙ there) in
            elim after.is [
              | inl same ↦ subst IsBegun (sym same ∙ ap (λ (y : ItemWire). y.up) is) (begun (first_before DownFits (number_at q) done.outs (writer_at (number_at q) ticked.server) (writer_at (number_at q) done.server_state) order first))
              | inr gone ↦ absurd (none_is_not (writer_at (number_at q) done.server_state) gone.1 first)
            ]

    outs_fit_here : AllByRecursion (OutPuts DownFits) done.outs
    outs_fit_here =
        outs_fit DownFits done.outs (λ j. writer_at j ticked.server) (λ j. writer_at j done.server_state)
        (λ j. served_in_order UpFits DownFits ServerFits ClientFits cores many position taken ticked.server j few ticked_fits taken_fit comes)

    after_encodes : WorldEncodes UpFits DownFits ServerFits ClientFits after_it (at_once position taken ticked)
    after_encodes = record {
      encoding = record {
        moment = same_moment;
        server_state = refl;
        devices = i.encoding.devices;
        as_many = many_all_emitted w.version w.moment (outs_rendered written_item done.outs) before ∙ ap length (set_changes (handed_up n) w.wires position b (handed_up n b) found refl) ∙ length_changed (handed_up n) w.wires position
            ∙ i.encoding.as_many ∙ sym (length_items_emitted done.outs (changed_at position (many_up (length taken)) v.wires) ∙ length_changed (many_up (length taken)) v.wires position);
        wires = λ q. all_here UpFits DownFits cores.up_limits cores.down_limits q w.devices w.version w.moment done.outs framers_now (writer_at (number_at q) ticked.server) (writer_at (number_at q) done.server_state) before
            (changed_at position (many_up (length taken)) v.wires) (served_in_order UpFits DownFits ServerFits ClientFits cores many position taken ticked.server (number_at q) few ticked_fits taken_fit comes) (handed_all q);
        takes =
            takes_emitted w.version w.moment done.outs before
            ∙ ap₂ (λ l m. l ++ map (line_reported w.version) (items.takes_reported m done.outs)) i.encoding.takes same_moment
            ∙ sym (map-append (line_reported w.version) v.takes (items.takes_reported (v.moment + 0) done.outs));
      };
      fits = record {
        server_state = subst (λ n. ServerFits n done.server_state) (sym (length_items_emitted done.outs (changed_at position (many_up (length taken)) v.wires) ∙ length_changed (many_up (length taken)) v.wires position))
            (served_fits UpFits DownFits ServerFits ClientFits cores many position taken ticked.server few ticked_fits taken_fit comes);
        clients = i.fits.clients;
        wires = all_emitted_fits UpFits DownFits done.outs handed_items outs_fit_here (all_changed (WireFits UpFits DownFits) (many_up (length taken)) (many_up_fits UpFits DownFits (length taken)) position v.wires i.fits.wires);
      };
      begins = now_begins;
    }

    -- ---- what the server reads

    read_piece : read_of_piece (number_at position) piece (framer_at (number_at position) w.server.framers) (begun w.moment w.server.server_state []) ≡ read_along itself (number_at position) (map read_of taken) (step_of ticked.server)
    read_piece =
        ap (λ o. read_of_piece (number_at position) piece o (begun w.moment w.server.server_state [])) reader
        ∙ ap (λ (u : Turn). read_along written_item (number_at position) u.items (begun w.moment w.server.server_state [])) h.run_is
        ∙ read_unplaced written_item (number_at position) h.first (begun w.moment w.server.server_state []) ∙ ap (λ l. read_along written_item (number_at position) l (begun w.moment w.server.server_state [])) h.read
        ∙ ap (λ x. read_along written_item (number_at position) (map read_of taken) (record { server_state = x; outs = [] })) (ap₂ at_moment same_moment i.encoding.server_state ∙ moment_rendered written_item (v.moment + 0) v.server)
        ∙ read_rendered (number_at position) (map read_of taken) (step_of ticked.server)

    served_read : (count : Count) → amount count b.up ≡ n → (n == 0) ≡ false → b.device ≡ p.device → (j : ℕ) → read_in (Up position count) w j ≡ all_item_reads (items.Tick 0 ∷ ups position (length taken)) v j
    served_read count is some same j =
        ap (read_on position count j w) found
        ∙ ap (λ m. cond (b.device == j) (read_first (number_at position) m b.up.bytes w) []) is
        ∙ ap (λ (c : Bool). cond (b.device == j) (cond c [] (read_of_piece (number_at position) piece (framer_at (number_at position) w.server.framers) (begun w.moment w.server.server_state []))) []) some
        ∙ ap (λ l. cond (b.device == j) l []) read_piece
        ∙ ap (λ d. cond (d == j) (read_along itself (number_at position) (map read_of taken) (step_of ticked.server)) []) same
        ∙ sym (ups_read UpFits DownFits ServerFits ClientFits cores many position p.device j taken (drop h.count p.up.items) ticked p few found_item refl (sym (take-append-drop h.count p.up.items)) ticked_fits taken_fit comes)

    -- ---- what the server puts

    given_piece : (who : Account) → given_of_piece who (number_at position) piece (framer_at (number_at position) w.server.framers) (begun w.moment w.server.server_state []) ≡ map written_item (given_along itself is_put_as_stanza who (number_at position) (map read_of taken) (step_of ticked.server))
    given_piece who =
        ap (λ o. given_of_piece who (number_at position) piece o (begun w.moment w.server.server_state [])) reader
        ∙ ap (λ (u : Turn). given_along written_item begins_stanza who (number_at position) u.items (begun w.moment w.server.server_state [])) h.run_is
        ∙ given_unplaced written_item begins_stanza who (number_at position) h.first (begun w.moment w.server.server_state []) ∙ ap (λ l. given_along written_item begins_stanza who (number_at position) l (begun w.moment w.server.server_state [])) h.read
        ∙ ap (λ x. given_along written_item begins_stanza who (number_at position) (map read_of taken) (record { server_state = x; outs = [] })) (ap₂ at_moment same_moment i.encoding.server_state ∙ moment_rendered written_item (v.moment + 0) v.server)
        ∙ given_rendered who (number_at position) (map read_of taken) (step_of ticked.server)

    served_given : (count : Count) → amount count b.up ≡ n → (n == 0) ≡ false → (j : ℕ) → given_in (Up position count) w j ≡ map written_item (all_item_gives (items.Tick 0 ∷ ups position (length taken)) v j)
    served_given count is some j = by (slice_get w.devices j) (slice_get v.devices j) refl refl (i.encoding.devices j)
      where
        by : (od : Option DeviceState) (oe : Option ItemDevice) → slice_get w.devices j ≡ od → slice_get v.devices j ≡ oe → Both DeviceEncodes od oe → given_in (Up position count) w j ≡ map written_item (all_item_gives (items.Tick 0 ∷ ups position (length taken)) v j)
        by None None at at_item x = ap (λ o. given_on position count w o (slice_get w.wires position)) at ∙ sym (ap (map written_item) (nobody_given position (length taken) j ticked at_item))
        by None (Some e) at at_item x = absurd x
        by (Some d) None at at_item x = absurd x
        by (Some d) (Some e) at at_item x =
            ap (λ o. given_on position count w o (slice_get w.wires position)) at
            ∙ ap (given_on position count w (Some d)) found
            ∙ ap (λ m. given_first d.client.client.account (number_at position) m b.up.bytes w) is
            ∙ ap (λ (c : Bool). cond c [] (given_of_piece d.client.client.account (number_at position) piece (framer_at (number_at position) w.server.framers) (begun w.moment w.server.server_state []))) some
            ∙ given_piece d.client.client.account
            ∙ ap (λ who. map written_item (given_along itself is_put_as_stanza who (number_at position) (map read_of taken) (step_of ticked.server))) (ap (λ (c : ClientView (List ℕ)). c.account) x.client)
            ∙ ap (map written_item) (sym (ups_give UpFits DownFits ServerFits ClientFits cores many position j taken (drop h.count p.up.items) ticked p e at_item few found_item (sym (take-append-drop h.count p.up.items)) ticked_fits taken_fit comes))

    pub served_encodes : WorldEncodes UpFits DownFits ServerFits ClientFits (bytes.served position n b w) (items.all_moved (items.Tick 0 ∷ ups position (length taken)) v)
    served_encodes =
        subst (λ x. WorldEncodes UpFits DownFits ServerFits ClientFits x (items.all_moved (items.Tick 0 ∷ ups position (length taken)) v)) (sym bytes_is)
        (subst (WorldEncodes UpFits DownFits ServerFits ClientFits after_it) (sym (ups_are UpFits DownFits ServerFits ClientFits cores many position taken (drop h.count p.up.items) ticked p few found_item (sym (take-append-drop h.count p.up.items)) ticked_fits taken_fit comes)) after_encodes)

  served_so : (position : ℕ) (count : Count) (w : ByteWorld) (v : ItemWorld) → WorldEncodes UpFits DownFits ServerFits ClientFits w v → IsServedSo position count w v
  served_so position count w v i = by (slice_get w.wires position) refl
    where
      nothing : (x : ByteWorld) → x ≡ w → WorldEncodes UpFits DownFits ServerFits ClientFits x v
      nothing x e = subst (λ y. WorldEncodes UpFits DownFits ServerFits ClientFits y v) (sym e) i

      -- nothing is read where the server isn't called
      unread : (b : Wire) → slice_get w.wires position ≡ Some b → (amount count b.up == 0) ≡ true → (j : ℕ) → read_in (Up position count) w j ≡ []
      unread b found none j =
          ap (read_on position count j w) found
          ∙ ap (λ (c : Bool). cond (b.device == j) (cond c [] (read_of_piece (number_at position) (take (amount count b.up) b.up.bytes) (framer_at (number_at position) w.server.framers) (begun w.moment w.server.server_state []))) []) none
          ∙ either (b.device == j)
        where
          either : (c : Bool) → cond {A = List ItemOut} c [] [] ≡ []
          either true = refl
          either false = refl

      -- and nothing put
      for_none : ((d : DeviceState) → given_on position count w (Some d) (slice_get w.wires position) ≡ []) → (j : ℕ) → given_in (Up position count) w j ≡ []
      for_none each j = of (slice_get w.devices j)
        where
          of : (o : Option DeviceState) → given_on position count w o (slice_get w.wires position) ≡ []
          of None = refl
          of (Some d) = each d

      ungiven : (b : Wire) → slice_get w.wires position ≡ Some b → (amount count b.up == 0) ≡ true → (j : ℕ) → given_in (Up position count) w j ≡ []
      ungiven b found none =
          for_none (λ d. ap (given_on position count w (Some d)) found
          ∙ ap (λ (c : Bool). cond c [] (given_of_piece d.client.client.account (number_at position) (take (amount count b.up) b.up.bytes) (framer_at (number_at position) w.server.framers) (begun w.moment w.server.server_state []))) none)

      some : (b : Wire) → slice_get w.wires position ≡ Some b → (e : Bool) → (amount count b.up == 0) ≡ e → IsServedSo position count w v
      some b found true none = record {
        moves = [];
        is_served = inl refl;
        read = unread b found none;
        given = ungiven b found none;
        encodes = nothing (served_by position count (slice_get w.wires position) w) (ap (λ o. served_by position count o w) found ∙ ap (λ (e : Bool). cond e w (bytes.served position (amount count b.up) b w)) none);
      }
      some b found false few =
          let other = found_both (WireAt w v position) b (slice_get w.wires position) (slice_get v.wires position) found (i.encoding.wires position) in
          let p = other.other in
          let x = other.holds in
          let n = amount count b.up in
          let fit : WireFits UpFits DownFits p = all_found (WireFits UpFits DownFits) v.wires position p other.is i.fits.wires in
          let is : served_by position count (slice_get w.wires position) w ≡ bytes.served position n b w = ap (λ o. served_by position count o w) found ∙ ap (λ (e : Bool). cond e w (bytes.served position n b w)) few in
          elim x.up.carried [
            | over o ↦ absurd (true≢false (sym (ap (λ m. m == 0) (no_amount count b.up o.no_bytes)) ∙ few))
            | standing f reader st ↦
                let h = wire_up UpFits DownFits cores.up_limits cores.down_limits f (framer_here position (slice_get w.devices b.device)) (writer_at (number_at position) v.server) b p n st
                (subst (λ r. WireEncodes r (framer_here position (slice_get w.devices b.device)) (writer_at (number_at position) v.server) b p) reader x) in
                record {
                  moves = items.Tick 0 ∷ ups position (length (take h.count p.up.items));
                  is_served = inr (length (take h.count p.up.items), refl);
                  read = served_read position n w v b p found other.is i f reader h fit.up count refl few x.device;
                  given = served_given position n w v b p found other.is i f reader h fit.up count refl few;
                  encodes = subst (λ y. WorldEncodes UpFits DownFits ServerFits ClientFits y (items.all_moved (items.Tick 0 ∷ ups position (length (take h.count p.up.items))) v)) (sym is) (served_encodes position n w v b p found other.is i f reader h fit.up);
                }
          ]

      by : (o : Option Wire) → slice_get w.wires position ≡ o → IsServedSo position count w v
      by None found = record { moves = []; is_served = inl refl; read = λ j. ap (read_on position count j w) found; given = for_none (λ d. ap (given_on position count w (Some d)) found); encodes = nothing (served_by position count (slice_get w.wires position) w) (ap (λ o. served_by position count o w) found) }
      by (Some b) found = some b found (amount count b.up == 0) refl

  pub up_is : (position : ℕ) (count : Count) (w : ByteWorld) (v : ItemWorld) → WorldEncodes UpFits DownFits ServerFits ClientFits w v → IsMoved UpFits DownFits ServerFits ClientFits (Up position count) w v
  up_is position count w v i =
      let a = served_so position count w v i in
      let z = end_is UpFits DownFits ServerFits ClientFits cores position (served_by position count (slice_get w.wires position) w) (items.all_moved a.moves v) a.encodes in
      record {
        moves = a.moves ++ moved_where (items.UpEnd position) z.ended;
        is_run = (a.moves, z.ended, a.is_served, refl);
        encodes = subst (WorldEncodes UpFits DownFits ServerFits ClientFits (end_reported_up position (served_by position count (slice_get w.wires position) w))) (sym (moved_joined a.moves (moved_where (items.UpEnd position) z.ended) v)) z.encodes;
        notes = up_noted position count w a.moves z.ended v a.is_served;
        reads = λ j. a.read j ∙ sym (up_end_read position a.moves z.ended v j);
        gives = λ j. a.given j ∙ sym (ap (map written_item) (up_end_gives position a.moves z.ended v j));
      }
