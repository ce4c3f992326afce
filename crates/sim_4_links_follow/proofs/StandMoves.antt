-- Moves of a world keep its server standing with the connections that were dialled.
use Rattle.std.proofs.Common.{◌≡◌, ℕ, ◌+◌, ◌≤◌, Bool, true, false, cond, List, [], ◌∷◌, Option, Some, None, Result, Ok, Err, length, slice_get, refl, sym, subst, ◌∙◌}
use Rattle.std.specs.List.{AllByRecursion, find}
use Rattle.std.specs.Map.{lookup}
use Rattle.std.specs.Option.{option_map}
use Rattle.cl_core.specs.UserCalls.{catch_up_answer, catches_up, closes, say_answer, says}
use Rattle.cl_handlers.specs.Clients.{ClientStep}
use Rattle.cl_handlers.specs.Speech.{in_items}
use Rattle.sim_4_links_follow.specs.Following.{AreDialled}
use Rattle.srv_state.specs.Moments.{at_moment, gone_at, with_fresh}
use Rattle.srv_state.specs.State.{is_number}
use Rattle.srv_state.specs.declared.connection.Connection.{Connection}
use Rattle.xml_framer.specs.declared.states.Phase.TheVariants as framing
use Rattle.sim_3_images.proofs.Lookups.{number_is}
use Rattle.sim_3_images.proofs.ServersInOrder.{after_item_calm, fresh_stands, gone_stands, moment_stands, start_stands}
use Rattle.sim_3_images.proofs.UpMoves.{length_items_emitted}
use Rattle.sim_3_images.proofs.UserMoves.{length_where}
use Rattle.sim_3_images.specs.EncodingsCores.{MayCome, writer_at, writer_of}
use Rattle.sim_3_images.specs.ItemStarts.{items_at_start}
use Rattle.sim_3_images.specs.Stands.{Conns, IsAfter, ServerStateStands, SessionStands}
use Rattle.sim_3_items.specs.ItemMoves.{Close, CatchUp, Cut, Dial, Down, DownEnd, Forget, ItemMove, Say, Tick, Up, UpEnd, at_device, at_wire, caught_up_by, closed_by, dialed_by, end_heard, fed_of, forgot_by, has_wire, heard_first, moved, said_by, said_in, served_by, served_first, spoke, step_of, reported_up}
use Rattle.sim_3_items.specs.ItemPipes.{ItemWire, cut_at, down_end_reported, handed_up, is_end_due, left, put_up, up_end_reported}
use Rattle.sim_3_items.specs.ItemWorlds.{ItemDevice, ItemWorld, itself, read_of, silent_client_step}
use Rattle.sm_live.specs.Sessions.{Session, is_at, session_at}
use Rattle.cmd_schedule.specs.Schedules.{WireView}
use Rattle.srv_core.specs.Table.{after_item}
use Rattle.sim_3_images.proofs.RuleKept.{found_is, seat_is}
use Rattle.sim_3_images.proofs.WorldsWithin.{dialed_many}
use Rattle.cmd_network.specs.Positions.{changed_at, changed_where}
use Rattle.sim_4_links_follow.specs.Standing.{MayGoUp, ServerStands}
use Rattle.xml_writer.specs.Items.{ItemOut}

-- ---- as many connections

abbrev Goes : ItemWorld → ItemWorld → Type 0
Goes w v = ServerStands w → ServerStands v

same_many : (w v : ItemWorld) → length v.wires ≡ length w.wires → ((n : ℕ) → ServerStateStands n w.server → ServerStateStands n v.server) → Goes w v
same_many w v same server stands = subst (λ n. ServerStateStands n v.server) (sym same) (server (length w.wires) stands)

-- and the server is as it was
quiet : (w v : ItemWorld) → length v.wires ≡ length w.wires → v.server ≡ w.server → Goes w v
quiet w v same server = same_many w v same (λ n stands. subst (ServerStateStands n) (sym server) stands)

either : (w : ItemWorld) (b : Bool) (u v : ItemWorld) → Goes w u → Goes w v → Goes w (cond b u v)
either w true u v here there = here
either w false u v here there = there

-- ---- moves

dials_go : (position : ℕ) (mine yours : List ℕ) (o : Option ItemDevice) (w : ItemWorld) → Goes w (dialed_by position mine yours o w)
dials_go position mine yours None w stands = stands
dials_go position mine yours (Some d) w stands =
    subst (λ n. ServerStateStands n (with_fresh (length w.wires + 1) yours (at_moment w.moment w.server))) (sym (dialed_many position mine d w))
    (fresh_stands (length w.wires) yours (at_moment w.moment w.server) (moment_stands (length w.wires) w.moment w.server stands))

forgets_go : (position : ℕ) (o : Option ItemDevice) (w : ItemWorld) → Goes w (forgot_by position o w)
forgets_go position None w stands = stands
forgets_go position (Some d) w stands = quiet w (forgot_by position (Some d) w) (length_where d.here left w.wires) refl stands

closes_go : (position : ℕ) (o : Option ItemDevice) (w : ItemWorld) → Goes w (closed_by position o w)
closes_go position None w stands = stands
closes_go position (Some d) w stands =
    let put = (closes in_items (fed_of d.client)).turn.out.put in
    quiet w (closed_by position (Some d) w) (length_where d.here left (changed_where d.here (put_up put) w.wires) ∙ length_where d.here (put_up put) w.wires) refl stands

spoken_go : {T E : Type 0} (r : Result T E) (position : ℕ) (d : ItemDevice) (t : ClientStep ItemOut ItemOut) (w : ItemWorld) → Goes w (said_in r position d t w)
spoken_go (Ok done) position d t w stands = quiet w (spoke position d t w) (length_where d.here (put_up t.out.put) w.wires) refl stands
spoken_go (Err fault) position d t w stands = stands

says_go : (position : ℕ) (to text : List ℕ) (private : Bool) (o : Option ItemDevice) (w : ItemWorld) → Goes w (said_by position to text private o w)
says_go position to text private None w stands = stands
says_go position to text private (Some d) w stands = spoken_go (say_answer d.client text) position d (says in_items (silent_client_step d.client) to text private) w stands

catches_go : (position most : ℕ) (o : Option ItemDevice) (w : ItemWorld) → Goes w (caught_up_by position most o w)
catches_go position most None w stands = stands
catches_go position most (Some d) w stands = spoken_go (catch_up_answer d.client) position d (catches_up in_items (silent_client_step d.client) most) w stands

-- what comes there may come
first_goes : (position : ℕ) (items : List ItemOut) (w : ItemWorld) → ((i : ItemOut) (rest : List ItemOut) → items ≡ i ∷ rest → MayCome (writer_at (position + 1) w.server) i) → Goes w (served_first position items w)
first_goes position [] w may stands = stands
first_goes position (i ∷ items) w may stands =
    same_many w (served_first position (i ∷ items) w) (length_items_emitted (after_item itself (position + 1) (read_of i) (step_of w.server)).outs (changed_at position handed_up w.wires) ∙ length_where (Some position) handed_up w.wires)
    (λ n old. (after_item_calm n (position + 1) i w.server old (may i items refl)).stands) stands

served_goes : (position : ℕ) (o : Option ItemWire) (w : ItemWorld) → ((wire : ItemWire) (i : ItemOut) (rest : List ItemOut) → o ≡ Some wire → wire.up.items ≡ i ∷ rest → MayCome (writer_at (position + 1) w.server) i) → Goes w (served_by position o w)
served_goes position None w may stands = stands
served_goes position (Some wire) w may stands = first_goes position wire.up.items w (λ i rest first. may wire i rest refl first) stands

told_goes : (position : ℕ) (o : Option ItemWire) (w : ItemWorld) → Goes w (reported_up position o w)
told_goes position None w stands = stands
told_goes position (Some wire) w stands =
    either w (is_end_due wire.up) ended w
    (same_many w ended (length_where (Some position) up_end_reported w.wires) (λ n old. gone_stands n (position + 1) (at_moment w.moment w.server) (moment_stands n w.moment w.server old)))
    (λ old. old) stands
  where
    ended : ItemWorld
    ended = record w { server = gone_at (position + 1) (at_moment w.moment w.server); wires = changed_at position up_end_reported w.wires }

heard_goes : (position device : ℕ) (items : List ItemOut) (d : ItemDevice) (w : ItemWorld) → Goes w (heard_first position device items d w)
heard_goes position device [] d w stands = stands
heard_goes position device (i ∷ items) d w stands = quiet w (heard_first position device (i ∷ items) d w) (length_where (Some position) _ w.wires) refl stands

end_goes : (position device : ℕ) (due : Bool) (d : ItemDevice) (w : ItemWorld) → Goes w (end_heard position device due d w)
end_goes position device false d w stands = stands
end_goes position device true d w stands = quiet w (end_heard position device true d w) (length_where (Some position) down_end_reported w.wires) refl stands

at_device_goes : (position : ℕ) (f : ItemWire → ItemDevice → ItemWorld → ItemWorld) → ((wire : ItemWire) (d : ItemDevice) (w : ItemWorld) → Goes w (f wire d w)) → (wire : ItemWire) (o : Option ItemDevice) (w : ItemWorld)
    → Goes w (at_device position f wire o w)
at_device_goes position f each wire None w stands = stands
at_device_goes position f each wire (Some d) w stands = either w (has_wire position d.here) (f wire d w) w (each wire d w) (λ old. old) stands

at_wire_goes : (position : ℕ) (f : ItemWire → ItemDevice → ItemWorld → ItemWorld) → ((wire : ItemWire) (d : ItemDevice) (w : ItemWorld) → Goes w (f wire d w)) → (o : Option ItemWire) (w : ItemWorld) → Goes w (at_wire position f o w)
at_wire_goes position f each None w stands = stands
at_wire_goes position f each (Some wire) w stands = at_device_goes position f each wire (slice_get w.devices wire.device) w stands

pub move_stands : (m : ItemMove) (w : ItemWorld) → MayGoUp m w → ServerStands w → ServerStands (moved m w)
move_stands (Dial device mine yours) w may stands = dials_go device mine yours (slice_get w.devices device) w stands
move_stands (Forget device) w may stands = forgets_go device (slice_get w.devices device) w stands
move_stands (Close device) w may stands = closes_go device (slice_get w.devices device) w stands
move_stands (Say device to text private) w may stands = says_go device to text private (slice_get w.devices device) w stands
move_stands (CatchUp device most) w may stands = catches_go device most (slice_get w.devices device) w stands
move_stands (Tick milliseconds) w may stands = moment_stands (length w.wires) (w.moment + milliseconds) w.server stands
move_stands (Up position) w may stands = served_goes position (slice_get w.wires position) w may stands
move_stands (UpEnd position) w may stands = told_goes position (slice_get w.wires position) w stands
move_stands (Down position) w may stands =
    at_wire_goes position (λ wire d. heard_first position wire.device wire.down.items d) (λ wire d v. heard_goes position wire.device wire.down.items d v) (slice_get w.wires position) w stands
move_stands (DownEnd position) w may stands =
    at_wire_goes position (λ wire d. end_heard position wire.device (is_end_due wire.down) d) (λ wire d v. end_goes position wire.device (is_end_due wire.down) d v) (slice_get w.wires position) w stands
move_stands (Cut position up down) w may stands = quiet w (moved (Cut position up down) w) (length_where (Some position) (cut_at up down) w.wires) refl stands

pub start_is : (schedule : WireView) → ServerStands (items_at_start schedule)
start_is schedule = start_stands 0 _ _ _

-- ---- numbers of connections

-- what is found is among them
found_all : {A : Type 0} (P : A → Type 0) (p : A → Bool) (l : List A) (x : A) → find p l ≡ Some x → AllByRecursion P l → P x
found_all P p [] x is all = absurd (let no_way : ⊥ = cc in no_way)
found_all P p (y ∷ l) x is all = by (λ there. found_all P p l x there all.1) (p y) is
  where
    by : (find p l ≡ Some x → P x) → (b : Bool) → cond b (Some y) (find p l) ≡ Some x → P x
    by rest true here = let same : y ≡ x = cc in subst P same all.0
    by rest false there = rest there

-- a connection that writes is one of these
open_below : (n k : ℕ) (conns : Conns) (x : Connection) → AllByRecursion (λ (e : ℕ × Connection). e.0 ≤ n) conns → lookup (is_number k) conns ≡ Some x → k ≤ n
open_below n k [] x few is = absurd (let no_way : ⊥ = cc in no_way)
open_below n k (e ∷ conns) x few is = by (λ there. open_below n k conns x few.1 there) (is_number k e.0) refl is
  where
    by : (lookup (is_number k) conns ≡ Some x → k ≤ n) → (b : Bool) → is_number k e.0 ≡ b → cond b (Some e.1) (lookup (is_number k) conns) ≡ Some x → k ≤ n
    by rest true same here = subst (λ m. m ≤ n) (sym (number_is k e.0 same)) few.0
    by rest false other there = rest there

after_below : (n k : ℕ) (conns : Conns) → AllByRecursion (λ (e : ℕ × Connection). e.0 ≤ n) conns → IsAfter conns (Some k) → k ≤ n
after_below n k conns few following = go (lookup (is_number k) conns) refl following
  where
    go : (o : Option Connection) → lookup (is_number k) conns ≡ o → option_map writer_of o ≡ Some framing.Between → k ≤ n
    go None is none = absurd (let no_way : ⊥ = cc in no_way)
    go (Some x) is some = open_below n k conns x few is

pub stands_dialled : (w : ItemWorld) → ServerStands w → AreDialled (length w.wires) w.server
stands_dialled w stands = record { conns = stands.few; seats = seats }
  where
    seats : (k : ℕ) (s : Session ItemOut) → session_at k w.server.sessions ≡ Some s → k ≤ length w.wires
    seats k s is =
        let one : SessionStands w.server.conns s = found_all (SessionStands w.server.conns) (is_at k) w.server.sessions s is stands.sessions in
        let on : s.shown.conn ≡ Some k = seat_is s.shown.conn k (found_is (is_at k) w.server.sessions s is) in
        after_below (length w.wires) k w.server.conns stands.few (subst (IsAfter w.server.conns) on one.on)
