-- Where the server has no connection at a place, what is handed to it there changes nothing.
use Rattle.std.proofs.Common.{◌≡◌, ◌≢◌, ◌⊎◌, ℕ, zero, suc, ◌==◌, max, Bool, true, false, cond, List, [], ◌∷◌, Option, None, Some, refl, sym, ap, ◌∙◌, subst, inl, inr}
use Rattle.std.proofs.Math.Nat.{max-eq_left, le-max_right}
use Rattle.std.proofs.lemmas.Bool.Decides.{eqb_tells}
use Rattle.std.proofs.lemmas.Option.{none-some}
use Rattle.std.specs.List.{AllByRecursion, filter, slice_get, slice_set}
use Rattle.std.specs.Map.{lookup, remove_entry}
use Rattle.std.specs.Option.{option_map}
use Rattle.std.specs.Prelude.{not, take}
use Rattle.base_lemmas.proofs.Lists.{AllByRecursion-weaker}
use Rattle.srv_state.specs.Moments.{at_moment, gone_at}
use Rattle.srv_state.specs.State.{ServerState, Step, conn_at, is_number}
use Rattle.srv_state.specs.Steps.{acted}
use Rattle.srv_state.specs.Streams.{standing_of}
use Rattle.xml_framer.specs.States as framing
use Rattle.xml_framer.specs.States.{Turn}
use Rattle.xml_framer.specs.declared.fault.Fault.{Fault}
use Rattle.xml_framer.specs.declared.items.Item.{Item}
use Rattle.sim_3_images.proofs.ConnsKept.{removed_none}
use Rattle.sim_3_images.proofs.Lookups.{found_after_removal}
use Rattle.sim_3_images.specs.EncodingsCores.{writer_of}
use Rattle.sim_3_images.specs.Stands.{Conns, Differ, IsAfter, SessionStands}
use Rattle.sm_live.specs.Sessions as live
use Rattle.sm_live.specs.Sessions.{is_at, is_expired, lost, session_at, unexpired}
use Rattle.net_pipes.specs.Pipes.{is_end_due}
use Rattle.sm_resumption.specs.Rows.{is_some_number}
use Rattle.cmd_schedule.proofs.Lists.{all_filter, all_map}
use Rattle.cmd_schedule.specs.Schedules.{WireView}
use Rattle.cmd_schedule.specs.declared.schedule.Count.{Count}
use Rattle.sim_7_schedules.specs.Simulation.{Simulates}
use Rattle.srv_core.proofs.ItemRuns.{shut_stays}
use Rattle.srv_core.specs.Events.{after_fault, after_gone, after_turn, at_fault, at_piece, begun, framer_at, turn_of}
use Rattle.srv_core.specs.Table.{after_items}
use Rattle.law_server.specs.Rendered.{session_rendered}
use Rattle.sim_1_applications.specs.Devices as sessions
use Rattle.sim_7_schedules.specs.Untouched.{IsShutAt, IsUntouched}
use Rattle.cmd_network.specs.Wires.{amount, handed_up, up_end_reported}
use Rattle.cmd_network.specs.declared.wire.Wire.{Wire}
use Rattle.cmd_world.specs.Effects.{all_emitted, effects_of}
use Rattle.cmd_world.specs.Moves as moves
use Rattle.cmd_world.specs.Moves.{moved, reported_up, served, served_by, server_after, step_of_piece, with_effects}
use Rattle.cmd_world.specs.Worlds.{ByteWorld, number_at}
use Rattle.xml_writer.specs.Items.{written_item}

-- ---- lists

-- a list of which the first element passes, or doesn't
passed_step : {A : Type 0} (test : A → Bool) (x : A) (xs : List A) (b : Bool) → test x ≡ b → filter test (filter test xs) ≡ filter test xs → filter test (cond b (x ∷ filter test xs) (filter test xs)) ≡ cond b (x ∷ filter test xs) (filter test xs)
passed_step test x xs true e rest = ap (λ c. cond c (x ∷ filter test (filter test xs)) (filter test (filter test xs))) e ∙ ap (λ l. x ∷ l) rest
passed_step test x xs false e rest = rest

passed_twice : {A : Type 0} (test : A → Bool) (xs : List A) → filter test (filter test xs) ≡ filter test xs
passed_twice test [] = refl
passed_twice test (x ∷ xs) = passed_step test x xs (test x) refl (passed_twice test xs)

set_elsewhere : (ws : List Wire) (position other : ℕ) (b : Wire) → other ≢ position → slice_get (slice_set ws position b) other ≡ slice_get ws other
set_elsewhere [] position other b apart = refl
set_elsewhere (a ∷ ws) zero zero b apart = absurd (apart refl)
set_elsewhere (a ∷ ws) zero (suc other) b apart = refl
set_elsewhere (a ∷ ws) (suc position) zero b apart = refl
set_elsewhere (a ∷ ws) (suc position) (suc other) b apart = set_elsewhere ws position other b (λ e. apart (ap suc e))

-- ---- no session is on the connection

abbrev IsElsewhere : {A : Type 0} → ℕ → live.Session A → Type 0
IsElsewhere k t = is_at k t ≡ false

none_found : (k : ℕ) (ss : List (live.Session (List ℕ))) → AllByRecursion (IsElsewhere k) ss → session_at k ss ≡ None
none_found k [] all = refl
none_found k (t ∷ ss) all = ap (λ b. cond b (Some t) (session_at k ss)) all.0 ∙ none_found k ss all.1

after_others : (k : ℕ) (conns : Conns) → lookup (is_number k) conns ≡ None → (o : Option ℕ) → IsAfter conns o → is_some_number k o ≡ false
after_others k conns none None is = refl
after_others k conns none (Some j) is =
    elim (eqb_tells j k) [
      | inl same ↦ absurd (none-some _ (sym (ap (option_map writer_of) (ap (λ n. lookup (is_number n) conns) same.1 ∙ none)) ∙ is))
      | inr other ↦ other.0
    ]

-- ---- an item, and a fault, of a connection that isn't there

items_nothing : (k : ℕ) (items : List Item) (s : Step (List ℕ)) → conn_at k s.server_state ≡ None → after_items written_item k items s ≡ s
items_nothing k [] s none = refl
items_nothing k (i ∷ items) s none = ap (after_items written_item k items) (shut_stays written_item k i s none) ∙ items_nothing k items s none

fault_nothing : (k : ℕ) (fault : Option Fault) (s : Step (List ℕ)) → conn_at k s.server_state ≡ None → after_fault written_item k fault s ≡ s
fault_nothing k None s none = refl
fault_nothing k (Some f) s none = ap (λ o. acted written_item (at_fault written_item k f (option_map standing_of o) s.server_state) s) none

client_step_nothing : (k : ℕ) (t : Turn) (s : Step (List ℕ)) → conn_at k s.server_state ≡ None → after_turn written_item k t s ≡ s
client_step_nothing k t s none = ap (after_fault written_item k t.state.fault) (items_nothing k t.items s none) ∙ fault_nothing k t.state.fault s none

piece_nothing : (k : ℕ) (piece : List ℕ) (o : Option framing.State) (s : Step (List ℕ)) → conn_at k s.server_state ≡ None → at_piece written_item k piece o s ≡ s
piece_nothing k piece None s none = refl
piece_nothing k piece (Some f) s none = client_step_nothing k (turn_of piece f) s none

-- ---- what the server has, as time passes and it hears of the end

module _ (k m : ℕ) (h : ServerState (List ℕ)) (none : conn_at k h ≡ None) (differ : Differ h.conns) (free : AllByRecursion (IsElsewhere k) h.sessions) where
  record Same (g : ServerState (List ℕ)) : Type 0 where
    archives : g.archives ≡ h.archives
    conns : (j : ℕ) → conn_at j g ≡ conn_at j h
    sessions : (g.sessions ≡ h.sessions) ⊎ (g.sessions ≡ (at_moment m h).sessions)
    number : g.next ≡ h.next

  abbrev IsLater : ServerState (List ℕ) → Type 0
  IsLater g = (g ≡ h) ⊎ (g ≡ at_moment m h)

  later_same : (g : ServerState (List ℕ)) → IsLater g → Same g
  later_same g (inl e) = subst Same (sym e) (record { archives = refl; conns = λ j. refl; sessions = inl refl; number = refl })
  later_same g (inr e) = subst Same (sym e) (record { archives = refl; conns = λ j. refl; sessions = inr refl; number = refl })

  removed : (j : ℕ) → lookup (is_number j) (remove_entry (is_number k) h.conns) ≡ conn_at j h
  removed j =
      elim (eqb_tells j k) [
        | inl same ↦ subst (λ n. lookup (is_number n) (remove_entry (is_number k) h.conns) ≡ conn_at n h) (sym same.1) (removed_none k h.conns differ ∙ sym none)
        | inr other ↦ found_after_removal j k h.conns other.1
      ]

  gone_same : (g : ServerState (List ℕ)) → g.archives ≡ h.archives → g.conns ≡ h.conns → g.next ≡ h.next → g.sessions ≡ (at_moment m h).sessions → Same (gone_at k g)
  gone_same g archives conns number left =
      let unheld : session_at k g.sessions ≡ None = ap (session_at k) left ∙ none_found k (at_moment m h).sessions (all_filter (IsElsewhere k) (λ t. not (is_expired (max h.moment m) t)) h.sessions free) in
      record {
        archives = archives;
        conns = λ j. ap (λ es. lookup (is_number j) (remove_entry (is_number k) es)) conns ∙ removed j;
        sessions = inr (ap (λ o. lost g.moment o g.sessions) unheld ∙ left);
        number = number;
      }

  moment_twice : (at_moment m (at_moment m h)).sessions ≡ (at_moment m h).sessions
  moment_twice =
      ap (λ n. unexpired n (unexpired (max h.moment m) h.sessions)) (max-eq_left (le-max_right h.moment m))
      ∙ passed_twice (λ t. not (is_expired (max h.moment m) t)) h.sessions

  later_gone : (g : ServerState (List ℕ)) → IsLater g → Same (gone_at k (at_moment m g))
  later_gone g (inl e) = subst (λ x. Same (gone_at k (at_moment m x))) (sym e) (gone_same (at_moment m h) refl refl refl refl)
  later_gone g (inr e) = subst (λ x. Same (gone_at k (at_moment m x))) (sym e) (gone_same (at_moment m (at_moment m h)) refl refl refl moment_twice)

-- ---- a world

module _ (position : ℕ) (W : ByteWorld) (none : IsShutAt position W) (differ : Differ W.server.server_state.conns) (free : AllByRecursion (IsElsewhere (number_at position)) W.server.server_state.sessions) where
  abbrev h : ServerState (List ℕ)
  h = W.server.server_state

  record IsQuiet (v : ByteWorld) : Type 0 where
    server_state : IsLater (number_at position) W.moment h none differ free v.server.server_state
    moment : v.moment ≡ W.moment
    takes : v.takes ≡ W.takes
    devices : v.devices ≡ W.devices
    others : (other : ℕ) → other ≢ position → slice_get v.wires other ≡ slice_get W.wires other

  quiet_if : (b : Bool) (u v : ByteWorld) → IsQuiet u → IsQuiet v → IsQuiet (cond b u v)
  quiet_if true u v here there = here
  quiet_if false u v here there = there

  still : IsQuiet W
  still = record { server_state = inl refl; moment = refl; takes = refl; devices = refl; others = λ other apart. refl }

  abbrev world_after : ℕ → Wire → Step (List ℕ) → ByteWorld
  world_after n wire done =
      with_effects (server_after (number_at position) (take n wire.up.bytes) W.server done)
      (all_emitted W.version W.moment done.outs (effects_of (slice_set W.wires position (handed_up n wire)) W.takes)) W

  served_quiet : (n : ℕ) (wire : Wire) → IsQuiet (served position n wire W)
  served_quiet n wire =
      let k = number_at position in
      let done : step_of_piece k (take n wire.up.bytes) W.moment W.server ≡ begun W.moment h [] = piece_nothing k (take n wire.up.bytes) (framer_at k W.server.framers) (begun W.moment h []) none in
      subst (λ d. IsQuiet (world_after n wire d)) (sym done)
      (record { server_state = inr refl; moment = refl; takes = refl; devices = refl; others = λ other apart. set_elsewhere W.wires position other (handed_up n wire) apart })

  was_served : (count : Count) (o : Option Wire) → IsQuiet (served_by position count o W)
  was_served count None = still
  was_served count (Some wire) = quiet_if (amount count wire.up == 0) W (served position (amount count wire.up) wire W) still (served_quiet (amount count wire.up) wire)

  untouched_if : (b : Bool) (u v : ByteWorld) → IsUntouched position W u → IsUntouched position W v → IsUntouched position W (cond b u v)
  untouched_if true u v here there = here
  untouched_if false u v here there = there

  nothing : (v : ByteWorld) → IsQuiet v → IsUntouched position W v
  nothing v quiet =
      let same = later_same (number_at position) W.moment h none differ free v.server.server_state quiet.server_state in
      record { archives = same.archives; takes = quiet.takes; devices = quiet.devices; conns = same.conns; sessions = same.sessions; number = same.number; others = quiet.others }

  end_told : (v : ByteWorld) → IsQuiet v → (o : Option Wire) → IsUntouched position W (reported_up position o v)
  end_told v quiet None = nothing v quiet
  end_told v quiet (Some wire) =
      let k = number_at position in
      let gone = later_gone k W.moment h none differ free v.server.server_state quiet.server_state in
      let same = subst (λ m. Same k W.moment h none differ free (gone_at k (at_moment m v.server.server_state))) (sym quiet.moment) gone in
      untouched_if (is_end_due wire.up) (record v { server = after_gone k v.moment v.server; wires = slice_set v.wires position (up_end_reported wire) }) v
      (record {
        archives = same.archives;
        takes = quiet.takes;
        devices = quiet.devices;
        conns = same.conns;
        sessions = same.sessions;
        number = same.number;
        others = λ other apart. set_elsewhere v.wires position other (up_end_reported wire) apart ∙ quiet.others other apart;
      })
      (nothing v quiet)

pub untouched : (s : WireView) (W : ByteWorld) (x : sessions.AppWorld) → Simulates s W x → (position : ℕ) → IsShutAt position W → (count : Count) → IsUntouched position W (moved (moves.Up position count) W)
untouched s W x beside position shut count =
    let k = number_at position in
    let w = beside.items in
    let stands = beside.runs.in_bounds.stands in
    let none : lookup (is_number k) w.server.conns ≡ None = sym (ap (λ (g : ServerState (List ℕ)). conn_at k g) beside.encodes.encoding.server_state) ∙ shut in
    let differ = subst (λ (g : ServerState (List ℕ)). Differ g.conns) (sym beside.encodes.encoding.server_state) stands.differ in
    let all : AllByRecursion (IsElsewhere k) w.server.sessions = AllByRecursion-weaker (SessionStands w.server.conns) (IsElsewhere k) (λ t on. after_others k w.server.conns none t.shown.conn on.on) w.server.sessions stands.sessions in
    let free = subst (λ (g : ServerState (List ℕ)). AllByRecursion (IsElsewhere k) g.sessions) (sym beside.encodes.encoding.server_state) (all_map (IsElsewhere k) (session_rendered written_item) w.server.sessions all) in
    let v = served_by position count (slice_get W.wires position) W in
    end_told position W shut differ free v (was_served position W shut differ free count (slice_get W.wires position)) (slice_get v.wires position)
