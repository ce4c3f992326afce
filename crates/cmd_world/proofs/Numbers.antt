-- Only a device that dials makes a connection or a framer, and numbers are given in order. So each number that comes is fresh.
use Rattle.std.proofs.Common.{◌≡◌, ◌<◌, ◌≤◌, ◌+◌, ◌==◌, not, ℕ, Bool, true, false, zero, suc, List, [], ◌∷◌, length, take, Option, Some, None, ap, cond, refl, subst, sym, ◌∙◌, inl, inr, arith}
use Rattle.std.proofs.lemmas.Bool.{cases_Bool, false≢true}
use Rattle.std.proofs.lemmas.List.{length-append}
use Rattle.std.proofs.lemmas.Map.Lookups.{exact_unsigned}
use Rattle.std.specs.List.{slice_get, slice_set}
use Rattle.std.specs.BTreeMap.{insert_entry}
use Rattle.std.specs.Map.{lookup, remove_entry, set_value}
use Rattle.std.specs.Ordering.{is_eq, match_ordering, nat_cmp}
use Rattle.std.specs.declared.cmp.Ordering.{Ordering}
use Rattle.std.specs.declared.cmp.Ordering.TheVariants.{Equal, Greater, Less}
use Rattle.sm_acks.specs.declared.end.TheConstants.{MOST_UNACKNOWLEDGED}
use Rattle.mam_archive.specs.Entries.{EntryView}
use Rattle.xml_framer.specs.declared.fault.Fault.{Fault}
use Rattle.xml_framer.specs.declared.items.Item.{Item}
use Rattle.xml_framer.specs.Limits.{server_limits}
use Rattle.xml_framer.specs.States as framing
use Rattle.xml_framer.specs.States.{Turn}
use Rattle.sm_live.specs.Sessions.{info_of, waits, with_session, without}
use Rattle.sm_live.specs.declared.told.SessionInfo.{SessionInfo}
use Rattle.im_replies.specs.Streams.{error_item}
use Rattle.im_replies.specs.declared.conditions.StreamCondition.TheVariants.{ResourceConstraint}
use Rattle.srv_state.specs.Moments.{fresh_conn}
use Rattle.srv_state.specs.State.{Kept, Out, Put, ServerState, Shut, Step, Took, archive_at, changed, conn_at, is_number}
use Rattle.srv_state.specs.Steps.{Act, Acknowledge, Archive, Ask, Bind, Close, Copy, Enable, Enter, Fail, Handle, Present, Resume, Say, Send, Tell, act, acted, after_failure, archived_in, ask_where, in_phase, in_sessions, is_due, overflow, part_where, put_where, queue, send_by_info}
use Rattle.srv_state.specs.Streams.{standing_at}
use Rattle.srv_state.specs.declared.connection.Connection.{Connection}
use Rattle.cmd_network.specs.Devices.{DeviceState}
use Rattle.net_pipes.specs.Pipes.{is_end_due}
use Rattle.cmd_schedule.specs.declared.schedule.Count.{Count}
use Rattle.cmd_schedule.specs.declared.schedule.Version.{Version}
use Rattle.cmd_schedule.specs.declared.schedule.WireLine.{WireLine}
use Rattle.srv_core.specs.Events.{Framers, Whole, after_bytes, after_connect, after_fault, after_gone, after_turn, at_fault, at_piece, begun, dropped, dropped_at, fed, framer_at, news, turn_of}
use Rattle.srv_core.specs.Table.{after_item, after_items, at_open}
use Rattle.cmd_network.specs.Positions.{changed_at, changed_under, changed_where, position_under}
use Rattle.cmd_network.specs.Wires.{amount, handed_up, up_end_reported}
use Rattle.cmd_network.specs.declared.wire.Wire.{Wire}
use Rattle.cmd_world.specs.Effects.{Effects, all_emitted, effects_of, emitted}
use Rattle.cmd_world.specs.Lines.{moves_of, stepped}
use Rattle.cmd_world.specs.Moves as moves
use Rattle.cmd_world.specs.Moves.{Move, all_moved, caught_up_by, closed_by, dialed_by, down_by, down_to, forgot_by, moved, reported_up, said_by, served, served_by, server_after, step_of_piece}
use Rattle.cmd_world.specs.Standing.{Below, IsNumbered}
use Rattle.cmd_world.specs.Worlds.{ByteWorld, number_at, server_entropy}
use Rattle.xml_writer.specs.Items.{ItemOut, written_item}

-- ---- entries under numbers

below_more : {X : Type 0} (a b : ℕ) (es : List (ℕ × X)) → a ≤ b → Below a es → Below b es
below_more a b [] more below = tt
below_more a b (e ∷ es) more below = (omega (arith, below.0, more), below_more a b es more below.1)

below_if : {X : Type 0} (last : ℕ) (b : Bool) (xs ys : List (ℕ × X)) → Below last xs → Below last ys → Below last (cond b xs ys)
below_if last true xs ys p q = p
below_if last false xs ys p q = q

below_removed : {X : Type 0} (last : ℕ) (test : ℕ → Bool) (es : List (ℕ × X)) → Below last es → Below last (remove_entry test es)
below_removed last test [] below = tt
below_removed last test (e ∷ es) below =
    below_if last (test e.0) es (e ∷ remove_entry test es) below.1 (below.0, below_removed last test es below.1)

below_set : {X : Type 0} (last : ℕ) (test : ℕ → Bool) (es : List (ℕ × X)) (w : X) → Below last es → Below last (set_value test es w)
below_set last test [] w below = tt
below_set last test (e ∷ es) w below =
    below_if last (test e.0) ((e.0, w) ∷ es) (e ∷ set_value test es w) below (below.0, below_set last test es w below.1)

below_by : {X : Type 0} (last : ℕ) (r : Ordering) (xs ys zs : List (ℕ × X)) → Below last xs → Below last ys → Below last zs → Below last (match_ordering r xs ys zs)
below_by last Less xs ys zs p q r = p
below_by last Equal xs ys zs p q r = q
below_by last Greater xs ys zs p q r = r

below_inserted : {X : Type 0} (last k : ℕ) (v : X) (es : List (ℕ × X)) → k ≤ last → Below last es → Below last (insert_entry nat_cmp es k v)
below_inserted last k v [] within below = (within, tt)
below_inserted last k v (e ∷ es) within below =
    below_by last (nat_cmp k e.0) ((k, v) ∷ e ∷ es) ((e.0, v) ∷ es) (e ∷ insert_entry nat_cmp es k v)
    (within, below) below (below.0, below_inserted last k v es within below.1)

-- a number above the last has no entry
equal_is : (o : Ordering) → is_eq o ≡ true → o ≡ Equal
equal_is Less h = absurd (false≢true h)
equal_is Equal h = refl
equal_is Greater h = absurd (false≢true h)

number_is : (j n : ℕ) → is_number j n ≡ true → j ≡ n
number_is j n h = exact_unsigned j n (equal_is (nat_cmp j n) h)

absent_above : {X : Type 0} (last k : ℕ) (es : List (ℕ × X)) → last < k → Below last es → lookup (is_number k) es ≡ None
absent_above last k [] above below = refl
absent_above last k (e ∷ es) above below =
    elim (cases_Bool (is_number k e.0)) [
      | inl here ↦ (let same : k ≡ e.0 = number_is k e.0 here in absurd (omega (arith, same, below.0, above)))
      | inr other ↦ ap (λ b. cond b (Some e.1) (lookup (is_number k) es)) other ∙ absent_above last k es above below.1
    ]

-- ---- the small steps

abbrev IsBelow : {A : Type 0} → ℕ → Step A → Type 0
IsBelow last s = Below last s.server_state.conns

step_if : {A : Type 0} (last : ℕ) (b : Bool) (t u : Step A) → IsBelow last t → IsBelow last u → IsBelow last (cond b t u)
step_if last true t u p q = p
step_if last false t u p q = q

below_changed : (last k : ℕ) (f : Connection → Connection) (o : Option Connection) (es : List (ℕ × Connection)) → Below last es → Below last (changed k f o es)
below_changed last k f None es below = below
below_changed last k f (Some c) es below = below_set last (is_number k) es (f c) below

below_put_where : {A : Type 0} (last : ℕ) (o : Option ℕ) (a : A) (s : Step A) → IsBelow last s → IsBelow last (put_where o a s)
below_put_where last None a s below = below
below_put_where last (Some k) a s below = below

below_part_where : {A : Type 0} (say : ItemOut → A) (last : ℕ) (o : Option ℕ) (error : A) (s : Step A) → IsBelow last s → IsBelow last (part_where say o error s)
below_part_where say last None error s below = below
below_part_where say last (Some k) error s below = below_removed last (is_number k) s.server_state.conns below

below_ask_where : {A : Type 0} (say : ItemOut → A) (last n : ℕ) (o : Option ℕ) (b : Bool) (s : Step A) → IsBelow last s → IsBelow last (ask_where say n o b s)
below_ask_where say last n o false s below = below
below_ask_where say last n None true s below = below
below_ask_where say last n (Some k) true s below = below

below_queue : {A : Type 0} (say : ItemOut → A) (last n : ℕ) (a : A) (t : SessionInfo) (s : Step A) → IsBelow last s → IsBelow last (queue say n a t s)
below_queue say last n a t s below =
    below_ask_where say last n t.conn (is_due t) (put_where t.conn a (in_sessions (with_session n (waits a)) s))
    (below_put_where last t.conn a (in_sessions (with_session n (waits a)) s) below)

below_overflow : {A : Type 0} (say : ItemOut → A) (last n : ℕ) (t : SessionInfo) (s : Step A) → IsBelow last s → IsBelow last (overflow say n t s)
below_overflow say last n t s below =
    below_part_where say last t.conn (say (error_item ResourceConstraint)) (in_sessions (without n) s) below

below_send : {A : Type 0} (say : ItemOut → A) (last n : ℕ) (a : A) (o : Option SessionInfo) (s : Step A) → IsBelow last s → IsBelow last (send_by_info say n a o s)
below_send say last n a None s below = below
below_send say last n a (Some t) s below =
    step_if last (not t.counted) (put_where t.conn a s) (cond (t.waiting == MOST_UNACKNOWLEDGED) (overflow say n t s) (queue say n a t s)) (below_put_where last t.conn a s below)
    (step_if last (t.waiting == MOST_UNACKNOWLEDGED) (overflow say n t s) (queue say n a t s) (below_overflow say last n t s below) (below_queue say last n a t s below))

below_archived : {A : Type 0} (last : ℕ) (e : EntryView) (account : ℕ) (o : Option Kept) (h : ServerState A) → Below last h.conns → Below last (archived_in e account o h).conns
below_archived last e account None h below = below
below_archived last e account (Some kept) h below = below

-- one step makes no connection
below_act : {A : Type 0} (say : ItemOut → A) (last : ℕ) (a : Act A) (s : Step A) → IsBelow last s → IsBelow last (act say a s)
below_act say last (Say k a) s below = below
below_act say last (Close k) s below = below_removed last (is_number k) s.server_state.conns below
below_act say last (Enter k phase) s below = below_changed last k (in_phase phase) (conn_at k s.server_state) s.server_state.conns below
below_act say last (Fail k left) s below = below_changed last k (after_failure left) (conn_at k s.server_state) s.server_state.conns below
below_act say last (Bind account resource k) s below = below
below_act say last (Resume previd account h k) s below = below
below_act say last (Enable n resume) s below = below
below_act say last (Acknowledge n h) s below = below
below_act say last (Ask n on) s below = below
below_act say last (Handle n) s below = below
below_act say last (Present n available priority) s below = below
below_act say last (Copy n on) s below = below
below_act say last (Send n a) s below = below_send say last n a (info_of n s.server_state.sessions) s below
below_act say last (Archive account e) s below = below_archived last e account (archive_at account s.server_state) s.server_state below
below_act say last (Tell from to origin) s below = below

below_acted : {A : Type 0} (say : ItemOut → A) (last : ℕ) (acts : List (Act A)) (s : Step A) → IsBelow last s → IsBelow last (acted say acts s)
below_acted say last [] s below = below
below_acted say last (a ∷ more) s below = below_acted say last more (act say a s) (below_act say last a s below)

-- ---- the bytes of an event

below_items : {A : Type 0} (say : ItemOut → A) (last k : ℕ) (items : List Item) (s : Step A) → IsBelow last s → IsBelow last (after_items say k items s)
below_items say last k [] s below = below
below_items say last k (i ∷ items) s below =
    below_items say last k items (after_item say k i s) (below_acted say last (at_open say k i (standing_at k s.server_state) s.server_state) s below)

below_fault : {A : Type 0} (say : ItemOut → A) (last k : ℕ) (o : Option Fault) (s : Step A) → IsBelow last s → IsBelow last (after_fault say k o s)
below_fault say last k None s below = below
below_fault say last k (Some f) s below = below_acted say last (at_fault say k f (standing_at k s.server_state) s.server_state) s below

below_client_step : {A : Type 0} (say : ItemOut → A) (last k : ℕ) (t : Turn) (s : Step A) → IsBelow last s → IsBelow last (after_turn say k t s)
below_client_step say last k t s below = below_fault say last k t.state.fault (after_items say k t.items s) (below_items say last k t.items s below)

below_piece : {A : Type 0} (say : ItemOut → A) (last k : ℕ) (piece : List ℕ) (o : Option framing.State) (s : Step A) → IsBelow last s → IsBelow last (at_piece say k piece o s)
below_piece say last k piece None s below = below
below_piece say last k piece (Some f) s below = below_client_step say last k (turn_of piece f) s below

below_fed : (last k : ℕ) (piece : List ℕ) (o : Option framing.State) (framers : Framers) → Below last framers → Below last (fed k piece o framers)
below_fed last k piece None framers below = below
below_fed last k piece (Some f) framers below = below_set last (is_number k) framers (turn_of piece f).state below

below_dropped_at : {A : Type 0} (last : ℕ) (o : Out A) (framers : Framers) → Below last framers → Below last (dropped_at o framers)
below_dropped_at last (Put k a) framers below = below
below_dropped_at last (Shut k) framers below = below_removed last (is_number k) framers below
below_dropped_at last (Took from to origin) framers below = below

below_dropped : {A : Type 0} (last : ℕ) (outs : List (Out A)) (framers : Framers) → Below last framers → Below last (dropped outs framers)
below_dropped last [] framers below = below
below_dropped last (o ∷ outs) framers below = below_dropped last outs (dropped_at o framers) (below_dropped_at last o framers below)

-- ---- the server

-- no connection and no framer has a number above the last
abbrev IsUnder : ℕ → Whole (List ℕ) → Type 0
IsUnder last w = Below last w.server_state.conns × Below last w.framers

under_connect : (last k now : ℕ) (entropy : List ℕ) (w : Whole (List ℕ)) → last ≤ k → IsUnder last w → IsUnder k (after_connect k entropy now w)
under_connect last k now entropy w more under = (
  below_inserted k k (fresh_conn entropy) w.server_state.conns (omega arith) (below_more last k w.server_state.conns more under.0),
  below_inserted k k (framing.from_start server_limits) w.framers (omega arith) (below_more last k w.framers more under.1),
)

under_piece : (last k now : ℕ) (piece : List ℕ) (w : Whole (List ℕ)) → IsUnder last w → IsUnder last (server_after k piece w (step_of_piece k piece now w))
under_piece last k now piece w under =
    let framer = framer_at k w.framers in (
      below_piece written_item last k piece framer (begun now w.server_state []) under.0,
      below_dropped last (news [] (after_bytes written_item k piece now w []).outs) (fed k piece framer w.framers) (below_fed last k piece framer w.framers under.1),
    )

under_gone : (last k now : ℕ) (w : Whole (List ℕ)) → IsUnder last w → IsUnder last (after_gone k now w)
under_gone last k now w under = (below_removed last (is_number k) w.server_state.conns under.0, below_removed last (is_number k) w.framers under.1)

under_same : (a b : ℕ) (w : Whole (List ℕ)) → b ≡ a → IsUnder a w → IsUnder b w
under_same a b w same under = subst (λ n. IsUnder n w) (sym same) under

-- ---- as many connections

pub many_at : {T : Type 0} (position : ℕ) (f : T → T) (xs : List T) → length (changed_at position f xs) ≡ length xs
many_at position f [] = refl
many_at zero f (x ∷ xs) = refl
many_at (suc position) f (x ∷ xs) = ap (λ n. suc n) (many_at position f xs)

pub many_where : {T : Type 0} (o : Option ℕ) (f : T → T) (xs : List T) → length (changed_where o f xs) ≡ length xs
many_where None f xs = refl
many_where (Some position) f xs = many_at position f xs

many_under : {T : Type 0} (k : ℕ) (f : T → T) (xs : List T) → length (changed_under k f xs) ≡ length xs
many_under k f xs = many_where (position_under k) f xs

pub many_set : {T : Type 0} (xs : List T) (position : ℕ) (x : T) → length (slice_set xs position x) ≡ length xs
many_set [] position y = refl
many_set (x ∷ xs) zero y = refl
many_set (x ∷ xs) (suc position) y = ap (λ n. suc n) (many_set xs position y)

many_emitted : (version : Version) (moment : ℕ) (o : Out (List ℕ)) (e : Effects) → length (emitted version moment o e).wires ≡ length e.wires
many_emitted version moment (Put k bytes) e = many_under k _ e.wires
many_emitted version moment (Shut k) e = many_under k _ e.wires
many_emitted version moment (Took from to origin) e = refl

pub many_all_emitted : (version : Version) (moment : ℕ) (outs : List (Out (List ℕ))) (e : Effects) → length (all_emitted version moment outs e).wires ≡ length e.wires
many_all_emitted version moment [] e = refl
many_all_emitted version moment (o ∷ outs) e = many_all_emitted version moment outs (emitted version moment o e) ∙ many_emitted version moment o e

-- ---- moves

numbered_if : (b : Bool) (v w : ByteWorld) → IsNumbered v → IsNumbered w → IsNumbered (cond b v w)
numbered_if true v w p q = p
numbered_if false v w p q = q

numbered_dialed : (position : ℕ) (o : Option DeviceState) (w : ByteWorld) → IsNumbered w → IsNumbered (dialed_by position o w)
numbered_dialed position None w is = is
numbered_dialed position (Some d) w is =
    let next = number_at (length w.wires) in
    let more : length (dialed_by position (Some d) w).wires ≡ next = length-append (changed_where d.here _ w.wires) _ ∙ ap (λ n. n + 1) (many_where d.here _ w.wires) in
    under_same next (length (dialed_by position (Some d) w).wires) (dialed_by position (Some d) w).server more (under_connect (length w.wires) next w.moment (server_entropy next) w.server (omega arith) is)

numbered_forgot : (position : ℕ) (o : Option DeviceState) (w : ByteWorld) → IsNumbered w → IsNumbered (forgot_by position o w)
numbered_forgot position None w is = is
numbered_forgot position (Some d) w is = under_same (length w.wires) (length (forgot_by position (Some d) w).wires) w.server (many_where d.here _ w.wires) is

numbered_closed : (position : ℕ) (o : Option DeviceState) (w : ByteWorld) → IsNumbered w → IsNumbered (closed_by position o w)
numbered_closed position None w is = is
numbered_closed position (Some d) w is =
    under_same (length w.wires) (length (closed_by position (Some d) w).wires) w.server (many_where d.here _ (changed_where d.here _ w.wires) ∙ many_where d.here _ w.wires) is

numbered_said : (position line : ℕ) (to text : List ℕ) (private : Bool) (o : Option DeviceState) (w : ByteWorld) → IsNumbered w → IsNumbered (said_by position line to text private o w)
numbered_said position line to text private None w is = is
numbered_said position line to text private (Some d) w is = under_same (length w.wires) (length (said_by position line to text private (Some d) w).wires) w.server (many_where d.here _ w.wires) is

numbered_caught_up : (position line most : ℕ) (o : Option DeviceState) (w : ByteWorld) → IsNumbered w → IsNumbered (caught_up_by position line most o w)
numbered_caught_up position line most None w is = is
numbered_caught_up position line most (Some d) w is = under_same (length w.wires) (length (caught_up_by position line most (Some d) w).wires) w.server (many_where d.here _ w.wires) is

numbered_served : (position n : ℕ) (wire : Wire) (w : ByteWorld) → IsNumbered w → IsNumbered (served position n wire w)
numbered_served position n wire w is =
    let v = served position n wire w in
    let piece = take n wire.up.bytes in
    let outs = (step_of_piece (number_at position) piece w.moment w.server).outs in
    let same : length v.wires ≡ length w.wires =
    many_all_emitted w.version w.moment outs (effects_of (slice_set w.wires position (handed_up n wire)) w.takes) ∙ many_set w.wires position (handed_up n wire) in
    under_same (length w.wires) (length v.wires) v.server same (under_piece (length w.wires) (number_at position) w.moment piece w.server is)

numbered_served_by : (position : ℕ) (count : Count) (o : Option Wire) (w : ByteWorld) → IsNumbered w → IsNumbered (served_by position count o w)
numbered_served_by position count None w is = is
numbered_served_by position count (Some wire) w is =
    numbered_if (amount count wire.up == 0) w (served position (amount count wire.up) wire w) is (numbered_served position (amount count wire.up) wire w is)

numbered_told : (position : ℕ) (o : Option Wire) (w : ByteWorld) → IsNumbered w → IsNumbered (reported_up position o w)
numbered_told position None w is = is
numbered_told position (Some wire) w is =
    let v = record w { server = after_gone (number_at position) w.moment w.server; wires = slice_set w.wires position (up_end_reported wire) } in
    numbered_if (is_end_due wire.up) v w
    (under_same (length w.wires) (length v.wires) v.server (many_set w.wires position (up_end_reported wire)) (under_gone (length w.wires) (number_at position) w.moment w.server is)) is

numbered_up : (position : ℕ) (count : Count) (w : ByteWorld) → IsNumbered w → IsNumbered (moved (moves.Up position count) w)
numbered_up position count w is =
    let v = served_by position count (slice_get w.wires position) w in
    numbered_told position (slice_get v.wires position) v (numbered_served_by position count (slice_get w.wires position) w is)

numbered_down_to : (position : ℕ) (count : Count) (wire : Wire) (o : Option DeviceState) (w : ByteWorld) → IsNumbered w → IsNumbered (down_to position count wire o w)
numbered_down_to position count wire None w is = is
numbered_down_to position count wire (Some d) w is = under_same (length w.wires) (length (down_to position count wire (Some d) w).wires) w.server (many_set w.wires position _) is

numbered_down : (position : ℕ) (count : Count) (o : Option Wire) (w : ByteWorld) → IsNumbered w → IsNumbered (down_by position count o w)
numbered_down position count None w is = is
numbered_down position count (Some wire) w is = numbered_down_to position count wire (slice_get w.devices wire.device) w is

pub numbered_move : (m : Move) (w : ByteWorld) → IsNumbered w → IsNumbered (moved m w)
numbered_move (moves.Dial device) w is = numbered_dialed device (slice_get w.devices device) w is
numbered_move (moves.Forget device) w is = numbered_forgot device (slice_get w.devices device) w is
numbered_move (moves.Close device) w is = numbered_closed device (slice_get w.devices device) w is
numbered_move (moves.Say device line to text private) w is = numbered_said device line to text private (slice_get w.devices device) w is
numbered_move (moves.CatchUp device line most) w is = numbered_caught_up device line most (slice_get w.devices device) w is
numbered_move (moves.Tick milliseconds) w is = is
numbered_move (moves.Up position count) w is = numbered_up position count w is
numbered_move (moves.Down position count) w is = numbered_down position count (slice_get w.wires position) w is
numbered_move (moves.Cut position up down) w is = under_same (length w.wires) _ w.server (many_at position _ w.wires) is

numbered_moves : (ms : List Move) (w : ByteWorld) → IsNumbered w → IsNumbered (all_moved ms w)
numbered_moves [] w is = is
numbered_moves (m ∷ ms) w is = numbered_moves ms (moved m w) (numbered_move m w is)

pub numbered_line : (line : WireLine) (w : ByteWorld) → IsNumbered w → IsNumbered (stepped line w)
numbered_line line w is = numbered_moves (moves_of line w) w is

-- a number that comes is fresh
pub fresh_conn_at : (w : ByteWorld) → IsNumbered w → conn_at (number_at (length w.wires)) w.server.server_state ≡ None
fresh_conn_at w is = absent_above (length w.wires) (number_at (length w.wires)) w.server.server_state.conns (omega arith) is.0

pub fresh_framer_at : (w : ByteWorld) → IsNumbered w → framer_at (number_at (length w.wires)) w.server.framers ≡ None
fresh_framer_at w is = absent_above (length w.wires) (number_at (length w.wires)) w.server.framers (omega arith) is.1
