-- Only `connect` makes a connection or a framer, and in a journal its numbers ascend. So each number that comes is fresh.
use Rattle.std.proofs.Common.{◌≡◌, ◌<◌, ◌≤◌, ◌==◌, not, ℕ, Bool, true, false, List, [], ◌∷◌, length, Option, Some, None, ap, cond, refl, ◌∙◌, inl, inr, arith}
use Rattle.std.proofs.lemmas.Bool.{and_parts, cases_Bool, false≢true, ltb-true}
use Rattle.std.proofs.lemmas.Map.Lookups.{exact_unsigned}
use Rattle.std.specs.Prelude.{IsTrue, ◌&&◌, nat_lt}
use Rattle.std.specs.BTreeMap.{insert_entry}
use Rattle.std.specs.Map.{lookup, remove_entry, set_value}
use Rattle.std.specs.Ordering.{is_eq, match_ordering, nat_cmp}
use Rattle.std.specs.declared.cmp.Ordering.{Ordering}
use Rattle.std.specs.declared.cmp.Ordering.TheVariants.{Equal, Greater, Less}
use Rattle.sm_acks.specs.declared.end.TheConstants.{MOST_UNACKNOWLEDGED}
use Rattle.mam_archive.specs.Entries.{EntryView}
use Rattle.xml_framer.specs.declared.fault.Fault.{Fault}
use Rattle.xml_framer.specs.declared.items.Item.{Item}
use Rattle.xml_framer.specs.Limits.{server_limits}
use Rattle.xml_framer.specs.States as framing
use Rattle.xml_framer.specs.States.{Turn}
use Rattle.cmd_journal.specs.AccountsFiles.{AccountsView}
use Rattle.cmd_journal.specs.Journals.{AreEvents, Connect, EventView, Gone, Piece, are_bytes, begun_last, is_connection, is_moment, may_happen}
use Rattle.sm_live.specs.Sessions.{info_of, waits, with_session, without}
use Rattle.sm_live.specs.declared.told.SessionInfo.{SessionInfo}
use Rattle.im_replies.specs.Streams.{error_item}
use Rattle.im_replies.specs.declared.conditions.StreamCondition.TheVariants.{ResourceConstraint}
use Rattle.srv_state.specs.Moments.{fresh_conn}
use Rattle.srv_state.specs.State.{Kept, Out, Put, ServerState, Shut, Step, Took, archive_at, changed, conn_at, is_number}
use Rattle.srv_state.specs.Steps.{Act, Acknowledge, Archive, Ask, Bind, Close, Copy, Enable, Enter, Fail, Handle, Present, Resume, Say, Send, Tell, act, acted, after_failure, archived_in, ask_where, in_phase, in_sessions, is_due, overflow, part_where, put_where, queue, send_by_info}
use Rattle.srv_state.specs.Streams.{standing_at}
use Rattle.srv_state.specs.declared.connection.Connection.{Connection}
use Rattle.cmd_rerun.specs.Reruns.{AreFresh, IsFresh, Run, after_event, run_at_start}
use Rattle.srv_core.specs.Events.{Framers, Whole, after_bytes, after_fault, after_turn, at_fault, at_piece, begun, dropped, dropped_at, fed, framer_at, news, turn_of}
use Rattle.srv_core.specs.Table.{after_item, after_items, at_open}
use Rattle.xml_writer.specs.Items.{ItemOut, written_item}

-- ---- entries under numbers

-- no number is above the last
abbrev pub Below : {X : Type 0} → ℕ → List (ℕ × X) → Type 0
Below last [] = Unit {0}
Below last (e ∷ es) = (e.0 ≤ last) × Below last es

below_more : {X : Type 0} (a b : ℕ) (es : List (ℕ × X)) → a ≤ b → Below a es → Below b es
below_more a b [] more below = tt
below_more a b (e ∷ es) more below = (omega (arith, below.0, more), below_more a b es more below.1)

below_if : {X : Type 0} (last : ℕ) (b : Bool) (xs ys : List (ℕ × X)) → Below last xs → Below last ys → Below last (cond b xs ys)
below_if last true xs ys p q = p
below_if last false xs ys p q = q

below_removed : {X : Type 0} (last : ℕ) (test : ℕ → Bool) (es : List (ℕ × X)) → Below last es → Below last (remove_entry test es)
below_removed last test [] below = tt
below_removed last test (e ∷ es) below =
    below_if last (test e.0) es (e ∷ remove_entry test es) below.1 (below.0, below_removed last test es below.1)

below_set : {X : Type 0} (last : ℕ) (test : ℕ → Bool) (es : List (ℕ × X)) (w : X) → Below last es → Below last (set_value test es w)
below_set last test [] w below = tt
below_set last test (e ∷ es) w below =
    below_if last (test e.0) ((e.0, w) ∷ es) (e ∷ set_value test es w) below (below.0, below_set last test es w below.1)

below_by : {X : Type 0} (last : ℕ) (r : Ordering) (xs ys zs : List (ℕ × X)) → Below last xs → Below last ys → Below last zs → Below last (match_ordering r xs ys zs)
below_by last Less xs ys zs p q r = p
below_by last Equal xs ys zs p q r = q
below_by last Greater xs ys zs p q r = r

below_inserted : {X : Type 0} (last k : ℕ) (v : X) (es : List (ℕ × X)) → k ≤ last → Below last es → Below last (insert_entry nat_cmp es k v)
below_inserted last k v [] within below = (within, tt)
below_inserted last k v (e ∷ es) within below =
    below_by last (nat_cmp k e.0) ((k, v) ∷ e ∷ es) ((e.0, v) ∷ es) (e ∷ insert_entry nat_cmp es k v)
    (within, below) below (below.0, below_inserted last k v es within below.1)

-- a number above the last has no entry
equal_is : (o : Ordering) → is_eq o ≡ true → o ≡ Equal
equal_is Less h = absurd (false≢true h)
equal_is Equal h = refl
equal_is Greater h = absurd (false≢true h)

number_is : (j n : ℕ) → is_number j n ≡ true → j ≡ n
number_is j n h = exact_unsigned j n (equal_is (nat_cmp j n) h)

absent_above : {X : Type 0} (last k : ℕ) (es : List (ℕ × X)) → last < k → Below last es → lookup (is_number k) es ≡ None
absent_above last k [] above below = refl
absent_above last k (e ∷ es) above below =
    elim (cases_Bool (is_number k e.0)) [
      | inl here ↦ (let same : k ≡ e.0 = number_is k e.0 here in absurd (omega (arith, same, below.0, above)))
      | inr other ↦ ap (λ b. cond b (Some e.1) (lookup (is_number k) es)) other ∙ absent_above last k es above below.1
    ]

-- ---- the small steps

abbrev IsBelow : {A : Type 0} → ℕ → Step A → Type 0
IsBelow last s = Below last s.server_state.conns

step_if : {A : Type 0} (last : ℕ) (b : Bool) (t u : Step A) → IsBelow last t → IsBelow last u → IsBelow last (cond b t u)
step_if last true t u p q = p
step_if last false t u p q = q

below_changed : (last k : ℕ) (f : Connection → Connection) (o : Option Connection) (es : List (ℕ × Connection)) → Below last es → Below last (changed k f o es)
below_changed last k f None es below = below
below_changed last k f (Some c) es below = below_set last (is_number k) es (f c) below

below_put_where : {A : Type 0} (last : ℕ) (o : Option ℕ) (a : A) (s : Step A) → IsBelow last s → IsBelow last (put_where o a s)
below_put_where last None a s below = below
below_put_where last (Some k) a s below = below

below_part_where : {A : Type 0} (say : ItemOut → A) (last : ℕ) (o : Option ℕ) (error : A) (s : Step A) → IsBelow last s → IsBelow last (part_where say o error s)
below_part_where say last None error s below = below
below_part_where say last (Some k) error s below = below_removed last (is_number k) s.server_state.conns below

below_ask_where : {A : Type 0} (say : ItemOut → A) (last n : ℕ) (o : Option ℕ) (b : Bool) (s : Step A) → IsBelow last s → IsBelow last (ask_where say n o b s)
below_ask_where say last n o false s below = below
below_ask_where say last n None true s below = below
below_ask_where say last n (Some k) true s below = below

below_queue : {A : Type 0} (say : ItemOut → A) (last n : ℕ) (a : A) (t : SessionInfo) (s : Step A) → IsBelow last s → IsBelow last (queue say n a t s)
below_queue say last n a t s below =
    below_ask_where say last n t.conn (is_due t) (put_where t.conn a (in_sessions (with_session n (waits a)) s))
    (below_put_where last t.conn a (in_sessions (with_session n (waits a)) s) below)

below_overflow : {A : Type 0} (say : ItemOut → A) (last n : ℕ) (t : SessionInfo) (s : Step A) → IsBelow last s → IsBelow last (overflow say n t s)
below_overflow say last n t s below =
    below_part_where say last t.conn (say (error_item ResourceConstraint)) (in_sessions (without n) s) below

below_send : {A : Type 0} (say : ItemOut → A) (last n : ℕ) (a : A) (o : Option SessionInfo) (s : Step A) → IsBelow last s → IsBelow last (send_by_info say n a o s)
below_send say last n a None s below = below
below_send say last n a (Some t) s below =
    step_if last (not t.counted) (put_where t.conn a s) (cond (t.waiting == MOST_UNACKNOWLEDGED) (overflow say n t s) (queue say n a t s)) (below_put_where last t.conn a s below)
    (step_if last (t.waiting == MOST_UNACKNOWLEDGED) (overflow say n t s) (queue say n a t s) (below_overflow say last n t s below) (below_queue say last n a t s below))

below_archived : {A : Type 0} (last : ℕ) (e : EntryView) (account : ℕ) (o : Option Kept) (h : ServerState A) → Below last h.conns → Below last (archived_in e account o h).conns
below_archived last e account None h below = below
below_archived last e account (Some kept) h below = below

-- one step makes no connection
below_act : {A : Type 0} (say : ItemOut → A) (last : ℕ) (a : Act A) (s : Step A) → IsBelow last s → IsBelow last (act say a s)
below_act say last (Say k a) s below = below
below_act say last (Close k) s below = below_removed last (is_number k) s.server_state.conns below
below_act say last (Enter k phase) s below = below_changed last k (in_phase phase) (conn_at k s.server_state) s.server_state.conns below
below_act say last (Fail k left) s below = below_changed last k (after_failure left) (conn_at k s.server_state) s.server_state.conns below
below_act say last (Bind account resource k) s below = below
below_act say last (Resume previd account h k) s below = below
below_act say last (Enable n resume) s below = below
below_act say last (Acknowledge n h) s below = below
below_act say last (Ask n on) s below = below
below_act say last (Handle n) s below = below
below_act say last (Present n available priority) s below = below
below_act say last (Copy n on) s below = below
below_act say last (Send n a) s below = below_send say last n a (info_of n s.server_state.sessions) s below
below_act say last (Archive account e) s below = below_archived last e account (archive_at account s.server_state) s.server_state below
below_act say last (Tell from to origin) s below = below

below_acted : {A : Type 0} (say : ItemOut → A) (last : ℕ) (acts : List (Act A)) (s : Step A) → IsBelow last s → IsBelow last (acted say acts s)
below_acted say last [] s below = below
below_acted say last (a ∷ more) s below = below_acted say last more (act say a s) (below_act say last a s below)

-- ---- the bytes of an event

below_items : {A : Type 0} (say : ItemOut → A) (last k : ℕ) (items : List Item) (s : Step A) → IsBelow last s → IsBelow last (after_items say k items s)
below_items say last k [] s below = below
below_items say last k (i ∷ items) s below =
    below_items say last k items (after_item say k i s) (below_acted say last (at_open say k i (standing_at k s.server_state) s.server_state) s below)

below_fault : {A : Type 0} (say : ItemOut → A) (last k : ℕ) (o : Option Fault) (s : Step A) → IsBelow last s → IsBelow last (after_fault say k o s)
below_fault say last k None s below = below
below_fault say last k (Some f) s below = below_acted say last (at_fault say k f (standing_at k s.server_state) s.server_state) s below

below_turn : {A : Type 0} (say : ItemOut → A) (last k : ℕ) (t : Turn) (s : Step A) → IsBelow last s → IsBelow last (after_turn say k t s)
below_turn say last k t s below = below_fault say last k t.state.fault (after_items say k t.items s) (below_items say last k t.items s below)

below_piece : {A : Type 0} (say : ItemOut → A) (last k : ℕ) (piece : List ℕ) (o : Option framing.State) (s : Step A) → IsBelow last s → IsBelow last (at_piece say k piece o s)
below_piece say last k piece None s below = below
below_piece say last k piece (Some f) s below = below_turn say last k (turn_of piece f) s below

below_fed : (last k : ℕ) (piece : List ℕ) (o : Option framing.State) (framers : Framers) → Below last framers → Below last (fed k piece o framers)
below_fed last k piece None framers below = below
below_fed last k piece (Some f) framers below = below_set last (is_number k) framers (turn_of piece f).state below

below_dropped_at : {A : Type 0} (last : ℕ) (o : Out A) (framers : Framers) → Below last framers → Below last (dropped_at o framers)
below_dropped_at last (Put k a) framers below = below
below_dropped_at last (Shut k) framers below = below_removed last (is_number k) framers below
below_dropped_at last (Took from to origin) framers below = below

below_dropped : {A : Type 0} (last : ℕ) (outs : List (Out A)) (framers : Framers) → Below last framers → Below last (dropped outs framers)
below_dropped last [] framers below = below
below_dropped last (o ∷ outs) framers below = below_dropped last outs (dropped_at o framers) (below_dropped_at last o framers below)

-- ---- events

-- no connection and no framer has a number above the last
abbrev IsUnder : {A : Type 0} → ℕ → Whole A → Type 0
IsUnder last w = Below last w.server_state.conns × Below last w.framers

comes_next : (last k moment : ℕ) (entropy : List ℕ) → IsTrue (may_happen last (Connect k moment entropy)) → last < k
comes_next last k moment entropy may =
    let a = and_parts (is_connection k && nat_lt last k && is_moment moment && (length entropy == 24)) (are_bytes entropy) may in
    let b = and_parts (is_connection k && nat_lt last k && is_moment moment) (length entropy == 24) a.0 in
    let c = and_parts (is_connection k && nat_lt last k) (is_moment moment) b.0 in
    ltb-true last k (and_parts (is_connection k) (nat_lt last k) c.0).1

fresh_event : (last : ℕ) (event : EventView) (w : Whole (List ℕ)) → IsTrue (may_happen last event) → IsUnder last w → IsFresh event w
fresh_event last (Connect k now entropy) w may under =
    let next = comes_next last k now entropy may in
    (absent_above last k w.server_state.conns next under.0, absent_above last k w.framers next under.1)
fresh_event last (Piece k now bytes) w may under = tt
fresh_event last (Gone k now) w may under = tt

under_event : (last : ℕ) (event : EventView) (r : Run) → IsTrue (may_happen last event) → IsUnder last r.server → IsUnder (begun_last last event) (after_event event r).server
under_event last (Connect k now entropy) r may under =
    let next = comes_next last k now entropy may in
    let more : last ≤ k = omega (arith, next) in (
      below_inserted k k (fresh_conn entropy) r.server.server_state.conns (omega arith) (below_more last k r.server.server_state.conns more under.0),
      below_inserted k k (framing.from_start server_limits) r.server.framers (omega arith) (below_more last k r.server.framers more under.1),
    )
under_event last (Piece k now bytes) r may under =
    let framer = framer_at k r.server.framers in (
      below_piece written_item last k bytes framer (begun now r.server.server_state r.outs) under.0,
      below_dropped last (news r.outs (after_bytes written_item k bytes now r.server r.outs).outs) (fed k bytes framer r.server.framers)
          (below_fed last k bytes framer r.server.framers under.1),
    )
under_event last (Gone k now) r may under =
    (below_removed last (is_number k) r.server.server_state.conns under.0, below_removed last (is_number k) r.server.framers under.1)

events_fresh : (last : ℕ) (events : List EventView) (r : Run) → AreEvents last events → IsUnder last r.server → AreFresh events r
events_fresh last [] r are under = tt
events_fresh last (event ∷ events) r are under =
    (fresh_event last event r.server are.0 under, events_fresh (begun_last last event) events (after_event event r) are.1 (under_event last event r are.0 under))

-- the connections of a journal come under fresh numbers
pub start_fresh : (file : AccountsView) (events : List EventView) → AreEvents 0 events → AreFresh events (run_at_start file)
start_fresh file events are = events_fresh 0 events (run_at_start file) are (tt, tt)
