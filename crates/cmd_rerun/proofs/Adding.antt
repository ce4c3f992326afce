-- What comes of events doesn't depend on what was put out before: it stands behind it.
use Rattle.std.proofs.Common.{◌≡◌, ◌==◌, not, ℕ, Bool, true, false, List, [], ◌∷◌, ◌++◌, Option, Some, None, append-nil, append_assoc, ap, cond, refl, sym, ◌∙◌}
use Rattle.std.proofs.Math.Seq.{drop-append_seam}
use Rattle.sm_acks.specs.declared.end.TheConstants.{MOST_UNACKNOWLEDGED}
use Rattle.srv_state.specs.State.{Out, Put, ServerState, Shut, Step, Took}
use Rattle.srv_state.specs.Steps.{Act, Acknowledge, Archive, Ask, Bind, Close, Copy, Enable, Enter, Fail, Handle, Present, Resume, Say, Send, Tell, act, acted, ask_where, in_sessions, is_due, overflow, part_where, put, put_where, queue, send_by_info, shut}
use Rattle.srv_state.specs.Streams.{standing_at}
use Rattle.xml_framer.specs.States as framing
use Rattle.xml_framer.specs.declared.fault.Fault.{Fault}
use Rattle.xml_framer.specs.declared.items.Item.{Item}
use Rattle.cmd_journal.specs.AccountsFiles.{AccountsView}
use Rattle.cmd_journal.specs.Journals.{Connect, EventView, Gone, Piece}
use Rattle.sm_live.specs.Sessions.{asks, info_of, waits, with_session, without}
use Rattle.sm_live.specs.declared.told.SessionInfo.{SessionInfo}
use Rattle.im_replies.specs.Management.{request_item}
use Rattle.im_replies.specs.Streams.{error_item}
use Rattle.im_replies.specs.declared.conditions.StreamCondition.TheVariants.{ResourceConstraint}
use Rattle.cmd_rerun.specs.Reruns.{Run, after_event, after_events, run_after, run_at_start}
use Rattle.srv_core.specs.Events.{Whole, after_bytes, after_connect, after_fault, after_gone, at_fault, at_piece, begun, dropped, fed, framer_at, news, turn_of, whole}
use Rattle.srv_core.specs.Table.{after_item, after_items, at_open}
use Rattle.cmd_rerun.specs.Happening.{happens, still}
use Rattle.xml_writer.specs.Items.{Closing, ItemOut, written_item}

abbrev step : {A : Type 0} → ServerState A → List (Out A) → Step A
step h outs = record { server_state = h; outs = outs }

-- the same behind what was put out before
abbrev pub following : {A : Type 0} → List (Out A) → Step A → Step A
following before s = step s.server_state (before ++ s.outs)

-- ---- the small steps

moved : {A : Type 0} (h : ServerState A) (before outs more : List (Out A)) → step h ((before ++ outs) ++ more) ≡ following before (step h (outs ++ more))
moved h before outs more = ap (step h) (append_assoc before outs more)

put_after : {A : Type 0} (k : ℕ) (a : A) (before : List (Out A)) (s : Step A) → put k a (following before s) ≡ following before (put k a s)
put_after k a before s = moved s.server_state before s.outs (Put k a ∷ [])

shut_after : {A : Type 0} (k : ℕ) (before : List (Out A)) (s : Step A) → shut k (following before s) ≡ following before (shut k s)
shut_after k before s = moved (shut k s).server_state before s.outs (Shut k ∷ [])

if_after : {A : Type 0} (b : Bool) (before : List (Out A)) (t u x y : Step A) → t ≡ following before x → u ≡ following before y → cond b t u ≡ following before (cond b x y)
if_after true before t u x y p q = p
if_after false before t u x y p q = q

put_where_after : {A : Type 0} (o : Option ℕ) (a : A) (before : List (Out A)) (s : Step A) → put_where o a (following before s) ≡ following before (put_where o a s)
put_where_after None a before s = refl
put_where_after (Some k) a before s = put_after k a before s

part_where_after : {A : Type 0} (say : ItemOut → A) (o : Option ℕ) (error : A) (before : List (Out A)) (s : Step A)
    → part_where say o error (following before s) ≡ following before (part_where say o error s)
part_where_after say None error before s = refl
part_where_after say (Some k) error before s =
    ap (λ (t : Step _). shut k (put k (say Closing) t)) (put_after k error before s)
    ∙ ap (shut k) (put_after k (say Closing) before (put k error s))
    ∙ shut_after k before (put k (say Closing) (put k error s))

ask_where_after : {A : Type 0} (say : ItemOut → A) (n : ℕ) (o : Option ℕ) (b : Bool) (before : List (Out A)) (s : Step A)
    → ask_where say n o b (following before s) ≡ following before (ask_where say n o b s)
ask_where_after say n o false before s = refl
ask_where_after say n None true before s = refl
ask_where_after say n (Some k) true before s = put_after k (say request_item) before (in_sessions (with_session n (asks true)) s)

queue_after : {A : Type 0} (say : ItemOut → A) (n : ℕ) (a : A) (t : SessionInfo) (before : List (Out A)) (s : Step A)
    → queue say n a t (following before s) ≡ following before (queue say n a t s)
queue_after say n a t before s =
    ap (ask_where say n t.conn (is_due t)) (put_where_after t.conn a before (in_sessions (with_session n (waits a)) s))
    ∙ ask_where_after say n t.conn (is_due t) before (put_where t.conn a (in_sessions (with_session n (waits a)) s))

overflow_after : {A : Type 0} (say : ItemOut → A) (n : ℕ) (t : SessionInfo) (before : List (Out A)) (s : Step A)
    → overflow say n t (following before s) ≡ following before (overflow say n t s)
overflow_after say n t before s = part_where_after say t.conn (say (error_item ResourceConstraint)) before (in_sessions (without n) s)

send_after : {A : Type 0} (say : ItemOut → A) (n : ℕ) (a : A) (o : Option SessionInfo) (before : List (Out A)) (s : Step A)
    → send_by_info say n a o (following before s) ≡ following before (send_by_info say n a o s)
send_after say n a None before s = refl
send_after say n a (Some t) before s =
    if_after (not t.counted) before (put_where t.conn a (following before s))
    (cond (t.waiting == MOST_UNACKNOWLEDGED) (overflow say n t (following before s)) (queue say n a t (following before s)))
    (put_where t.conn a s) (cond (t.waiting == MOST_UNACKNOWLEDGED) (overflow say n t s) (queue say n a t s))
    (put_where_after t.conn a before s)
    (if_after (t.waiting == MOST_UNACKNOWLEDGED) before (overflow say n t (following before s)) (queue say n a t (following before s)) (overflow say n t s) (queue say n a t s)
    (overflow_after say n t before s) (queue_after say n a t before s))

act_after : {A : Type 0} (say : ItemOut → A) (a : Act A) (before : List (Out A)) (s : Step A) → act say a (following before s) ≡ following before (act say a s)
act_after say (Say k a) before s = put_after k a before s
act_after say (Close k) before s = shut_after k before s
act_after say (Enter k phase) before s = refl
act_after say (Fail k left) before s = refl
act_after say (Bind account resource k) before s = refl
act_after say (Resume previd account h k) before s = refl
act_after say (Enable n resume) before s = refl
act_after say (Acknowledge n h) before s = refl
act_after say (Ask n on) before s = refl
act_after say (Handle n) before s = refl
act_after say (Present n available priority) before s = refl
act_after say (Copy n on) before s = refl
act_after say (Send n a) before s = send_after say n a (info_of n s.server_state.sessions) before s
act_after say (Archive account e) before s = refl
act_after say (Tell from to origin) before s = moved s.server_state before s.outs (Took from to origin ∷ [])

acted_after : {A : Type 0} (say : ItemOut → A) (acts : List (Act A)) (before : List (Out A)) (s : Step A)
    → acted say acts (following before s) ≡ following before (acted say acts s)
acted_after say [] before s = refl
acted_after say (a ∷ more) before s = ap (acted say more) (act_after say a before s) ∙ acted_after say more before (act say a s)

-- ---- items and pieces

items_after : {A : Type 0} (say : ItemOut → A) (k : ℕ) (items : List Item) (before : List (Out A)) (s : Step A)
    → after_items say k items (following before s) ≡ following before (after_items say k items s)
items_after say k [] before s = refl
items_after say k (i ∷ items) before s =
    ap (after_items say k items) (acted_after say (at_open say k i (standing_at k s.server_state) s.server_state) before s) ∙ items_after say k items before (after_item say k i s)

fault_after : {A : Type 0} (say : ItemOut → A) (k : ℕ) (o : Option Fault) (before : List (Out A)) (s : Step A)
    → after_fault say k o (following before s) ≡ following before (after_fault say k o s)
fault_after say k None before s = refl
fault_after say k (Some f) before s = acted_after say (at_fault say k f (standing_at k s.server_state) s.server_state) before s

piece_after : {A : Type 0} (say : ItemOut → A) (k : ℕ) (piece : List ℕ) (o : Option framing.State) (before : List (Out A)) (s : Step A)
    → at_piece say k piece o (following before s) ≡ following before (at_piece say k piece o s)
piece_after say k piece None before s = refl
piece_after say k piece (Some f) before s =
    ap (after_fault say k (turn_of piece f).state.fault) (items_after say k (turn_of piece f).items before s)
    ∙ fault_after say k (turn_of piece f).state.fault before (after_items say k (turn_of piece f).items s)

bytes_after : {A : Type 0} (say : ItemOut → A) (k : ℕ) (piece : List ℕ) (now : ℕ) (w : Whole A) (outs : List (Out A))
    → after_bytes say k piece now w outs ≡ following outs (after_bytes say k piece now w [])
bytes_after say k piece now w outs =
    ap (λ (o : List (Out _)). at_piece say k piece (framer_at k w.framers) (begun now w.server_state o)) (sym (append-nil outs))
    ∙ piece_after say k piece (framer_at k w.framers) outs (begun now w.server_state [])

-- ---- events

abbrev run : Whole (List ℕ) → List (Out (List ℕ)) → Run
run w outs = record { server = w; outs = outs }

-- a run behind what was put out before
abbrev pub adds : List (Out (List ℕ)) → Run → Run
adds before r = run r.server (before ++ r.outs)

adds_both : (a b : List (Out (List ℕ))) (r : Run) → adds (a ++ b) r ≡ adds a (adds b r)
adds_both a b r = ap (run r.server) (append_assoc a b r.outs)

nothing_more : (w : Whole (List ℕ)) (outs : List (Out (List ℕ))) → run w outs ≡ adds outs (still w)
nothing_more w outs = ap (run w) (sym (append-nil outs))

-- what is new stands behind what was there
all_new : (old new : List (Out (List ℕ))) → news old (old ++ new) ≡ new
all_new old new = drop-append_seam old new

piece_adds : (k now : ℕ) (bytes : List ℕ) (r : Run) → after_event (Piece k now bytes) r ≡ adds r.outs (after_event (Piece k now bytes) (still r.server))
piece_adds k now bytes r =
    let s = after_bytes written_item k bytes now r.server [] in
    let framers = fed k bytes (framer_at k r.server.framers) r.server.framers in
    ap (run_after k bytes r) (bytes_after written_item k bytes now r.server r.outs)
    ∙ ap (λ (o : List (Out (List ℕ))). run (whole s.server_state (dropped o framers)) (r.outs ++ s.outs)) (all_new r.outs s.outs)

pub event_adds : (event : EventView) (r : Run) → after_event event r ≡ adds r.outs (after_event event (still r.server))
event_adds (Connect k now entropy) r = nothing_more (after_event (Connect k now entropy) r).server r.outs
event_adds (Piece k now bytes) r = piece_adds k now bytes r
event_adds (Gone k now) r = nothing_more (after_event (Gone k now) r).server r.outs

pub events_add : (events : List EventView) (r : Run) → after_events events r ≡ adds r.outs (after_events events (still r.server))
events_add [] r = nothing_more r.server r.outs
events_add (event ∷ events) r =
    let first = after_event event (still r.server) in
    let rest = after_events events (still first.server) in
    ap (after_events events) (event_adds event r) ∙ events_add events (adds r.outs first) ∙ adds_both r.outs first.outs rest
    ∙ ap (adds r.outs) (sym (events_add events first))

-- events, and then others
pub events_then : (events others : List EventView) (r : Run) → after_events (events ++ others) r ≡ after_events others (after_events events r)
events_then [] others r = refl
events_then (event ∷ events) others r = events_then events others (after_event event r)

-- ---- what happens

pub happens_both : (events others : List EventView) (w : Whole (List ℕ)) → happens (events ++ others) w ≡ adds (happens events w).outs (happens others (happens events w).server)
unfolding happens
happens_both events others w = events_then events others (still w) ∙ events_add others (after_events events (still w))

pub nothing_happens : (w : Whole (List ℕ)) → (happens [] w).server ≡ w
unfolding happens
nothing_happens w = refl

-- a connection begins
pub connects : (k moment : ℕ) (entropy : List ℕ) (w : Whole (List ℕ)) → (happens (Connect k moment entropy ∷ []) w).server ≡ after_connect k entropy moment w
unfolding happens
connects k moment entropy w = refl

pub leaves : (k moment : ℕ) (w : Whole (List ℕ)) → (happens (Gone k moment ∷ []) w).server ≡ after_gone k moment w
unfolding happens
leaves k moment w = refl

pub leaves_quietly : (k moment : ℕ) (w : Whole (List ℕ)) → (happens (Gone k moment ∷ []) w).outs ≡ []
unfolding happens
leaves_quietly k moment w = refl

pub piece_happens : (event : EventView) (w : Whole (List ℕ)) → after_event event (still w) ≡ happens (event ∷ []) w
unfolding happens
piece_happens event w = refl

-- from the start
pub from_start : (events : List EventView) (file : AccountsView) → happens events (run_at_start file).server ≡ after_events events (run_at_start file)
unfolding happens
from_start events file = refl
