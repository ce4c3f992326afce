-- What holds of the sessions and of the next number, and stays where sessions end, change or begin, stays at each event.
use Rattle.std.proofs.Common.{◌≡◌, ℕ, ◌+◌, ◌==◌, Bool, true, false, not, cond, List, [], ◌∷◌, ◌++◌, Option, Some, None, map, refl, take}
use Rattle.std.specs.List.{filter}
use Rattle.sm_acks.specs.declared.end.TheConstants.{MOST_UNACKNOWLEDGED}
use Rattle.mam_archive.specs.Entries.{EntryView}
use Rattle.srv_state.specs.Moments.{at_moment, gone_at}
use Rattle.srv_state.specs.State.{Kept, ServerState, Step, archive_at}
use Rattle.srv_state.specs.Steps as steps
use Rattle.srv_state.specs.Steps.{Act, act, acted, archived_in, ask_where, in_sessions, is_due, overflow, part_where, put, put_where, queue, send_by_info, shut}
use Rattle.srv_state.specs.Streams.{standing_at}
use Rattle.sm_live.specs.Sessions.{Session, acknowledged, after_resume, asks, copies, enables, fresh, handles, info_of, is_at, is_expired, is_too_high, less, lost, parked, presents, resumes, session_at, session_named, session_resumed, waits, with_session, without}
use Rattle.sm_live.specs.declared.told.SessionInfo.{SessionInfo}
use Rattle.im_replies.specs.Streams.{error_item}
use Rattle.im_replies.specs.declared.conditions.StreamCondition.TheVariants.{ResourceConstraint}
use Rattle.xml_framer.specs.States.{State, Turn}
use Rattle.xml_framer.specs.declared.fault.Fault.{Fault}
use Rattle.xml_framer.specs.declared.items.Item.{Item}
use Rattle.srv_core.specs.Events.{after_fault, after_turn, at_fault, at_piece, begun, framer_at, turn_of}
use Rattle.srv_core.specs.Table.{after_item, after_items, at_open}
use Rattle.law_server.specs.Events.{Bytes, Connect, Event, Gone, Run, Stop, Tick, after_event, after_events, stopped_in}
use Rattle.xml_writer.specs.Items.{Closing, ItemOut}

-- it stays where sessions end, where they change and keep their numbers, and where one begins with the next number
pub record IsStable {A : Type 0} (P : List (Session A) → ℕ → Type 0) : Type 0 where
  pub some : (p : Session A → Bool) (ss : List (Session A)) (next : ℕ) → P ss next → P (filter p ss) next
  pub same : (g : Session A → Session A) → ((s : Session A) → (g s).shown.number ≡ s.shown.number) → (ss : List (Session A)) (next : ℕ) → P ss next → P (map g ss) next
  pub more : (account : ℕ) (resource : List ℕ) (k : ℕ) (ss : List (Session A)) (next : ℕ) → P ss next → P (ss ++ fresh next account resource k ∷ []) (next + 1)

abbrev pub Holds : {A : Type 0} → (List (Session A) → ℕ → Type 0) → ServerState A → Type 0
Holds P h = P h.sessions h.next

-- ---- lists of sessions

pub number_either : {A : Type 0} (b : Bool) (s t : Session A) → t.shown.number ≡ s.shown.number → (cond b t s).shown.number ≡ s.shown.number
number_either true s t same = same
number_either false s t same = refl

by_changed : {A : Type 0} {P : List (Session A) → ℕ → Type 0} → IsStable P → (n : ℕ) (f : Session A → Session A) → ((s : Session A) → (f s).shown.number ≡ s.shown.number) → (ss : List (Session A)) (next : ℕ) → P ss next → P (with_session n f ss) next
by_changed law n f same ss next is = law.same (λ s. cond (s.shown.number == n) (f s) s) (λ s. number_either (s.shown.number == n) s (f s) (same s)) ss next is

by_less : {A : Type 0} {P : List (Session A) → ℕ → Type 0} → IsStable P → (o : Option (Session A)) (ss : List (Session A)) (next : ℕ) → P ss next → P (less o ss) next
by_less law None ss next is = is
by_less law (Some s) ss next is = law.some (λ t. not (t.shown.number == s.shown.number)) ss next is

by_either : {A : Type 0} (P : List (Session A) → ℕ → Type 0) (b : Bool) (ss ts : List (Session A)) (next : ℕ) → P ss next → P ts next → P (cond b ss ts) next
by_either P true ss ts next a b = a
by_either P false ss ts next a b = b

by_resumed : {A : Type 0} {P : List (Session A) → ℕ → Type 0} → IsStable P → (h k : ℕ) (o : Option (Session A)) (ss : List (Session A)) (next : ℕ) → P ss next → P (after_resume h k o ss) next
by_resumed law h k None ss next is = is
by_resumed {P = P} law h k (Some s) ss next is =
    by_either P (is_too_high h s) _ _ next (law.some (λ t. not (t.shown.number == s.shown.number)) ss next is) (by_changed law s.shown.number (resumes h k) (λ t. refl) ss next is)

by_lost : {A : Type 0} {P : List (Session A) → ℕ → Type 0} → IsStable P → (now : ℕ) (o : Option (Session A)) (ss : List (Session A)) (next : ℕ) → P ss next → P (lost now o ss) next
by_lost law now None ss next is = is
by_lost {P = P} law now (Some s) ss next is =
    by_either P s.shown.resumable _ _ next (by_changed law s.shown.number (parked now) (λ t. refl) ss next is) (law.some (λ t. not (t.shown.number == s.shown.number)) ss next is)

-- ---- acts

by_shut : {A : Type 0} {P : List (Session A) → ℕ → Type 0} → IsStable P → (k : ℕ) (s : Step A) → Holds P s.server_state → Holds P (shut k s).server_state
by_shut law k s is = law.some (λ t. not (is_at k t)) s.server_state.sessions s.server_state.next is

by_put : {A : Type 0} (P : List (Session A) → ℕ → Type 0) (o : Option ℕ) (a : A) (s : Step A) → Holds P s.server_state → Holds P (put_where o a s).server_state
by_put P None a s is = is
by_put P (Some k) a s is = is

pub by_part : {A : Type 0} {P : List (Session A) → ℕ → Type 0} → IsStable P → (say : ItemOut → A) (o : Option ℕ) (error : A) (s : Step A) → Holds P s.server_state → Holds P (part_where say o error s).server_state
by_part law say None error s is = is
by_part law say (Some k) error s is = by_shut law k (put k (say Closing) (put k error s)) is

by_ask : {A : Type 0} {P : List (Session A) → ℕ → Type 0} → IsStable P → (say : ItemOut → A) (n : ℕ) (o : Option ℕ) (due : Bool) (s : Step A) → Holds P s.server_state → Holds P (ask_where say n o due s).server_state
by_ask law say n o false s is = is
by_ask law say n None true s is = is
by_ask law say n (Some k) true s is = by_changed law n (asks true) (λ t. refl) s.server_state.sessions s.server_state.next is

by_queue : {A : Type 0} {P : List (Session A) → ℕ → Type 0} → IsStable P → (say : ItemOut → A) (n : ℕ) (a : A) (t : SessionInfo) (s : Step A) → Holds P s.server_state → Holds P (queue say n a t s).server_state
by_queue {P = P} law say n a t s is =
    let u = in_sessions (with_session n (waits a)) s in
    by_ask law say n t.conn (is_due t) (put_where t.conn a u) (by_put P t.conn a u (by_changed law n (waits a) (λ x. refl) s.server_state.sessions s.server_state.next is))

by_overflow : {A : Type 0} {P : List (Session A) → ℕ → Type 0} → IsStable P → (say : ItemOut → A) (n : ℕ) (t : SessionInfo) (s : Step A) → Holds P s.server_state → Holds P (overflow say n t s).server_state
by_overflow law say n t s is =
    by_part law say t.conn (say (error_item ResourceConstraint)) (in_sessions (without n) s) (law.some (λ x. not (x.shown.number == n)) s.server_state.sessions s.server_state.next is)

by_steps : {A : Type 0} (P : List (Session A) → ℕ → Type 0) (b : Bool) (s t : Step A) → Holds P s.server_state → Holds P t.server_state → Holds P (cond b s t).server_state
by_steps P true s t a b = a
by_steps P false s t a b = b

by_sent : {A : Type 0} {P : List (Session A) → ℕ → Type 0} → IsStable P → (say : ItemOut → A) (n : ℕ) (a : A) (o : Option SessionInfo) (s : Step A) → Holds P s.server_state → Holds P (send_by_info say n a o s).server_state
by_sent law say n a None s is = is
by_sent {P = P} law say n a (Some t) s is =
    by_steps P (not t.counted) _ _ (by_put P t.conn a s is)
    (by_steps P (t.waiting == MOST_UNACKNOWLEDGED) _ _ (by_overflow law say n t s is) (by_queue law say n a t s is))

by_archived : {A : Type 0} (P : List (Session A) → ℕ → Type 0) (e : EntryView) (account : ℕ) (o : Option Kept) (h : ServerState A) → Holds P h → Holds P (archived_in e account o h)
by_archived P e account None h is = is
by_archived P e account (Some kept) h is = is

by_act : {A : Type 0} {P : List (Session A) → ℕ → Type 0} → IsStable P → (say : ItemOut → A) (a : Act A) (s : Step A) → Holds P s.server_state → Holds P (act say a s).server_state
by_act law say (steps.Say k a) s is = is
by_act law say (steps.Close k) s is = by_shut law k s is
by_act law say (steps.Enter k phase) s is = is
by_act law say (steps.Fail k left) s is = is
by_act law say (steps.Bind account resource k) s is =
    law.more account resource k _ s.server_state.next (by_less law (session_named account resource s.server_state.sessions) s.server_state.sessions s.server_state.next is)
by_act law say (steps.Resume previd account h k) s is = by_resumed law h k (session_resumed previd account s.server_state.sessions) s.server_state.sessions s.server_state.next is
by_act law say (steps.Enable n resume) s is = by_changed law n (enables resume) (λ t. refl) s.server_state.sessions s.server_state.next is
by_act law say (steps.Acknowledge n h) s is = by_changed law n (acknowledged h) (λ t. refl) s.server_state.sessions s.server_state.next is
by_act law say (steps.Ask n on) s is = by_changed law n (asks on) (λ t. refl) s.server_state.sessions s.server_state.next is
by_act law say (steps.Handle n) s is = by_changed law n handles (λ t. refl) s.server_state.sessions s.server_state.next is
by_act law say (steps.Present n available priority) s is = by_changed law n (presents available priority) (λ t. refl) s.server_state.sessions s.server_state.next is
by_act law say (steps.Copy n on) s is = by_changed law n (copies on) (λ t. refl) s.server_state.sessions s.server_state.next is
by_act law say (steps.Send n a) s is = by_sent law say n a (info_of n s.server_state.sessions) s is
by_act {P = P} law say (steps.Archive account e) s is = by_archived P e account (archive_at account s.server_state) s.server_state is
by_act law say (steps.Tell from to origin) s is = is

pub by_acted : {A : Type 0} {P : List (Session A) → ℕ → Type 0} → IsStable P → (say : ItemOut → A) (acts : List (Act A)) (s : Step A) → Holds P s.server_state → Holds P (acted say acts s).server_state
by_acted law say [] s is = is
by_acted law say (a ∷ acts) s is = by_acted law say acts (act say a s) (by_act law say a s is)

-- ---- items

pub by_items : {A : Type 0} {P : List (Session A) → ℕ → Type 0} → IsStable P → (say : ItemOut → A) (k : ℕ) (items : List Item) (s : Step A) → Holds P s.server_state → Holds P (after_items say k items s).server_state
by_items law say k [] s is = is
by_items law say k (i ∷ items) s is = by_items law say k items (after_item say k i s) (by_acted law say (at_open say k i (standing_at k s.server_state) s.server_state) s is)

by_fault : {A : Type 0} {P : List (Session A) → ℕ → Type 0} → IsStable P → (say : ItemOut → A) (k : ℕ) (o : Option Fault) (s : Step A) → Holds P s.server_state → Holds P (after_fault say k o s).server_state
by_fault law say k None s is = is
by_fault law say k (Some f) s is = by_acted law say (at_fault say k f (standing_at k s.server_state) s.server_state) s is

by_turn : {A : Type 0} {P : List (Session A) → ℕ → Type 0} → IsStable P → (say : ItemOut → A) (k : ℕ) (t : Turn) (s : Step A) → Holds P s.server_state → Holds P (after_turn say k t s).server_state
by_turn law say k t s is = by_fault law say k t.state.fault (after_items say k t.items s) (by_items law say k t.items s is)

by_piece : {A : Type 0} {P : List (Session A) → ℕ → Type 0} → IsStable P → (say : ItemOut → A) (k : ℕ) (piece : List ℕ) (o : Option State) (s : Step A) → Holds P s.server_state → Holds P (at_piece say k piece o s).server_state
by_piece law say k piece None s is = is
by_piece law say k piece (Some f) s is = by_turn law say k (turn_of piece f) s is

-- ---- events

by_moment : {A : Type 0} {P : List (Session A) → ℕ → Type 0} → IsStable P → (now : ℕ) (h : ServerState A) → Holds P h → Holds P (at_moment now h)
by_moment law now h is = law.some (λ s. not (is_expired _ s)) h.sessions h.next is

by_gone : {A : Type 0} {P : List (Session A) → ℕ → Type 0} → IsStable P → (k : ℕ) (h : ServerState A) → Holds P h → Holds P (gone_at k h)
by_gone law k h is = by_lost law h.moment (session_at k h.sessions) h.sessions h.next is

by_stopped : {A : Type 0} {P : List (Session A) → ℕ → Type 0} → IsStable P → (say : ItemOut → A) (k : ℕ) (piece : List ℕ) (done now : ℕ) (o : Option State) (r : Run A) → Holds P r.server.server_state → Holds P (stopped_in say k piece done now o r).server.server_state
by_stopped law say k piece done now None r is = is
by_stopped law say k piece done now (Some f) r is =
    let front = take done (turn_of piece f).items in
    let start = begun now r.server.server_state r.outs in
    by_gone law k (after_items say k front start).server_state (by_items law say k front start (by_moment law now r.server.server_state is))

by_event : {A : Type 0} {P : List (Session A) → ℕ → Type 0} → IsStable P → (say : ItemOut → A) (event : Event) (r : Run A) → Holds P r.server.server_state → Holds P (after_event say event r).server.server_state
by_event law say (Connect k entropy now) r is = by_moment law now r.server.server_state is
by_event law say (Bytes k piece now) r is = by_piece law say k piece (framer_at k r.server.framers) (begun now r.server.server_state r.outs) (by_moment law now r.server.server_state is)
by_event law say (Stop k piece done now) r is = by_stopped law say k piece done now (framer_at k r.server.framers) r is
by_event law say (Gone k now) r is = by_gone law k (at_moment now r.server.server_state) (by_moment law now r.server.server_state is)
by_event law say (Tick now) r is = by_moment law now r.server.server_state is

pub by_events : {A : Type 0} {P : List (Session A) → ℕ → Type 0} → IsStable P → (say : ItemOut → A) (events : List Event) (r : Run A) → Holds P r.server.server_state → Holds P (after_events say events r).server.server_state
by_events law say [] r is = is
by_events law say (event ∷ events) r is = by_events law say events (after_event say event r) (by_event law say event r is)
