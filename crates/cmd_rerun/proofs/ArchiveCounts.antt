-- No event makes or drops an archive, so that each account has its own to the end.
use Rattle.std.proofs.Common.{◌≡◌, ◌==◌, not, ℕ, suc, Bool, true, false, List, [], ◌∷◌, length, map, Option, Some, None, ap, cond, refl, ◌∙◌, arith}
use Rattle.std.proofs.lemmas.List.{length-set}
use Rattle.sm_acks.specs.declared.end.TheConstants.{MOST_UNACKNOWLEDGED}
use Rattle.mam_archive.specs.Entries.{EntryView}
use Rattle.xml_framer.specs.declared.fault.Fault.{Fault}
use Rattle.xml_framer.specs.declared.items.Item.{Item}
use Rattle.xml_framer.specs.States as framing
use Rattle.xml_framer.specs.States.{Turn}
use Rattle.cmd_journal.specs.AccountsFiles.{AccountsView}
use Rattle.cmd_journal.specs.Journals.{Connect, EventView, Gone, InputView, Piece}
use Rattle.cmd_journal.specs.declared.accounts_file.Registration.{Registration}
use Rattle.cmd_journal.specs.Texts.{NamedView}
use Rattle.sm_live.specs.Sessions.{info_of, waits, with_session, without}
use Rattle.sm_live.specs.declared.told.SessionInfo.{SessionInfo}
use Rattle.im_replies.specs.Streams.{error_item}
use Rattle.im_replies.specs.declared.conditions.StreamCondition.TheVariants.{ResourceConstraint}
use Rattle.srv_state.specs.State.{Kept, ServerState, Step, archive_at}
use Rattle.srv_state.specs.Steps.{Act, Acknowledge, Archive, Ask, Bind, Close, Copy, Enable, Enter, Fail, Handle, Present, Resume, Say, Send, Tell, act, acted, appended, archived_in, ask_where, in_sessions, is_due, overflow, part_where, put_where, queue, send_by_info}
use Rattle.srv_state.specs.Streams.{standing_at}
use Rattle.cmd_rerun.specs.Reruns.{Run, accounts_at, after_event, after_events, archives_after, named_archives, run_at_start}
use Rattle.cmd_schedule.specs.Schedules.{keep_of}
use Rattle.srv_core.specs.Configs.{archives_of}
use Rattle.srv_core.specs.Events.{after_fault, after_turn, at_fault, at_piece, begun, framer_at, turn_of}
use Rattle.srv_core.specs.Table.{after_item, after_items, at_open}
use Rattle.xml_writer.specs.Items.{ItemOut, written_item}

abbrev count : {A : Type 0} → Step A → ℕ
count s = length s.server_state.archives

-- ---- the small steps

same_if : {A : Type 0} (b : Bool) (t u : Step A) (n : ℕ) → count t ≡ n → count u ≡ n → count (cond b t u) ≡ n
same_if true t u n p q = p
same_if false t u n p q = q

same_put_where : {A : Type 0} (o : Option ℕ) (a : A) (s : Step A) → count (put_where o a s) ≡ count s
same_put_where None a s = refl
same_put_where (Some k) a s = refl

same_part_where : {A : Type 0} (say : ItemOut → A) (o : Option ℕ) (error : A) (s : Step A) → count (part_where say o error s) ≡ count s
same_part_where say None error s = refl
same_part_where say (Some k) error s = refl

same_ask_where : {A : Type 0} (say : ItemOut → A) (n : ℕ) (o : Option ℕ) (b : Bool) (s : Step A) → count (ask_where say n o b s) ≡ count s
same_ask_where say n o false s = refl
same_ask_where say n None true s = refl
same_ask_where say n (Some k) true s = refl

same_queue : {A : Type 0} (say : ItemOut → A) (n : ℕ) (a : A) (t : SessionInfo) (s : Step A) → count (queue say n a t s) ≡ count s
same_queue say n a t s =
    same_ask_where say n t.conn (is_due t) (put_where t.conn a (in_sessions (with_session n (waits a)) s))
    ∙ same_put_where t.conn a (in_sessions (with_session n (waits a)) s)

same_overflow : {A : Type 0} (say : ItemOut → A) (n : ℕ) (t : SessionInfo) (s : Step A) → count (overflow say n t s) ≡ count s
same_overflow say n t s = same_part_where say t.conn (say (error_item ResourceConstraint)) (in_sessions (without n) s)

same_send : {A : Type 0} (say : ItemOut → A) (n : ℕ) (a : A) (o : Option SessionInfo) (s : Step A) → count (send_by_info say n a o s) ≡ count s
same_send say n a None s = refl
same_send say n a (Some t) s =
    same_if (not t.counted) (put_where t.conn a s) (cond (t.waiting == MOST_UNACKNOWLEDGED) (overflow say n t s) (queue say n a t s)) (count s)
    (same_put_where t.conn a s)
    (same_if (t.waiting == MOST_UNACKNOWLEDGED) (overflow say n t s) (queue say n a t s) (count s) (same_overflow say n t s) (same_queue say n a t s))

-- an archive takes an entry and stays where it is
same_archived : {A : Type 0} (e : EntryView) (account : ℕ) (o : Option Kept) (h : ServerState A) → length (archived_in e account o h).archives ≡ length h.archives
same_archived e account None h = refl
same_archived e account (Some kept) h = length-set h.archives account (appended e kept)

same_act : {A : Type 0} (say : ItemOut → A) (a : Act A) (s : Step A) → count (act say a s) ≡ count s
same_act say (Say k a) s = refl
same_act say (Close k) s = refl
same_act say (Enter k phase) s = refl
same_act say (Fail k left) s = refl
same_act say (Bind account resource k) s = refl
same_act say (Resume previd account h k) s = refl
same_act say (Enable n resume) s = refl
same_act say (Acknowledge n h) s = refl
same_act say (Ask n on) s = refl
same_act say (Handle n) s = refl
same_act say (Present n available priority) s = refl
same_act say (Copy n on) s = refl
same_act say (Send n a) s = same_send say n a (info_of n s.server_state.sessions) s
same_act say (Archive account e) s = same_archived e account (archive_at account s.server_state) s.server_state
same_act say (Tell from to origin) s = refl

same_acted : {A : Type 0} (say : ItemOut → A) (acts : List (Act A)) (s : Step A) → count (acted say acts s) ≡ count s
same_acted say [] s = refl
same_acted say (a ∷ more) s = same_acted say more (act say a s) ∙ same_act say a s

-- ---- events

same_items : {A : Type 0} (say : ItemOut → A) (k : ℕ) (items : List Item) (s : Step A) → count (after_items say k items s) ≡ count s
same_items say k [] s = refl
same_items say k (i ∷ items) s = same_items say k items (after_item say k i s) ∙ same_acted say (at_open say k i (standing_at k s.server_state) s.server_state) s

same_fault : {A : Type 0} (say : ItemOut → A) (k : ℕ) (o : Option Fault) (s : Step A) → count (after_fault say k o s) ≡ count s
same_fault say k None s = refl
same_fault say k (Some f) s = same_acted say (at_fault say k f (standing_at k s.server_state) s.server_state) s

same_turn : {A : Type 0} (say : ItemOut → A) (k : ℕ) (t : Turn) (s : Step A) → count (after_turn say k t s) ≡ count s
same_turn say k t s = same_fault say k t.state.fault (after_items say k t.items s) ∙ same_items say k t.items s

same_piece : {A : Type 0} (say : ItemOut → A) (k : ℕ) (piece : List ℕ) (o : Option framing.State) (s : Step A) → count (at_piece say k piece o s) ≡ count s
same_piece say k piece None s = refl
same_piece say k piece (Some f) s = same_turn say k (turn_of piece f) s

same_event : (event : EventView) (r : Run) → length (after_event event r).server.server_state.archives ≡ length r.server.server_state.archives
same_event (Connect k now entropy) r = refl
same_event (Piece k now bytes) r = same_piece written_item k bytes (framer_at k r.server.framers) (begun now r.server.server_state r.outs)
same_event (Gone k now) r = refl

same_events : (events : List EventView) (r : Run) → length (after_events events r).server.server_state.archives ≡ length r.server.server_state.archives
same_events [] r = refl
same_events (event ∷ events) r = same_events events (after_event event r) ∙ same_event event r

-- ---- names

as_many_archives : (domain : List ℕ) (keep : ℕ) (rs : List Registration) → length (archives_of domain keep (accounts_at domain rs)) ≡ length rs
as_many_archives domain keep [] = refl
as_many_archives domain keep (r ∷ rs) = ap suc (as_many_archives domain keep rs)

names_of_all : (rs : List Registration) (archives : List Kept) → length archives ≡ length rs → map (λ (a : NamedView). a.name) (named_archives rs archives) ≡ map (λ (r : Registration). r.name) rs
names_of_all [] archives many = refl
names_of_all (r ∷ rs) [] many = absurd (omega (arith, many))
names_of_all (r ∷ rs) (kept ∷ archives) many =
    let fewer : length archives ≡ length rs = omega (arith, many) in ap (λ l. r.name ∷ l) (names_of_all rs archives fewer)

pub accounts_told : (input : InputView) → map (λ (a : NamedView). a.name) (archives_after input) ≡ map (λ (r : Registration). r.name) input.accounts.accounts
accounts_told input =
    let file = input.accounts in
    names_of_all file.accounts (after_events input.events (run_at_start file)).server.server_state.archives
    (same_events input.events (run_at_start file) ∙ as_many_archives file.domain (keep_of file.version) file.accounts)
