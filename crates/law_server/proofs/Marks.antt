-- What acts mean for archives, and for what is told of them.
use Rattle.std.proofs.Common.{◌≡◌, ℕ, ◌==◌, Bool, true, false, not, cond, List, [], ◌∷◌, ◌++◌, Option, Some, None, append-nil, refl, ap, ◌∙◌}
use Rattle.std.proofs.lemmas.List.Elements.{filter-append}
use Rattle.std.specs.List.{slice_get, slice_set}
use Rattle.sm_acks.specs.declared.end.TheConstants.{MOST_UNACKNOWLEDGED}
use Rattle.mam_archive.specs.Entries.{EntryView}
use Rattle.srv_state.specs.State.{Kept, Out, Put, ServerState, Shut, Step, Took, archive_at}
use Rattle.srv_state.specs.Steps as steps
use Rattle.srv_state.specs.Steps.{Act, act, acted, appended, archived_in, ask_where, in_server_state, in_sessions, is_due, overflow, part, part_where, put, put_where, queue, send_by_info, shut}
use Rattle.sm_live.specs.Sessions.{asks, info_of, waits, with_session, without}
use Rattle.sm_live.specs.declared.told.SessionInfo.{SessionInfo}
use Rattle.srv_login.specs.declared.account.Account.{Account}
use Rattle.im_replies.specs.Management.{request_item}
use Rattle.im_replies.specs.Streams.{error_item}
use Rattle.im_replies.specs.declared.conditions.StreamCondition.TheVariants.{ResourceConstraint}
use Rattle.law_server.specs.Taken.{takes_reported, tells_take}
use Rattle.xml_writer.specs.Items.{Closing, ItemOut}

-- an entry for an account's archive, or that a message was archived
pub data Mark : Type 0 where
  Entry : ℕ → EntryView → Mark
  Notice : List ℕ → List ℕ → List ℕ → Mark

abbrev pub marked : {A : Type 0} → Act A → List Mark → List Mark
marked (steps.Archive account e) more = Entry account e ∷ more
marked (steps.Tell from to origin) more = Notice from to origin ∷ more
marked a more = more

abbrev pub marks : {A : Type 0} → List (Act A) → List Mark
marks [] = []
marks (a ∷ acts) = marked a (marks acts)

-- a server but for its connections and sessions, and what it told of messages that it took
pub record Books (A : Type 0) : Type 0 where
  pub domain : List ℕ
  pub accounts : List Account
  pub moment : ℕ
  pub archives : List Kept
  pub takes : List (Out A)

abbrev pub books_with : {A : Type 0} → ServerState A → List (Out A) → Books A
books_with h takes = record { domain = h.domain; accounts = h.accounts; moment = h.moment; archives = h.archives; takes = takes }

abbrev pub books_of : {A : Type 0} → Step A → Books A
books_of s = books_with s.server_state (takes_reported s.outs)

-- the archives with an entry more in the account's, where there is one
abbrev pub with_entry : EntryView → ℕ → Option Kept → List Kept → List Kept
with_entry e account None archives = archives
with_entry e account (Some kept) archives = slice_set archives account (appended e kept)

abbrev pub entered : {A : Type 0} → EntryView → ℕ → Books A → Books A
entered e account b = record b { archives = with_entry e account (slice_get b.archives account) b.archives }

abbrev pub noticed : {A : Type 0} → List ℕ → List ℕ → List ℕ → Books A → Books A
noticed from to origin b = record b { takes = b.takes ++ Took from to origin ∷ [] }

abbrev pub marking : {A : Type 0} → Mark → Books A → Books A
marking (Entry account e) b = entered e account b
marking (Notice from to origin) b = noticed from to origin b

abbrev pub all_marking : {A : Type 0} → List Mark → Books A → Books A
all_marking [] b = b
all_marking (m ∷ more) b = all_marking more (marking m b)

-- ---- what leaves them as they are

put_books : {A : Type 0} (k : ℕ) (a : A) (s : Step A) → books_of (put k a s) ≡ books_of s
put_books k a s = ap (books_with s.server_state) (filter-append tells_take s.outs (Put k a ∷ []) ∙ append-nil (takes_reported s.outs))

shut_books : {A : Type 0} (k : ℕ) (s : Step A) → books_of (shut k s) ≡ books_of s
shut_books k s = ap (books_with s.server_state) (filter-append tells_take s.outs (Shut k ∷ []) ∙ append-nil (takes_reported s.outs))

put_where_books : {A : Type 0} (o : Option ℕ) (a : A) (s : Step A) → books_of (put_where o a s) ≡ books_of s
put_where_books None a s = refl
put_where_books (Some k) a s = put_books k a s

part_books : {A : Type 0} (say : ItemOut → A) (k : ℕ) (error : A) (s : Step A) → books_of (part say k error s) ≡ books_of s
part_books say k error s = shut_books k (put k (say Closing) (put k error s)) ∙ put_books k (say Closing) (put k error s) ∙ put_books k error s

part_where_books : {A : Type 0} (say : ItemOut → A) (o : Option ℕ) (error : A) (s : Step A) → books_of (part_where say o error s) ≡ books_of s
part_where_books say None error s = refl
part_where_books say (Some k) error s = part_books say k error s

ask_books : {A : Type 0} (say : ItemOut → A) (n : ℕ) (o : Option ℕ) (due : Bool) (s : Step A) → books_of (ask_where say n o due s) ≡ books_of s
ask_books say n o false s = refl
ask_books say n None true s = refl
ask_books say n (Some k) true s = put_books k (say request_item) (in_sessions (with_session n (asks true)) s)

queue_books : {A : Type 0} (say : ItemOut → A) (n : ℕ) (a : A) (t : SessionInfo) (s : Step A) → books_of (queue say n a t s) ≡ books_of s
queue_books say n a t s =
    let u = in_sessions (with_session n (waits a)) s in
    ask_books say n t.conn (is_due t) (put_where t.conn a u) ∙ put_where_books t.conn a u

overflow_books : {A : Type 0} (say : ItemOut → A) (n : ℕ) (t : SessionInfo) (s : Step A) → books_of (overflow say n t s) ≡ books_of s
overflow_books say n t s = part_where_books say t.conn (say (error_item ResourceConstraint)) (in_sessions (without n) s)

either : {A : Type 0} (b : Bool) (x y : Step A) (books : Books A) → books_of x ≡ books → books_of y ≡ books → books_of (cond b x y) ≡ books
either true x y books here there = here
either false x y books here there = there

send_books : {A : Type 0} (say : ItemOut → A) (n : ℕ) (a : A) (o : Option SessionInfo) (s : Step A) → books_of (send_by_info say n a o s) ≡ books_of s
send_books say n a None s = refl
send_books say n a (Some t) s =
    either (not t.counted) _ _ _ (put_where_books t.conn a s)
    (either (t.waiting == MOST_UNACKNOWLEDGED) _ _ _ (overflow_books say n t s) (queue_books say n a t s))

-- ---- each act

archive_books : {A : Type 0} (e : EntryView) (account : ℕ) (o : Option Kept) (s : Step A) → books_of (in_server_state (archived_in e account o) s) ≡ record (books_of s) { archives = with_entry e account o s.server_state.archives }
archive_books e account None s = refl
archive_books e account (Some kept) s = refl

pub act_books : {A : Type 0} (say : ItemOut → A) (a : Act A) (s : Step A) → books_of (act say a s) ≡ all_marking (marked a []) (books_of s)
act_books say (steps.Say k a) s = put_books k a s
act_books say (steps.Close k) s = shut_books k s
act_books say (steps.Enter k phase) s = refl
act_books say (steps.Fail k left) s = refl
act_books say (steps.Bind account resource k) s = refl
act_books say (steps.Resume previd account h k) s = refl
act_books say (steps.Enable n resume) s = refl
act_books say (steps.Acknowledge n h) s = refl
act_books say (steps.Ask n on) s = refl
act_books say (steps.Handle n) s = refl
act_books say (steps.Present n available priority) s = refl
act_books say (steps.Copy n on) s = refl
act_books say (steps.Send n a) s = send_books say n a (info_of n s.server_state.sessions) s
act_books say (steps.Archive account e) s = archive_books e account (archive_at account s.server_state) s
act_books say (steps.Tell from to origin) s = ap (books_with s.server_state) (filter-append tells_take s.outs (Took from to origin ∷ []))

marked_more : {A : Type 0} (a : Act A) (more : List Mark) (b : Books A) → all_marking more (all_marking (marked a []) b) ≡ all_marking (marked a more) b
marked_more (steps.Archive account e) more b = refl
marked_more (steps.Tell from to origin) more b = refl
marked_more a more b = refl

pub acted_books : {A : Type 0} (say : ItemOut → A) (acts : List (Act A)) (s : Step A) → books_of (acted say acts s) ≡ all_marking (marks acts) (books_of s)
acted_books say [] s = refl
acted_books say (a ∷ acts) s =
    acted_books say acts (act say a s) ∙ ap (all_marking (marks acts)) (act_books say a s) ∙ marked_more a (marks acts) (books_of s)
