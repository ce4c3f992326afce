-- Sessions and logins stay of accounts that exist.
use Rattle.std.proofs.Common.{◌≡◌, ℕ, ◌==◌, Bool, true, false, not, cond, List, [], ◌∷◌, ◌++◌, Option, Some, None, refl, sym, ap, subst, ◌∙◌, inl, inr}
use Rattle.std.proofs.lemmas.Bool.{cases_Bool}
use Rattle.std.proofs.lemmas.Option.{none-some, same_Some}
use Rattle.std.specs.BTreeMap.{insert_entry}
use Rattle.std.specs.List.{AllByRecursion, filter, find}
use Rattle.std.specs.Map.{lookup, remove_entry, set_value}
use Rattle.std.specs.Ordering.{match_ordering, nat_cmp}
use Rattle.std.specs.declared.cmp.Ordering.{Ordering}
use Rattle.std.specs.declared.cmp.Ordering.TheVariants.{Equal, Greater, Less}
use Rattle.sm_acks.specs.declared.end.TheConstants.{MOST_UNACKNOWLEDGED}
use Rattle.mam_archive.specs.Entries.{EntryView}
use Rattle.srv_state.specs.Moments.{at_moment, fresh_conn, gone_at, with_fresh}
use Rattle.srv_state.specs.State.{Kept, ServerState, Step, archive_at, changed, conn_at, is_number, with_conn}
use Rattle.srv_state.specs.Steps as steps
use Rattle.srv_state.specs.Steps.{Act, act, acted, after_failure, archived_in, ask_where, in_phase, in_server_state, in_sessions, is_due, overflow, part_where, put, put_where, queue, send_by_info, shut}
use Rattle.srv_state.specs.declared.connection.Connection.{Connection}
use Rattle.sm_live.specs.Sessions.{Session, acknowledged, after_resume, asks, copies, enables, fresh, handles, info_of, is_at, is_expired, is_too_high, less, lost, parked, presents, resumes, session_at, session_named, session_resumed, waits, with_session, without}
use Rattle.sm_live.specs.declared.told.SessionInfo.{SessionInfo}
use Rattle.srv_login.specs.declared.account.Account.{Account}
use Rattle.im_replies.specs.Streams.{error_item}
use Rattle.im_replies.specs.declared.conditions.StreamCondition.TheVariants.{ResourceConstraint}
use Rattle.law_server.proofs.Marks.{Books, act_books, all_marking, books_of, marked}
use Rattle.law_server.specs.Accounts.{Exists, HaveAccounts, IsOfAccount}
use Rattle.xml_writer.specs.Items.{Closing, ItemOut}

-- ---- acts that name accounts that exist

abbrev fits : {A : Type 0} → List Account → Act A → Type 0 → Type 0
fits accounts (steps.Enter k phase) More = IsOfAccount accounts phase × More
fits accounts (steps.Bind account resource k) More = Exists accounts account × More
fits accounts a More = More

abbrev pub Fit : {A : Type 0} → List Account → List (Act A) → Type 0
Fit accounts [] = Unit {0}
Fit accounts (a ∷ acts) = fits accounts a (Fit accounts acts)

-- ---- sessions

abbrev Owned : {A : Type 0} → List Account → List (Session A) → Type 0
Owned {A = A} accounts ss = AllByRecursion (λ (s : Session A). Exists accounts s.shown.account) ss

owned_some : {A : Type 0} (accounts : List Account) (p : Session A → Bool) (ss : List (Session A)) → Owned accounts ss → Owned accounts (filter p ss)
owned_some accounts p [] owned = tt
owned_some accounts p (s ∷ ss) owned =
    elim (cases_Bool (p s)) [
      | inl stays ↦ rw stays (owned.0, owned_some accounts p ss owned.1)
      | inr goes ↦ rw goes (owned_some accounts p ss owned.1)
    ]

owned_more : {A : Type 0} (accounts : List Account) (ss : List (Session A)) (s : Session A) → Owned accounts ss → Exists accounts s.shown.account → Owned accounts (ss ++ s ∷ [])
owned_more accounts [] s owned is = (is, tt)
owned_more accounts (x ∷ ss) s owned is = (owned.0, owned_more accounts ss s owned.1 is)

owner_either : {A : Type 0} (b : Bool) (s t : Session A) → t.shown.account ≡ s.shown.account → (cond b t s).shown.account ≡ s.shown.account
owner_either true s t same = same
owner_either false s t same = refl

owned_changed : {A : Type 0} (accounts : List Account) (n : ℕ) (f : Session A → Session A) → ((s : Session A) → (f s).shown.account ≡ s.shown.account) → (ss : List (Session A)) → Owned accounts ss → Owned accounts (with_session n f ss)
owned_changed accounts n f same [] owned = tt
owned_changed accounts n f same (s ∷ ss) owned =
    (subst (Exists accounts) (sym (owner_either (s.shown.number == n) s (f s) (same s))) owned.0, owned_changed accounts n f same ss owned.1)

owned_less : {A : Type 0} (accounts : List Account) (o : Option (Session A)) (ss : List (Session A)) → Owned accounts ss → Owned accounts (less o ss)
owned_less accounts None ss owned = owned
owned_less accounts (Some s) ss owned = owned_some accounts (λ t. not (t.shown.number == s.shown.number)) ss owned

owned_either : {A : Type 0} (accounts : List Account) (b : Bool) (ss ts : List (Session A)) → Owned accounts ss → Owned accounts ts → Owned accounts (cond b ss ts)
owned_either accounts true ss ts a b = a
owned_either accounts false ss ts a b = b

owned_resumed : {A : Type 0} (accounts : List Account) (h k : ℕ) (o : Option (Session A)) (ss : List (Session A)) → Owned accounts ss → Owned accounts (after_resume h k o ss)
owned_resumed accounts h k None ss owned = owned
owned_resumed accounts h k (Some s) ss owned =
    owned_either accounts (is_too_high h s) _ _ (owned_some accounts (λ t. not (t.shown.number == s.shown.number)) ss owned) (owned_changed accounts s.shown.number (resumes h k) (λ t. refl) ss owned)

owned_lost : {A : Type 0} (accounts : List Account) (now : ℕ) (o : Option (Session A)) (ss : List (Session A)) → Owned accounts ss → Owned accounts (lost now o ss)
owned_lost accounts now None ss owned = owned
owned_lost accounts now (Some s) ss owned =
    owned_either accounts s.shown.resumable _ _ (owned_changed accounts s.shown.number (parked now) (λ t. refl) ss owned) (owned_some accounts (λ t. not (t.shown.number == s.shown.number)) ss owned)

-- ---- connections

abbrev LoggedIn : List Account → List (ℕ × Connection) → Type 0
LoggedIn accounts es = AllByRecursion (λ (e : ℕ × Connection). IsOfAccount accounts e.1.phase) es

logins_set : (accounts : List Account) (k : ℕ) (c : Connection) (es : List (ℕ × Connection)) → IsOfAccount accounts c.phase → LoggedIn accounts es → LoggedIn accounts (set_value (is_number k) es c)
logins_set accounts k c [] is all = tt
logins_set accounts k c (e ∷ es) is all =
    elim (cases_Bool (is_number k e.0)) [
      | inl here ↦ rw here (is, all.1)
      | inr other ↦ rw other (all.0, logins_set accounts k c es is all.1)
    ]

logins_without : (accounts : List Account) (k : ℕ) (es : List (ℕ × Connection)) → LoggedIn accounts es → LoggedIn accounts (remove_entry (is_number k) es)
logins_without accounts k [] all = tt
logins_without accounts k (e ∷ es) all =
    elim (cases_Bool (is_number k e.0)) [
      | inl here ↦ rw here all.1
      | inr other ↦ rw other (all.0, logins_without accounts k es all.1)
    ]

logins_with : (accounts : List Account) (k : ℕ) (c : Connection) (es : List (ℕ × Connection)) → IsOfAccount accounts c.phase → LoggedIn accounts es → LoggedIn accounts (insert_entry nat_cmp es k c)
logins_with accounts k c [] is all = (is, tt)
logins_with accounts k c (e ∷ es) is all = by (nat_cmp k e.0) (logins_with accounts k c es is all.1)
  where
    by : (o : Ordering) → LoggedIn accounts (insert_entry nat_cmp es k c) → LoggedIn accounts (match_ordering o ((k, c) ∷ e ∷ es) ((e.0, c) ∷ es) (e ∷ insert_entry nat_cmp es k c))
    by Less rest = (is, (all.0, all.1))
    by Equal rest = (is, all.1)
    by Greater rest = (all.0, rest)

logins_changed : (accounts : List Account) (k : ℕ) (f : Connection → Connection) (o : Option Connection) (es : List (ℕ × Connection)) → ((c : Connection) → IsOfAccount accounts (f c).phase) → LoggedIn accounts es → LoggedIn accounts (changed k f o es)
logins_changed accounts k f None es each all = all
logins_changed accounts k f (Some c) es each all = logins_set accounts k (f c) es (each c) all

-- the login of a connection is of an account that exists
pub login_at : {A : Type 0} (k : ℕ) (h : ServerState A) (c : Connection) → HaveAccounts h → conn_at k h ≡ Some c → IsOfAccount h.accounts c.phase
login_at k h c have found = go h.conns have.logins found
  where
    go : (es : List (ℕ × Connection)) → LoggedIn h.accounts es → lookup (is_number k) es ≡ Some c → IsOfAccount h.accounts c.phase
    go [] all is = absurd (none-some c is)
    go (e ∷ es) all is =
        elim (cases_Bool (is_number k e.0)) [
          | inl here ↦ subst (λ (x : Connection). IsOfAccount h.accounts x.phase) (same_Some e.1 c (rw here at is)) all.0
          | inr other ↦ go es all.1 (rw other at is)
        ]

-- and so is the session on it
pub owner_at : {A : Type 0} (k : ℕ) (h : ServerState A) (s : Session A) → HaveAccounts h → session_at k h.sessions ≡ Some s → Exists h.accounts s.shown.account
owner_at k h s have found = owner_found h.accounts (is_at k) h.sessions s have.sessions found
  where
    owner_found : {A : Type 0} (accounts : List Account) (p : Session A → Bool) (ss : List (Session A)) (t : Session A) → Owned accounts ss → find p ss ≡ Some t → Exists accounts t.shown.account
    owner_found accounts p [] t owned is = absurd (none-some t is)
    owner_found {A = A} accounts p (x ∷ ss) t owned is =
        elim (cases_Bool (p x)) [
          | inl here ↦ subst (λ (y : Session A). Exists accounts y.shown.account) (same_Some x t (rw here at is)) owned.0
          | inr other ↦ owner_found accounts p ss t owned.1 (rw other at is)
        ]

-- ---- events

pub accounts_at_moment : {A : Type 0} (now : ℕ) (h : ServerState A) → HaveAccounts h → HaveAccounts (at_moment now h)
accounts_at_moment now h have = record { sessions = owned_some h.accounts (λ s. not (is_expired _ s)) h.sessions have.sessions; logins = have.logins }

pub accounts_fresh : {A : Type 0} (k : ℕ) (entropy : List ℕ) (h : ServerState A) → HaveAccounts h → HaveAccounts (with_fresh k entropy h)
accounts_fresh k entropy h have = record { sessions = have.sessions; logins = logins_with h.accounts k (fresh_conn entropy) h.conns tt have.logins }

pub accounts_gone : {A : Type 0} (k : ℕ) (h : ServerState A) → HaveAccounts h → HaveAccounts (gone_at k h)
accounts_gone k h have = record { sessions = owned_lost h.accounts h.moment (session_at k h.sessions) h.sessions have.sessions; logins = logins_without h.accounts k h.conns have.logins }

-- ---- acts

with_owned : {A : Type 0} (s : Step A) (f : List (Session A) → List (Session A)) → (Owned s.server_state.accounts s.server_state.sessions → Owned s.server_state.accounts (f s.server_state.sessions)) → HaveAccounts s.server_state → HaveAccounts (in_sessions f s).server_state
with_owned s f owned have = record { sessions = owned have.sessions; logins = have.logins }

accounts_changed : {A : Type 0} (n : ℕ) (f : Session A → Session A) (s : Step A) → ((t : Session A) → (f t).shown.account ≡ t.shown.account) → HaveAccounts s.server_state → HaveAccounts (in_sessions (with_session n f) s).server_state
accounts_changed n f s same have = with_owned s (with_session n f) (owned_changed s.server_state.accounts n f same s.server_state.sessions) have

accounts_conn : {A : Type 0} (k : ℕ) (f : Connection → Connection) (s : Step A) → ((c : Connection) → IsOfAccount s.server_state.accounts (f c).phase) → HaveAccounts s.server_state → HaveAccounts (in_server_state (with_conn k f) s).server_state
accounts_conn k f s each have = record { sessions = have.sessions; logins = logins_changed s.server_state.accounts k f (conn_at k s.server_state) s.server_state.conns each have.logins }

accounts_shut : {A : Type 0} (k : ℕ) (s : Step A) → HaveAccounts s.server_state → HaveAccounts (shut k s).server_state
accounts_shut k s have = record { sessions = owned_some s.server_state.accounts (λ t. not (is_at k t)) s.server_state.sessions have.sessions; logins = logins_without s.server_state.accounts k s.server_state.conns have.logins }

accounts_put : {A : Type 0} (o : Option ℕ) (a : A) (s : Step A) → HaveAccounts s.server_state → HaveAccounts (put_where o a s).server_state
accounts_put None a s have = have
accounts_put (Some k) a s have = have

accounts_part : {A : Type 0} (say : ItemOut → A) (o : Option ℕ) (error : A) (s : Step A) → HaveAccounts s.server_state → HaveAccounts (part_where say o error s).server_state
accounts_part say None error s have = have
accounts_part say (Some k) error s have = accounts_shut k (put k (say Closing) (put k error s)) have

accounts_ask : {A : Type 0} (say : ItemOut → A) (n : ℕ) (o : Option ℕ) (due : Bool) (s : Step A) → HaveAccounts s.server_state → HaveAccounts (ask_where say n o due s).server_state
accounts_ask say n o false s have = have
accounts_ask say n None true s have = have
accounts_ask say n (Some k) true s have = accounts_changed n (asks true) s (λ t. refl) have

accounts_queue : {A : Type 0} (say : ItemOut → A) (n : ℕ) (a : A) (t : SessionInfo) (s : Step A) → HaveAccounts s.server_state → HaveAccounts (queue say n a t s).server_state
accounts_queue say n a t s have =
    let u = in_sessions (with_session n (waits a)) s in
    accounts_ask say n t.conn (is_due t) (put_where t.conn a u) (accounts_put t.conn a u (accounts_changed n (waits a) s (λ x. refl) have))

accounts_overflow : {A : Type 0} (say : ItemOut → A) (n : ℕ) (t : SessionInfo) (s : Step A) → HaveAccounts s.server_state → HaveAccounts (overflow say n t s).server_state
accounts_overflow say n t s have =
    accounts_part say t.conn (say (error_item ResourceConstraint)) (in_sessions (without n) s)
    (with_owned s (without n) (owned_some s.server_state.accounts (λ x. not (x.shown.number == n)) s.server_state.sessions) have)

accounts_either : {A : Type 0} (b : Bool) (s t : Step A) → HaveAccounts s.server_state → HaveAccounts t.server_state → HaveAccounts (cond b s t).server_state
accounts_either true s t a b = a
accounts_either false s t a b = b

accounts_sent : {A : Type 0} (say : ItemOut → A) (n : ℕ) (a : A) (o : Option SessionInfo) (s : Step A) → HaveAccounts s.server_state → HaveAccounts (send_by_info say n a o s).server_state
accounts_sent say n a None s have = have
accounts_sent say n a (Some t) s have =
    accounts_either (not t.counted) _ _ (accounts_put t.conn a s have)
    (accounts_either (t.waiting == MOST_UNACKNOWLEDGED) _ _ (accounts_overflow say n t s have) (accounts_queue say n a t s have))

accounts_archived : {A : Type 0} (e : EntryView) (account : ℕ) (o : Option Kept) (h : ServerState A) → HaveAccounts h → HaveAccounts (archived_in e account o h)
accounts_archived e account None h have = have
accounts_archived e account (Some kept) h have = record { sessions = have.sessions; logins = have.logins }

accounts_act : {A : Type 0} (say : ItemOut → A) (a : Act A) (s : Step A) (More : Type 0) → fits s.server_state.accounts a More → HaveAccounts s.server_state → HaveAccounts (act say a s).server_state
accounts_act say (steps.Say k a) s More fit have = have
accounts_act say (steps.Close k) s More fit have = accounts_shut k s have
accounts_act say (steps.Enter k phase) s More fit have = accounts_conn k (in_phase phase) s (λ c. fit.0) have
accounts_act say (steps.Fail k left) s More fit have = accounts_conn k (after_failure left) s (λ c. tt) have
accounts_act say (steps.Bind account resource k) s More fit have = record {
  sessions = owned_more s.server_state.accounts _ (fresh s.server_state.next account resource k) (owned_less s.server_state.accounts (session_named account resource s.server_state.sessions) s.server_state.sessions have.sessions) fit.0;
  logins = have.logins;
}
accounts_act say (steps.Resume previd account h k) s More fit have =
    with_owned s (λ sessions. after_resume h k (session_resumed previd account sessions) sessions) (owned_resumed s.server_state.accounts h k (session_resumed previd account s.server_state.sessions) s.server_state.sessions) have
accounts_act say (steps.Enable n resume) s More fit have = accounts_changed n (enables resume) s (λ t. refl) have
accounts_act say (steps.Acknowledge n h) s More fit have = accounts_changed n (acknowledged h) s (λ t. refl) have
accounts_act say (steps.Ask n on) s More fit have = accounts_changed n (asks on) s (λ t. refl) have
accounts_act say (steps.Handle n) s More fit have = accounts_changed n handles s (λ t. refl) have
accounts_act say (steps.Present n available priority) s More fit have = accounts_changed n (presents available priority) s (λ t. refl) have
accounts_act say (steps.Copy n on) s More fit have = accounts_changed n (copies on) s (λ t. refl) have
accounts_act say (steps.Send n a) s More fit have = accounts_sent say n a (info_of n s.server_state.sessions) s have
accounts_act say (steps.Archive account e) s More fit have = accounts_archived e account (archive_at account s.server_state) s.server_state have
accounts_act say (steps.Tell from to origin) s More fit have = have

rest_fits : {A : Type 0} (accounts : List Account) (a : Act A) (More : Type 0) → fits accounts a More → More
rest_fits accounts (steps.Enter k phase) More fit = fit.1
rest_fits accounts (steps.Bind account resource k) More fit = fit.1
rest_fits accounts a More fit = fit

marked_accounts : {A : Type 0} (a : Act A) (b : Books A) → (all_marking (marked a []) b).accounts ≡ b.accounts
marked_accounts (steps.Archive account e) b = refl
marked_accounts (steps.Tell from to origin) b = refl
marked_accounts a b = refl

same_accounts : {A : Type 0} (say : ItemOut → A) (a : Act A) (s : Step A) → (act say a s).server_state.accounts ≡ s.server_state.accounts
same_accounts say a s = ap (λ (b : Books _). b.accounts) (act_books say a s) ∙ marked_accounts a (books_of s)

pub accounts_acted : {A : Type 0} (say : ItemOut → A) (acts : List (Act A)) (s : Step A) → Fit s.server_state.accounts acts → HaveAccounts s.server_state → HaveAccounts (acted say acts s).server_state
accounts_acted say [] s fit have = have
accounts_acted say (a ∷ acts) s fit have =
    accounts_acted say acts (act say a s)
    (subst (λ accounts. Fit accounts acts) (sym (same_accounts say a s)) (rest_fits s.server_state.accounts a (Fit s.server_state.accounts acts) fit))
    (accounts_act say a s (Fit s.server_state.accounts acts) fit have)
