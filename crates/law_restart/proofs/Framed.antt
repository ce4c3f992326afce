-- What each step does to the numbers of open connections, and to the moments at which sessions were parked.
use Rattle.std.proofs.Common.{◌≡◌, ◌≤◌, ℕ, ◌==◌, Bool, true, false, not, cond, List, [], ◌∷◌, ◌++◌, Option, Some, None, append-nil, append_assoc, refl, sym, ap, subst, ◌∙◌, arith, inl, inr}
use Rattle.std.proofs.lemmas.Bool.{cases_Bool}
use Rattle.std.specs.BTreeMap.{insert_entry}
use Rattle.std.specs.List.{AllByRecursion, filter}
use Rattle.std.specs.Map.{remove_entry, set_value}
use Rattle.std.specs.Ordering.{match_ordering, nat_cmp}
use Rattle.std.specs.declared.cmp.Ordering.{Ordering}
use Rattle.std.specs.declared.cmp.Ordering.TheVariants.{Equal, Greater, Less}
use Rattle.im_replies.specs.Management.{request_item}
use Rattle.im_replies.specs.Streams.{error_item}
use Rattle.im_replies.specs.declared.conditions.StreamCondition.TheVariants.{ResourceConstraint}
use Rattle.law_restart.specs.Standing.{WasParkedBy, numbers_of}
use Rattle.law_server.proofs.Seats.{all_kept, all_mapped, number_same}
use Rattle.mam_archive.specs.Entries.{EntryView}
use Rattle.sm_live.specs.Sessions.{Session, acknowledged, after_resume, asks, copies, enables, fresh, handles, info_of, is_at, is_too_high, less, presents, resumes, session_named, session_resumed, waits, with_session, without}
use Rattle.sm_live.specs.declared.told.SessionInfo.{SessionInfo}
use Rattle.srv_core.specs.Events.{Framers, after_fault, at_fault, dropped}
use Rattle.srv_core.specs.Table.{after_item, after_items, at_open}
use Rattle.srv_state.specs.State.{Kept, Out, Put, Shut, Step, Took, archive_at, changed, conn_at, is_number, with_conn}
use Rattle.srv_state.specs.Steps as steps
use Rattle.srv_state.specs.Steps.{Act, act, acted, after_failure, archived_in, ask_where, in_phase, in_server_state, in_sessions, is_due, overflow, part, part_where, put, put_where, queue, send_by_info, shut}
use Rattle.srv_state.specs.Streams.{standing_at}
use Rattle.srv_state.specs.declared.connection.Connection.{Connection}
use Rattle.xml_framer.specs.declared.fault.Fault.{Fault}
use Rattle.xml_framer.specs.declared.items.Item.{Item}
use Rattle.xml_writer.specs.Items.{Closing, ItemOut}

-- ---- numbers

abbrev pub without_number : ℕ → List ℕ → List ℕ
without_number k [] = []
without_number k (j ∷ js) = cond (is_number k j) js (j ∷ without_number k js)

abbrev pub with_number : ℕ → List ℕ → List ℕ
with_number k [] = k ∷ []
with_number k (j ∷ js) = match_ordering (nat_cmp k j) (k ∷ j ∷ js) (j ∷ js) (j ∷ with_number k js)

pub numbers_removed : {V : Type 0} (k : ℕ) (es : List (ℕ × V)) → numbers_of (remove_entry (is_number k) es) ≡ without_number k (numbers_of es)
numbers_removed k [] = refl
numbers_removed k (e ∷ es) =
    elim (cases_Bool (is_number k e.0)) [
      | inl here ↦ rw here refl
      | inr other ↦ rw other (ap (λ (ns : List ℕ). e.0 ∷ ns) (numbers_removed k es))
    ]

pub numbers_set : {V : Type 0} (k : ℕ) (v : V) (es : List (ℕ × V)) → numbers_of (set_value (is_number k) es v) ≡ numbers_of es
numbers_set k v [] = refl
numbers_set k v (e ∷ es) =
    elim (cases_Bool (is_number k e.0)) [
      | inl here ↦ rw here refl
      | inr other ↦ rw other (ap (λ (ns : List ℕ). e.0 ∷ ns) (numbers_set k v es))
    ]

pub numbers_inserted : {V : Type 0} (k : ℕ) (v : V) (es : List (ℕ × V)) → numbers_of (insert_entry nat_cmp es k v) ≡ with_number k (numbers_of es)
numbers_inserted k v [] = refl
numbers_inserted {V = V} k v (e ∷ es) = by (nat_cmp k e.0) (numbers_inserted k v es)
  where
    by : (o : Ordering) → numbers_of (insert_entry nat_cmp es k v) ≡ with_number k (numbers_of es)
        → numbers_of (match_ordering o ((k, v) ∷ e ∷ es) ((e.0, v) ∷ es) (e ∷ insert_entry nat_cmp es k v)) ≡ match_ordering o (k ∷ e.0 ∷ numbers_of es) (e.0 ∷ numbers_of es) (e.0 ∷ with_number k (numbers_of es))
    by Less rest = refl
    by Equal rest = refl
    by Greater rest = ap (λ (ns : List ℕ). e.0 ∷ ns) rest

without_both : (j k : ℕ) (ns : List ℕ) → without_number j (without_number k ns) ≡ without_number k (without_number j ns)
without_both j k [] = refl
without_both j k (n ∷ ns) =
    elim (cases_Bool (is_number j n)) [
      | inl of_j ↦ elim (cases_Bool (is_number k n)) [
        | inl of_k ↦ rw (of_j, of_k) (ap (λ (x : ℕ). without_number x ns) (number_same j n of_j ∙ sym (number_same k n of_k)))
        | inr other ↦ rw (other, of_j) refl
      ]
      | inr other ↦ elim (cases_Bool (is_number k n)) [
        | inl of_k ↦ rw (other, of_k) refl
        | inr neither ↦ rw (neither, other, neither) (ap (λ (ms : List ℕ). n ∷ ms) (without_both j k ns))
      ]
    ]

-- ---- those of what was shut go

abbrev pub less_one : {A : Type 0} → Out A → List ℕ → List ℕ
less_one (Shut k) ns = without_number k ns
less_one (Put k a) ns = ns
less_one (Took from to origin) ns = ns

abbrev pub less_shut : {A : Type 0} → List (Out A) → List ℕ → List ℕ
less_shut [] ns = ns
less_shut (o ∷ outs) ns = less_shut outs (less_one o ns)

pub numbers_dropped : {A : Type 0} (outs : List (Out A)) (framers : Framers) → numbers_of (dropped outs framers) ≡ less_shut outs (numbers_of framers)
numbers_dropped [] framers = refl
numbers_dropped (Shut k ∷ outs) framers = numbers_dropped outs (remove_entry (is_number k) framers) ∙ ap (less_shut outs) (numbers_removed k framers)
numbers_dropped (Put k a ∷ outs) framers = numbers_dropped outs framers
numbers_dropped (Took from to origin ∷ outs) framers = numbers_dropped outs framers

pub less_shut_without : {A : Type 0} (k : ℕ) (outs : List (Out A)) (ns : List ℕ) → less_shut outs (without_number k ns) ≡ without_number k (less_shut outs ns)
less_shut_without k [] ns = refl
less_shut_without k (Shut j ∷ outs) ns = ap (less_shut outs) (without_both j k ns) ∙ less_shut_without k outs (without_number j ns)
less_shut_without k (Put j a ∷ outs) ns = less_shut_without k outs ns
less_shut_without k (Took from to origin ∷ outs) ns = less_shut_without k outs ns

less_shut-append : {A : Type 0} (a b : List (Out A)) (ns : List ℕ) → less_shut (a ++ b) ns ≡ less_shut b (less_shut a ns)
less_shut-append [] b ns = refl
less_shut-append (o ∷ a) b ns = less_shut-append a b (less_one o ns)

-- ---- steps

-- Outputs are added, and those connections that they tell to be shut are open no more, and no others. No session was parked
-- later than before.
pub record Shuts {A : Type 0} (s u : Step A) : Type 0 where
  pub more : List (Out A)
  pub added : u.outs ≡ s.outs ++ more
  pub numbers : numbers_of u.server_state.conns ≡ less_shut more (numbers_of s.server_state.conns)
  pub parked : (n : ℕ) → AllByRecursion (WasParkedBy n) s.server_state.sessions → AllByRecursion (WasParkedBy n) u.server_state.sessions

pub shuts_nothing : {A : Type 0} (s : Step A) → Shuts s s
shuts_nothing s = record { more = []; added = sym (append-nil s.outs); numbers = refl; parked = λ n all. all }

pub shuts_both : {A : Type 0} (s t u : Step A) → Shuts s t → Shuts t u → Shuts s u
shuts_both s t u a b = record {
  more = a.more ++ b.more;
  added = b.added ∙ ap (λ l. l ++ b.more) a.added ∙ append_assoc s.outs a.more b.more;
  numbers = b.numbers ∙ ap (less_shut b.more) a.numbers ∙ sym (less_shut-append a.more b.more (numbers_of s.server_state.conns));
  parked = λ n all. b.parked n (a.parked n all);
}

shuts_if : {A : Type 0} (b : Bool) (s t u : Step A) → Shuts s t → Shuts s u → Shuts s (cond b t u)
shuts_if true s t u a b = a
shuts_if false s t u a b = b

-- something is put out that tells of no shut connection
shuts_put : {A : Type 0} (j : ℕ) (a : A) (s : Step A) → Shuts s (put j a s)
shuts_put j a s = record { more = Put j a ∷ []; added = refl; numbers = refl; parked = λ n all. all }

shuts_put_where : {A : Type 0} (o : Option ℕ) (a : A) (s : Step A) → Shuts s (put_where o a s)
shuts_put_where None a s = shuts_nothing s
shuts_put_where (Some j) a s = shuts_put j a s

-- sessions alone are changed
shuts_sessions : {A : Type 0} (f : List (Session A) → List (Session A)) (s : Step A) → ((n : ℕ) → AllByRecursion (WasParkedBy n) s.server_state.sessions → AllByRecursion (WasParkedBy n) (f s.server_state.sessions)) → Shuts s (in_sessions f s)
shuts_sessions f s parked = record { more = []; added = sym (append-nil s.outs); numbers = refl; parked = parked }

parked_if : {A : Type 0} (n : ℕ) (b : Bool) (s t : Session A) → t.shown.parked_at ≡ s.shown.parked_at → WasParkedBy n s → WasParkedBy n (cond b t s)
parked_if n true s t same is = subst (λ (m : ℕ). m ≤ n) (sym same) is
parked_if n false s t same is = is

parked_changed : {A : Type 0} (m : ℕ) (f : Session A → Session A) → ((s : Session A) → (f s).shown.parked_at ≡ s.shown.parked_at) → (n : ℕ) (ss : List (Session A)) → AllByRecursion (WasParkedBy n) ss → AllByRecursion (WasParkedBy n) (with_session m f ss)
parked_changed {A = A} m f same n ss all =
    all_mapped (WasParkedBy n) (WasParkedBy n) (λ (s : Session A). cond (s.shown.number == m) (f s) s) (λ s is. parked_if n (s.shown.number == m) s (f s) (same s) is) ss all

shuts_changed : {A : Type 0} (m : ℕ) (f : Session A → Session A) → ((s : Session A) → (f s).shown.parked_at ≡ s.shown.parked_at) → (s : Step A) → Shuts s (in_sessions (with_session m f) s)
shuts_changed m f same s = shuts_sessions (with_session m f) s (λ n all. parked_changed m f same n s.server_state.sessions all)

pub parked_some : {A : Type 0} (p : Session A → Bool) (n : ℕ) (ss : List (Session A)) → AllByRecursion (WasParkedBy n) ss → AllByRecursion (WasParkedBy n) (filter p ss)
parked_some p n ss all = all_kept (WasParkedBy n) p ss all

shuts_shut : {A : Type 0} (j : ℕ) (s : Step A) → Shuts s (shut j s)
shuts_shut j s = record {
  more = Shut j ∷ [];
  added = refl;
  numbers = numbers_removed j s.server_state.conns;
  parked = λ n all. parked_some (λ t. not (is_at j t)) n s.server_state.sessions all;
}

numbers_changed : (j : ℕ) (f : Connection → Connection) (o : Option Connection) (es : List (ℕ × Connection)) → numbers_of (changed j f o es) ≡ numbers_of es
numbers_changed j f None es = refl
numbers_changed j f (Some c) es = numbers_set j (f c) es

shuts_conn : {A : Type 0} (j : ℕ) (f : Connection → Connection) (s : Step A) → Shuts s (in_server_state (with_conn j f) s)
shuts_conn j f s = record { more = []; added = sym (append-nil s.outs); numbers = numbers_changed j f (conn_at j s.server_state) s.server_state.conns; parked = λ n all. all }

-- ---- a stanza to a session

shuts_part : {A : Type 0} (say : ItemOut → A) (j : ℕ) (error : A) (s : Step A) → Shuts s (part say j error s)
shuts_part say j error s =
    let t = put j error s in
    let u = put j (say Closing) t in
    shuts_both s u (shut j u) (shuts_both s t u (shuts_put j error s) (shuts_put j (say Closing) t)) (shuts_shut j u)

shuts_part_where : {A : Type 0} (say : ItemOut → A) (o : Option ℕ) (error : A) (s : Step A) → Shuts s (part_where say o error s)
shuts_part_where say None error s = shuts_nothing s
shuts_part_where say (Some j) error s = shuts_part say j error s

shuts_ask_where : {A : Type 0} (say : ItemOut → A) (m : ℕ) (o : Option ℕ) (due : Bool) (s : Step A) → Shuts s (ask_where say m o due s)
shuts_ask_where say m o false s = shuts_nothing s
shuts_ask_where say m None true s = shuts_nothing s
shuts_ask_where say m (Some j) true s =
    let t = in_sessions (with_session m (asks true)) s in
    shuts_both s t (put j (say request_item) t) (shuts_changed m (asks true) (λ x. refl) s) (shuts_put j (say request_item) t)

shuts_queue : {A : Type 0} (say : ItemOut → A) (m : ℕ) (a : A) (told : SessionInfo) (s : Step A) → Shuts s (queue say m a told s)
shuts_queue say m a told s =
    let t = in_sessions (with_session m (waits a)) s in
    let u = put_where told.conn a t in
    shuts_both s u (ask_where say m told.conn (is_due told) u) (shuts_both s t u (shuts_changed m (waits a) (λ x. refl) s) (shuts_put_where told.conn a t)) (shuts_ask_where say m told.conn (is_due told) u)

shuts_overflow : {A : Type 0} (say : ItemOut → A) (m : ℕ) (told : SessionInfo) (s : Step A) → Shuts s (overflow say m told s)
shuts_overflow say m told s =
    let t = in_sessions (without m) s in
    let error = say (error_item ResourceConstraint) in
    shuts_both s t (part_where say told.conn error t) (shuts_sessions (without m) s (λ n all. parked_some (λ x. not (x.shown.number == m)) n s.server_state.sessions all)) (shuts_part_where say told.conn error t)

shuts_send : {A : Type 0} (say : ItemOut → A) (m : ℕ) (a : A) (o : Option SessionInfo) (s : Step A) → Shuts s (send_by_info say m a o s)
shuts_send say m a None s = shuts_nothing s
shuts_send say m a (Some told) s =
    shuts_if _ s (put_where told.conn a s) _ (shuts_put_where told.conn a s) (shuts_if _ s (overflow say m told s) (queue say m a told s) (shuts_overflow say m told s) (shuts_queue say m a told s))

-- ---- sessions that come

parked_more : {A : Type 0} (n : ℕ) (ss : List (Session A)) (t : Session A) → AllByRecursion (WasParkedBy n) ss → WasParkedBy n t → AllByRecursion (WasParkedBy n) (ss ++ t ∷ [])
parked_more n [] t all is = (is, tt)
parked_more n (s ∷ ss) t all is = (all.0, parked_more n ss t all.1 is)

parked_less : {A : Type 0} (o : Option (Session A)) (n : ℕ) (ss : List (Session A)) → AllByRecursion (WasParkedBy n) ss → AllByRecursion (WasParkedBy n) (less o ss)
parked_less None n ss all = all
parked_less (Some s) n ss all = parked_some (λ t. not (t.shown.number == s.shown.number)) n ss all

shuts_bind : {A : Type 0} (say : ItemOut → A) (account : ℕ) (resource : List ℕ) (j : ℕ) (s : Step A) → Shuts s (act say (steps.Bind account resource j) s)
shuts_bind {A = A} say account resource j s = record {
  more = [];
  added = sym (append-nil s.outs);
  numbers = refl;
  parked = λ n all. parked_more n (less (session_named account resource s.server_state.sessions) s.server_state.sessions) (fresh {A = A} s.server_state.next account resource j) (parked_less (session_named account resource s.server_state.sessions) n s.server_state.sessions all) (let least : 0 ≤ n = omega arith in least);
}

parked_either : {A : Type 0} (n : ℕ) (b : Bool) (x y : List (Session A)) → AllByRecursion (WasParkedBy n) x → AllByRecursion (WasParkedBy n) y → AllByRecursion (WasParkedBy n) (cond b x y)
parked_either n true x y a b = a
parked_either n false x y a b = b

parked_resumed : {A : Type 0} (h j : ℕ) (o : Option (Session A)) (n : ℕ) (ss : List (Session A)) → AllByRecursion (WasParkedBy n) ss → AllByRecursion (WasParkedBy n) (after_resume h j o ss)
parked_resumed h j None n ss all = all
parked_resumed h j (Some t) n ss all =
    parked_either n (is_too_high h t) _ _ (parked_some (λ x. not (x.shown.number == t.shown.number)) n ss all) (parked_changed t.shown.number (resumes h j) (λ x. refl) n ss all)

-- ---- each step, and so each row

shuts_archive : {A : Type 0} (account : ℕ) (e : EntryView) (o : Option Kept) (s : Step A) → Shuts s (in_server_state (archived_in e account o) s)
shuts_archive account e None s = shuts_nothing s
shuts_archive account e (Some kept) s = record { more = []; added = sym (append-nil s.outs); numbers = refl; parked = λ n all. all }

shuts_act : {A : Type 0} (say : ItemOut → A) (a : Act A) (s : Step A) → Shuts s (act say a s)
shuts_act say (steps.Say j a) s = shuts_put j a s
shuts_act say (steps.Close j) s = shuts_shut j s
shuts_act say (steps.Enter j phase) s = shuts_conn j (in_phase phase) s
shuts_act say (steps.Fail j left) s = shuts_conn j (after_failure left) s
shuts_act say (steps.Bind account resource j) s = shuts_bind say account resource j s
shuts_act say (steps.Resume previd account h j) s =
    shuts_sessions (λ sessions. after_resume h j (session_resumed previd account sessions) sessions) s (λ n all. parked_resumed h j (session_resumed previd account s.server_state.sessions) n s.server_state.sessions all)
shuts_act say (steps.Enable m resume) s = shuts_changed m (enables resume) (λ x. refl) s
shuts_act say (steps.Acknowledge m h) s = shuts_changed m (acknowledged h) (λ x. refl) s
shuts_act say (steps.Ask m on) s = shuts_changed m (asks on) (λ x. refl) s
shuts_act say (steps.Handle m) s = shuts_changed m handles (λ x. refl) s
shuts_act say (steps.Present m available priority) s = shuts_changed m (presents available priority) (λ x. refl) s
shuts_act say (steps.Copy m on) s = shuts_changed m (copies on) (λ x. refl) s
shuts_act say (steps.Send m a) s = shuts_send say m a (info_of m s.server_state.sessions) s
shuts_act say (steps.Archive account e) s = shuts_archive account e (archive_at account s.server_state) s
shuts_act say (steps.Tell from to origin) s = record { more = Took from to origin ∷ []; added = refl; numbers = refl; parked = λ n all. all }

acts_shut : {A : Type 0} (say : ItemOut → A) (acts : List (Act A)) (s : Step A) → Shuts s (acted say acts s)
acts_shut say [] s = shuts_nothing s
acts_shut say (a ∷ more) s = shuts_both s (act say a s) (acted say more (act say a s)) (shuts_act say a s) (acts_shut say more (act say a s))

pub items_shut : {A : Type 0} (say : ItemOut → A) (k : ℕ) (items : List Item) (s : Step A) → Shuts s (after_items say k items s)
items_shut say k [] s = shuts_nothing s
items_shut say k (i ∷ items) s =
    shuts_both s (after_item say k i s) (after_items say k items (after_item say k i s)) (acts_shut say (at_open say k i (standing_at k s.server_state) s.server_state) s) (items_shut say k items (after_item say k i s))

pub fault_shuts : {A : Type 0} (say : ItemOut → A) (k : ℕ) (f : Option Fault) (s : Step A) → Shuts s (after_fault say k f s)
fault_shuts say k None s = shuts_nothing s
fault_shuts say k (Some f) s = acts_shut say (at_fault say k f (standing_at k s.server_state) s.server_state) s
