-- What is asked of sessions is the same whatever waits in them, and a change of one goes through.
use Rattle.std.proofs.Common.{◌≡◌, ℕ, ◌==◌, Bool, true, false, not, ◌&&◌, List, [], ◌∷◌, ◌++◌, Option, Some, None, map, cond, nat_lt, refl, sym, ap, ap₂, ◌∙◌, inl, inr}
use Rattle.std.proofs.lemmas.Bool.{cases_Bool}
use Rattle.std.proofs.lemmas.List.{drop-map, length-map, map-append}
use Rattle.std.specs.List.{filter, find}
use Rattle.std.specs.Option.{option_map}
use Rattle.std.specs.Str.{bytes_eq}
use Rattle.sm_acks.specs.Counters.{ahead}
use Rattle.sm_live.specs.Sessions.{Session, ack_answer, acknowledged, after_resume, bound, ended_of, fresh, info_of, is_too_high, less, resent, resume_answer, resumes, session_at, session_named, session_of, session_resumed, told, waits, with_session, without, without_at}
use Rattle.sm_resumption.specs.Previds.{previd_of}
use Rattle.sm_resumption.specs.Rows.{is_some_number}
use Rattle.sm_resumption.specs.declared.session.SessionView.{SessionView}
use Rattle.law_server.specs.Rendered.{session_rendered, sessions_rendered}

-- ---- look-ups by what is shown

pub found : {A B : Type 0} (f : A → B) (q : SessionView → Bool) (ss : List (Session A)) → find (λ (s : Session B). q s.shown) (sessions_rendered f ss) ≡ option_map (session_rendered f) (find (λ (s : Session A). q s.shown) ss)
found f q [] = refl
found f q (s ∷ ss) =
    elim (cases_Bool (q s.shown)) [
      | inl here ↦ rw here refl
      | inr other ↦ rw other (found f q ss)
    ]

pub filtered : {A B : Type 0} (f : A → B) (q : SessionView → Bool) (ss : List (Session A)) → filter (λ (s : Session B). q s.shown) (sessions_rendered f ss) ≡ sessions_rendered f (filter (λ (s : Session A). q s.shown) ss)
filtered f q [] = refl
filtered f q (s ∷ ss) =
    elim (cases_Bool (q s.shown)) [
      | inl here ↦ rw here (ap (λ l. session_rendered f s ∷ l) (filtered f q ss))
      | inr other ↦ rw other (filtered f q ss)
    ]

pub of_rendered : {A B : Type 0} (f : A → B) (n : ℕ) (ss : List (Session A)) → session_of n (sessions_rendered f ss) ≡ option_map (session_rendered f) (session_of n ss)
of_rendered f n ss = found f (λ v. v.number == n) ss

pub at_rendered : {A B : Type 0} (f : A → B) (k : ℕ) (ss : List (Session A)) → session_at k (sessions_rendered f ss) ≡ option_map (session_rendered f) (session_at k ss)
at_rendered f k ss = found f (λ v. is_some_number k v.conn) ss

pub named_rendered : {A B : Type 0} (f : A → B) (account : ℕ) (resource : List ℕ) (ss : List (Session A)) → session_named account resource (sessions_rendered f ss) ≡ option_map (session_rendered f) (session_named account resource ss)
named_rendered f account resource ss = found f (λ v. (v.account == account) && bytes_eq v.resource resource) ss

pub resumed_rendered : {A B : Type 0} (f : A → B) (previd : List ℕ) (account : ℕ) (ss : List (Session A)) → session_resumed previd account (sessions_rendered f ss) ≡ option_map (session_rendered f) (session_resumed previd account ss)
resumed_rendered f previd account ss = found f (λ v. bytes_eq (previd_of v.number) previd && (v.account == account) && v.resumable) ss

-- ---- what is told

told_same : {A B : Type 0} (f : A → B) (o : Option (Session A)) → option_map told (option_map (session_rendered f) o) ≡ option_map told o
told_same f None = refl
told_same f (Some s) = ap (λ n. Some (record (told s) { waiting = n })) (length-map s.waiting f)

pub told_rendered : {A B : Type 0} (f : A → B) (n : ℕ) (ss : List (Session A)) → info_of n (sessions_rendered f ss) ≡ info_of n ss
told_rendered f n ss = ap (option_map told) (of_rendered f n ss) ∙ told_same f (session_of n ss)

pub told_at_rendered : {A B : Type 0} (f : A → B) (k : ℕ) (ss : List (Session A)) → option_map told (session_at k (sessions_rendered f ss)) ≡ option_map told (session_at k ss)
told_at_rendered f k ss = ap (option_map told) (at_rendered f k ss) ∙ told_same f (session_at k ss)

ended_same : {A B : Type 0} (f : A → B) (o : Option (Session A)) → option_map ended_of (option_map (session_rendered f) o) ≡ option_map ended_of o
ended_same f None = refl
ended_same f (Some s) = refl

pub ended_rendered : {A B : Type 0} (f : A → B) (account : ℕ) (resource : List ℕ) (ss : List (Session A)) → option_map ended_of (session_named account resource (sessions_rendered f ss)) ≡ option_map ended_of (session_named account resource ss)
ended_rendered f account resource ss = ap (option_map ended_of) (named_rendered f account resource ss) ∙ ended_same f (session_named account resource ss)

-- ---- counts

pub high_rendered : {A B : Type 0} (f : A → B) (h : ℕ) (s : Session A) → is_too_high h (session_rendered f s) ≡ is_too_high h s
high_rendered f h s = ap (λ n. nat_lt n (ahead h s.acked)) (length-map s.waiting f)

answer_one : {A B : Type 0} (f : A → B) (h : ℕ) (s : Session A) → ack_answer h (session_rendered f s) ≡ ack_answer h s
answer_one f h s = rw (length-map s.waiting f) refl

answer_same : {A B : Type 0} (f : A → B) (h : ℕ) (o : Option (Session A)) → option_map (ack_answer h) (option_map (session_rendered f) o) ≡ option_map (ack_answer h) o
answer_same f h None = refl
answer_same f h (Some s) = ap Some (answer_one f h s)

pub answer_rendered : {A B : Type 0} (f : A → B) (h n : ℕ) (ss : List (Session A)) → option_map (ack_answer h) (session_of n (sessions_rendered f ss)) ≡ option_map (ack_answer h) (session_of n ss)
answer_rendered f h n ss = ap (option_map (ack_answer h)) (of_rendered f n ss) ∙ answer_same f h (session_of n ss)

pub resume_same : {A B : Type 0} (f : A → B) (h : ℕ) (o : Option (Session A)) → resume_answer h (option_map (session_rendered f) o) ≡ resume_answer h o
resume_same f h None = refl
resume_same f h (Some s) = rw (length-map s.waiting f) refl

pub resent_rendered : {A B : Type 0} (f : A → B) (h : ℕ) (s : Session A) → resent h (session_rendered f s) ≡ map f (resent h s)
resent_rendered f h s = drop-map f (ahead h s.acked) s.waiting

-- ---- one session changed

changed_one : {A B : Type 0} (f : A → B) (b : Bool) (x y : Session B) (s t : Session A) → x ≡ session_rendered f t → y ≡ session_rendered f s → cond b x y ≡ session_rendered f (cond b t s)
changed_one f true x y s t here there = here
changed_one f false x y s t here there = there

pub changed_rendered : {A B : Type 0} (f : A → B) (n : ℕ) (g : Session A → Session A) (g' : Session B → Session B) (ss : List (Session A)) → ((s : Session A) → g' (session_rendered f s) ≡ session_rendered f (g s))
    → with_session n g' (sessions_rendered f ss) ≡ sessions_rendered f (with_session n g ss)
changed_rendered f n g g' [] same = refl
changed_rendered f n g g' (s ∷ ss) same =
    ap₂ (λ x l. x ∷ l) (changed_one f (s.shown.number == n) (g' (session_rendered f s)) (session_rendered f s) s (g s) (same s) refl) (changed_rendered f n g g' ss same)

pub waits_rendered : {A B : Type 0} (f : A → B) (a : A) (s : Session A) → waits (f a) (session_rendered f s) ≡ session_rendered f (waits a s)
waits_rendered f a s = ap (λ w. record { shown = s.shown; acked = s.acked; handled = s.handled; waiting = w }) (sym (map-append f s.waiting (a ∷ [])))

pub acknowledged_rendered : {A B : Type 0} (f : A → B) (h : ℕ) (s : Session A) → acknowledged h (session_rendered f s) ≡ session_rendered f (acknowledged h s)
acknowledged_rendered f h s = ap (λ w. record { shown = s.shown; acked = h; handled = s.handled; waiting = w }) (drop-map f (ahead h s.acked) s.waiting)

resumes_rendered : {A B : Type 0} (f : A → B) (h k : ℕ) (s : Session A) → resumes h k (session_rendered f s) ≡ session_rendered f (resumes h k s)
resumes_rendered f h k s = ap (λ w. record { shown = record s.shown { conn = Some k }; acked = h; handled = s.handled; waiting = w }) (drop-map f (ahead h s.acked) s.waiting)

-- ---- the list changed

pub without_rendered : {A B : Type 0} (f : A → B) (n : ℕ) (ss : List (Session A)) → without n (sessions_rendered f ss) ≡ sessions_rendered f (without n ss)
without_rendered f n ss = filtered f (λ v. not (v.number == n)) ss

pub without_at_rendered : {A B : Type 0} (f : A → B) (k : ℕ) (ss : List (Session A)) → without_at k (sessions_rendered f ss) ≡ sessions_rendered f (without_at k ss)
without_at_rendered f k ss = filtered f (λ v. not (is_some_number k v.conn)) ss

less_rendered : {A B : Type 0} (f : A → B) (o : Option (Session A)) (ss : List (Session A)) → less (option_map (session_rendered f) o) (sessions_rendered f ss) ≡ sessions_rendered f (less o ss)
less_rendered f None ss = refl
less_rendered f (Some s) ss = without_rendered f s.shown.number ss

pub bound_rendered : {A B : Type 0} (f : A → B) (n account : ℕ) (resource : List ℕ) (k : ℕ) (ss : List (Session A)) → bound n account resource k (sessions_rendered f ss) ≡ sessions_rendered f (bound n account resource k ss)
bound_rendered f n account resource k ss =
    ap (λ o. less o (sessions_rendered f ss) ++ fresh n account resource k ∷ []) (named_rendered f account resource ss)
    ∙ ap (λ l. l ++ fresh n account resource k ∷ []) (less_rendered f (session_named account resource ss) ss)
    ∙ sym (map-append (session_rendered f) (less (session_named account resource ss) ss) (fresh n account resource k ∷ []))

resumed_one : {A B : Type 0} (f : A → B) (h k : ℕ) (s : Session A) (ss : List (Session A)) (b : Bool) →
    cond b (without s.shown.number (sessions_rendered f ss)) (with_session s.shown.number (resumes h k) (sessions_rendered f ss)) ≡ sessions_rendered f (cond b (without s.shown.number ss) (with_session s.shown.number (resumes h k) ss))
resumed_one f h k s ss true = without_rendered f s.shown.number ss
resumed_one f h k s ss false = changed_rendered f s.shown.number (resumes h k) (resumes h k) ss (resumes_rendered f h k)

after_same : {A B : Type 0} (f : A → B) (h k : ℕ) (o : Option (Session A)) (ss : List (Session A)) → after_resume h k (option_map (session_rendered f) o) (sessions_rendered f ss) ≡ sessions_rendered f (after_resume h k o ss)
after_same f h k None ss = refl
after_same f h k (Some s) ss = rw (length-map s.waiting f) (resumed_one f h k s ss (is_too_high h s))

pub after_rendered : {A B : Type 0} (f : A → B) (h k : ℕ) (previd : List ℕ) (account : ℕ) (ss : List (Session A)) → after_resume h k (session_resumed previd account (sessions_rendered f ss)) (sessions_rendered f ss) ≡ sessions_rendered f (after_resume h k (session_resumed previd account ss) ss)
after_rendered f h k previd account ss = ap (λ o. after_resume h k o (sessions_rendered f ss)) (resumed_rendered f previd account ss) ∙ after_same f h k (session_resumed previd account ss) ss
