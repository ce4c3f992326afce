-- A `resume` of a session that is gone; and what a count that is too high does, and leaves.
use Rattle.std.proofs.Common.{◌≡◌, ℕ, ◌+◌, ◌<◌, ◌≤◌, ◌^◌, ◌==◌, Bool, true, false, not, List, [], ◌∷◌, Option, Some, None, Result, Err, refl, sym, ap, ap₂, subst, ◌∙◌, arith, inl, inr}
use Rattle.std.proofs.lemmas.Bool.{cases_Bool, false≢true, eqb-false}
use Rattle.std.proofs.lemmas.Option.{none-some, same_Some}
use Rattle.std.proofs.lemmas.Slice.Eq.{bytes_eq-Decides}
use Rattle.std.specs.List.{filter, find}
use Rattle.std.specs.Option.{option_map}
use Rattle.std.specs.Str.{bytes_eq}
use Rattle.base_lemmas.proofs.HexDigits.{hex16_of_same}
use Rattle.im_replies.specs.Management.{refused_item}
use Rattle.im_replies.specs.Streams.{error_item, too_high_item}
use Rattle.im_replies.specs.declared.conditions.StreamCondition.TheVariants.{Conflict}
use Rattle.im_stanza.specs.declared.conditions.Condition.TheVariants.{ItemNotFound}
use Rattle.sm_live.specs.Rule.{IsRule, RisesTo}
use Rattle.sm_live.specs.Sessions.{Session, after_resume, is_at, is_numbered, is_resumed_by, is_too_high, resent, resume_answer, send_count, session_of, session_resumed, told, without}
use Rattle.sm_resumption.proofs.RowFacts.{eqb_same}
use Rattle.sm_resumption.specs.Previds.{previd_of}
use Rattle.sm_resumption.specs.declared.answers.ResumeFault.{ResumeFault}
use Rattle.sm_resumption.specs.declared.answers.ResumeFault.TheVariants.{TooHigh}
use Rattle.sm_resumption.specs.declared.answers.ResumeOk.{ResumeOk}
use Rattle.srv_core.specs.Ready.{at_ready_or_bound}
use Rattle.srv_core.specs.Table.{after_item, at_open, at_word}
use Rattle.srv_handlers.specs.Resumptions.{at_resume, resent_where, resuming}
use Rattle.srv_state.specs.State.{ServerState, Step, with_sessions}
use Rattle.srv_state.specs.Steps.{acted, in_sessions, part, part_where, put}
use Rattle.srv_state.specs.Streams.{parting_where, stage_of, standing_at, standing_of}
use Rattle.srv_state.specs.Words.{word_of}
use Rattle.srv_state.specs.declared.word.Word.{Word}
use Rattle.srv_state.specs.declared.word.Word.TheVariants as word
use Rattle.xml_framer.specs.declared.items.Item.TheVariants.{Element}
use Rattle.law_server.proofs.Counts.{too_high}
use Rattle.law_server.proofs.Frames.{found_kept}
use Rattle.law_server.proofs.GoneSessions.{found_below, gone_events, gone_stable, none_some, number_is, shut_gone}
use Rattle.law_server.proofs.NumbersKept.{found_by_number, rise_more, rise_same, rise_some}
use Rattle.law_server.proofs.SessionWalks.{IsStable, by_events, by_part}
use Rattle.law_server.specs.Events.{Event, Run, after_events, stand_of}
use Rattle.law_server.specs.Gone.{EndsAlone, IsGone, IsLoggedIn}
use Rattle.law_server.specs.Numbers.{HaveNumbers, Rise}
use Rattle.xml_trees.specs.Trees.{Elem}
use Rattle.xml_writer.specs.Items.{Closing, ItemOut}
use Rattle.sm_resumption.proofs.StoredFacts.{at_conn as conn_is}

-- ---- the acts of an element behind a login

ready_acts : {A : Type 0} (say : ItemOut → A) (k account : ℕ) (e : Elem) (w : Word) (o : Option (Session A)) (h : ServerState A) (l : IsLoggedIn k account o h) → word_of e ≡ w
    → at_open say k (Element e) (standing_at k h) h ≡ at_ready_or_bound say k account w (option_map told o) (standing_of l.conn) h
ready_acts say k account e w o h l read =
    ap (λ c. at_open say k (Element e) (option_map standing_of c) h) l.there
    ∙ ap (λ p. at_word say k (word_of e) (stage_of p) (standing_of l.conn) h) l.login
    ∙ ap₂ (λ x t. at_ready_or_bound say k account x (option_map told t) (standing_of l.conn) h) read l.on

-- ---- a session that is gone

other_previd : (m n : ℕ) → m < 2 ^ 64 → n < 2 ^ 64 → (m == n) ≡ false → bytes_eq (previd_of m) (previd_of n) ≡ false
other_previd m n low below apart =
    elim (cases_Bool (bytes_eq (previd_of m) (previd_of n))) [
      | inl same ↦
          let number : m ≡ n = hex16_of_same m n low below ((bytes_eq-Decides (previd_of m) (previd_of n)).0 same) in
          absurd (false≢true (sym apart ∙ ap (λ x. x == n) number ∙ eqb_same n))
      | inr differs ↦ differs
    ]

none_resumed : {A : Type 0} (n account from next : ℕ) (ss : List (Session A)) → Rise from next ss → next ≤ 2 ^ 64 → n < 2 ^ 64 → session_of n ss ≡ None → session_resumed (previd_of n) account ss ≡ None
none_resumed n account from next [] rise fits low none = refl
none_resumed n account from next (s ∷ ss) rise fits low none =
    elim (cases_Bool (s.shown.number == n)) [
      | inl here ↦ absurd (none-some s (sym (rw here at none)))
      | inr other ↦
          let below : s.shown.number < next = found_below (λ x. true) from next (s ∷ ss) s rise refl in
          let differs : bytes_eq (previd_of s.shown.number) (previd_of n) ≡ false = other_previd s.shown.number n (omega (arith, below, fits)) low other in
          rw differs (none_resumed n account (s.shown.number + 1) next ss rise.1 fits low (rw other at none))
    ]

answers_resume : {A : Type 0} (say : ItemOut → A) (k account h : ℕ) (previd : List ℕ) (o : Option (Session A)) (server_state : ServerState A) → session_resumed previd account server_state.sessions ≡ o
    → at_resume say k account previd h server_state ≡ resuming say k account previd h (resume_answer h o) (resent_where h o)
answers_resume say k account h previd o server_state is = ap (λ x. resuming say k account previd h (resume_answer h x) (resent_where h x)) is

pub refused : {A : Type 0} (say : ItemOut → A) (k account n h : ℕ) (e : Elem) (s : Step A) → IsGone n s.server_state → HaveNumbers s.server_state → s.server_state.next ≤ 2 ^ 64 → IsLoggedIn k account None s.server_state → word_of e ≡ word.Resume (previd_of n) h
    → after_item say k (Element e) s ≡ put k (say (refused_item ItemNotFound)) s
refused say k account n h e s gone have fits l read =
    let spent = gone.spent in
    let none = none_resumed n account 1 s.server_state.next s.server_state.sessions have fits (omega (arith, spent, fits)) gone.none in
    ap (λ acts. acted say acts s) (ready_acts say k account e (word.Resume (previd_of n) h) None s.server_state l read ∙ answers_resume say k account h (previd_of n) None s.server_state none)

rise_stable : {A : Type 0} → IsStable {A = A} (λ ss next. Rise 1 next ss)
rise_stable = record {
  some = λ p ss next is. rise_some p 1 next ss is;
  same = λ g keeps ss next is. rise_same g keeps 1 next ss is;
  more = λ account resource k ss next is. rise_more 1 next account resource k ss is;
}

pub never : {A : Type 0} (say : ItemOut → A) (k account n h : ℕ) (e : Elem) (events : List Event) (r : Run A) → IsGone n r.server.server_state → HaveNumbers r.server.server_state → (after_events say events r).server.server_state.next ≤ 2 ^ 64
    → IsLoggedIn k account None (after_events say events r).server.server_state → word_of e ≡ word.Resume (previd_of n) h
    → after_item say k (Element e) (stand_of (after_events say events r)) ≡ put k (say (refused_item ItemNotFound)) (stand_of (after_events say events r))
never say k account n h e events r gone have fits l read =
    refused say k account n h e (stand_of (after_events say events r)) (gone_events say n events r gone) (by_events rise_stable say events r have) fits l read

-- ---- a count that is too high

holds : {A : Type 0} (p : Session A → Bool) (t : Session A) (ss : List (Session A)) → find p ss ≡ Some t → p t ≡ true
holds p t [] found = absurd (none-some t found)
holds p t (s ∷ ss) found =
    elim (cases_Bool (p s)) [
      | inl here ↦ ap p (sym (same_Some s t (rw here at found))) ∙ here
      | inr other ↦ holds p t ss (rw other at found)
    ]

none_without : {A : Type 0} (n : ℕ) (ss : List (Session A)) → session_of n (without n ss) ≡ None
none_without n [] = refl
none_without n (s ∷ ss) =
    elim (cases_Bool (s.shown.number == n)) [
      | inl here ↦ rw here (none_without n ss)
      | inr other ↦ rw (other, other) (none_without n ss)
    ]

pub ack_is : {A : Type 0} (say : ItemOut → A) (k account h : ℕ) (e : Elem) (t : Session A) (s : Step A) → HaveNumbers s.server_state → IsLoggedIn k account (Some t) s.server_state → t.shown.counted ≡ true → word_of e ≡ word.Ack h → is_too_high h t ≡ true
    → after_item say k (Element e) s ≡ part say k (say (too_high_item h (send_count t))) s
ack_is say k account h e t s have l counted read high =
    ap (λ acts. acted say acts s) (ready_acts say k account e (word.Ack h) (Some t) s.server_state l read)
    ∙ too_high say k h (told t) t s (found_by_number (is_at k) 1 s.server_state.next s.server_state.sessions t have l.on) counted high

pub ack_gone : {A : Type 0} (say : ItemOut → A) (k account h : ℕ) (e : Elem) (t : Session A) (s : Step A) → HaveNumbers s.server_state → IsLoggedIn k account (Some t) s.server_state → t.shown.counted ≡ true → word_of e ≡ word.Ack h → is_too_high h t ≡ true
    → IsGone t.shown.number (after_item say k (Element e) s).server_state
ack_gone say k account h e t s have l counted read high =
    let error = say (too_high_item h (send_count t)) in
    subst (λ (u : Step _). IsGone t.shown.number u.server_state) (sym (ack_is say k account h e t s have l counted read high))
    (shut_gone k t.shown.number t (put k (say Closing) (put k error s)) have (found_by_number (is_at k) 1 s.server_state.next s.server_state.sessions t have l.on) (holds (is_at k) t s.server_state.sessions l.on))

parts : {A : Type 0} (say : ItemOut → A) (o : Option ℕ) (error : A) (s : Step A) → acted say (parting_where say o error []) s ≡ part_where say o error s
parts say None error s = refl
parts say (Some k) error s = refl

-- the step that it comes to
abbrev pub both_parted : {A : Type 0} → (ItemOut → A) → ℕ → ℕ → Session A → Step A → Step A
both_parted say k h t s = part_where say t.shown.conn (say (error_item Conflict)) (part say k (say (too_high_item h (send_count t))) (in_sessions (without t.shown.number) s))

without_it : {A : Type 0} (h k : ℕ) (o : Option (Session A)) (t : Session A) (ss : List (Session A)) → o ≡ Some t → is_too_high h t ≡ true → after_resume h k o ss ≡ without t.shown.number ss
without_it h k o t ss is high = ap (λ x. after_resume h k x ss) is ∙ rw high refl

pub resume_is : {A : Type 0} (say : ItemOut → A) (k account h : ℕ) (previd : List ℕ) (e : Elem) (t : Session A) (s : Step A) → IsLoggedIn k account None s.server_state → session_resumed previd account s.server_state.sessions ≡ Some t
    → word_of e ≡ word.Resume previd h → is_too_high h t ≡ true → after_item say k (Element e) s ≡ both_parted say k h t s
resume_is say k account h previd e t s l found read high =
    let answer : resume_answer h (Some t) ≡ Err (TooHigh h (send_count t) t.shown.conn) = rw high refl in
    let error = say (too_high_item h (send_count t)) in
    ap (λ acts. acted say acts s)
    (ready_acts say k account e (word.Resume previd h) None s.server_state l read ∙ answers_resume say k account h previd (Some t) s.server_state found
    ∙ ap (λ (r : Result ResumeOk ResumeFault). resuming say k account previd h r (resent h t)) answer)
    ∙ ap (λ ss. acted say (parting_where say t.shown.conn (say (error_item Conflict)) []) (part say k error (record s { server_state = with_sessions ss s.server_state })))
    (without_it h k (session_resumed previd account s.server_state.sessions) t s.server_state.sessions found high)
    ∙ parts say t.shown.conn (say (error_item Conflict)) (part say k error (in_sessions (without t.shown.number) s))

parted_gone : {A : Type 0} (say : ItemOut → A) (k h next : ℕ) (t : Session A) (s : Step A) → s.server_state.next ≡ next → t.shown.number < next → IsGone t.shown.number (both_parted say k h t s).server_state
parted_gone say k h next t s is below =
    let n = t.shown.number in
    let left = in_sessions (without n) s in
    let first = by_part (gone_stable n) say (Some k) (say (too_high_item h (send_count t))) left (none_without n s.server_state.sessions, subst (λ m. n < m) (sym is) below) in
    let both = by_part (gone_stable n) say t.shown.conn (say (error_item Conflict)) (part say k (say (too_high_item h (send_count t))) left) first in
    record { none = both.0; spent = both.1 }

pub resume_gone : {A : Type 0} (say : ItemOut → A) (k account h : ℕ) (previd : List ℕ) (e : Elem) (t : Session A) (s : Step A) → HaveNumbers s.server_state → IsLoggedIn k account None s.server_state → session_resumed previd account s.server_state.sessions ≡ Some t
    → word_of e ≡ word.Resume previd h → is_too_high h t ≡ true → IsGone t.shown.number (after_item say k (Element e) s).server_state
resume_gone say k account h previd e t s have l found read high =
    subst (λ (u : Step _). IsGone t.shown.number u.server_state) (sym (resume_is say k account h previd e t s l found read high))
    (parted_gone say k h s.server_state.next t s refl (found_below (is_resumed_by previd account) 1 s.server_state.next s.server_state.sessions t have found))

-- ---- the other sessions

have_numbers : {A : Type 0} (low next : ℕ) (ss : List (Session A)) → RisesTo next low ss → Rise low next ss
have_numbers low next [] rise = rise
have_numbers low next (s ∷ ss) rise = (rise.0, have_numbers (s.shown.number + 1) next ss rise.1)

-- a session that passes is found still
others : {A : Type 0} (m : ℕ) (p : Session A → Bool) (ss : List (Session A)) → ((u : Session A) → session_of m ss ≡ Some u → p u ≡ true) → session_of m (filter p ss) ≡ session_of m ss
others {A = A} m p ss passes = by (session_of m ss) refl
  where
    by : (o : Option (Session A)) → session_of m ss ≡ o → session_of m (filter p ss) ≡ o
    by None is = none_some (is_numbered m) p ss is
    by (Some u) is = found_kept (is_numbered m) p ss u is (passes u is)

-- on a connection that has a session no other is
not_there : {A : Type 0} (k m n next : ℕ) (t u : Session A) (ss : List (Session A)) → IsRule ss next → (m == n) ≡ false → session_of n ss ≡ Some t → t.shown.conn ≡ Some k → session_of m ss ≡ Some u → not (is_at k u) ≡ true
not_there k m n next t u ss rule other found on is =
    elim (cases_Bool (is_at k u)) [
      | inl there ↦ absurd (eqb-false m n other (rule.conns m n k u t is found (conn_is k u.shown.conn there) on))
      | inr free ↦ ap not free
    ]

nobody : {A : Type 0} (p : Session A → Bool) (m : ℕ) (u : Session A) (ss : List (Session A)) → find p ss ≡ None → session_of m ss ≡ Some u → p u ≡ false
nobody p m u [] none is = absurd (none-some u is)
nobody p m u (s ∷ ss) none is =
    elim (cases_Bool (p s)) [
      | inl here ↦ absurd (none-some s (sym (rw here at none)))
      | inr off ↦
          elim (cases_Bool (s.shown.number == m)) [
            | inl found ↦ ap p (sym (same_Some s u (rw found at is))) ∙ off
            | inr other ↦ nobody p m u ss (rw off at none) (rw other at is)
          ]
    ]

pub ack_alone : {A : Type 0} (say : ItemOut → A) (k account h : ℕ) (e : Elem) (t : Session A) (s : Step A) → IsRule s.server_state.sessions s.server_state.next → IsLoggedIn k account (Some t) s.server_state → t.shown.counted ≡ true → word_of e ≡ word.Ack h
    → is_too_high h t ≡ true → EndsAlone t.shown.number s.server_state (after_item say k (Element e) s).server_state
ack_alone say k account h e t s rule l counted read high =
    let have = have_numbers 1 s.server_state.next s.server_state.sessions rule.ascending in
    let found = found_by_number (is_at k) 1 s.server_state.next s.server_state.sessions t have l.on in
    let on = conn_is k t.shown.conn (holds (is_at k) t s.server_state.sessions l.on) in
    record {
      gone = ack_gone say k account h e t s have l counted read high;
      others = λ m other.
          ap (λ (u : Step _). session_of m u.server_state.sessions) (ack_is say k account h e t s have l counted read high)
          ∙ others m (λ u. not (is_at k u)) s.server_state.sessions (λ u is. not_there k m t.shown.number s.server_state.next t u s.server_state.sessions rule other found on is);
    }

-- the connection that the session had is shut
former_left : {A : Type 0} (say : ItemOut → A) (o : Option ℕ) (error : A) (m next : ℕ) (t : Session A) (ss : List (Session A)) (s : Step A) → IsRule ss next → (m == t.shown.number) ≡ false → session_of t.shown.number ss ≡ Some t → t.shown.conn ≡ o
    → session_of m s.server_state.sessions ≡ session_of m ss → session_of m (part_where say o error s).server_state.sessions ≡ session_of m ss
former_left say None error m next t ss s rule other found on same = same
former_left say (Some k) error m next t ss s rule other found on same =
    others m (λ u. not (is_at k u)) s.server_state.sessions (λ u is. not_there k m t.shown.number next t u ss rule other found on (sym same ∙ is)) ∙ same

pub resume_alone : {A : Type 0} (say : ItemOut → A) (k account h : ℕ) (previd : List ℕ) (e : Elem) (t : Session A) (s : Step A) → IsRule s.server_state.sessions s.server_state.next → IsLoggedIn k account None s.server_state
    → session_resumed previd account s.server_state.sessions ≡ Some t → word_of e ≡ word.Resume previd h → is_too_high h t ≡ true → EndsAlone t.shown.number s.server_state (after_item say k (Element e) s).server_state
resume_alone say k account h previd e t s rule l found read high =
    let n = t.shown.number in
    let have = have_numbers 1 s.server_state.next s.server_state.sessions rule.ascending in
    let by_number = found_by_number (is_resumed_by previd account) 1 s.server_state.next s.server_state.sessions t have found in
    record {
      gone = resume_gone say k account h previd e t s have l found read high;
      others = λ m other.
          let rest : session_of m (without n s.server_state.sessions) ≡ session_of m s.server_state.sessions =
          others m (λ u. not (u.shown.number == n)) s.server_state.sessions (λ u is. ap not (ap (λ x. x == n) (number_is m u s.server_state.sessions is) ∙ other)) in
          let free : session_of m (part say k (say (too_high_item h (send_count t))) (in_sessions (without n) s)).server_state.sessions ≡ session_of m s.server_state.sessions =
          others m (λ u. not (is_at k u)) (without n s.server_state.sessions) (λ u is. ap not (nobody (is_at k) m u s.server_state.sessions l.on (sym rest ∙ is))) ∙ rest in
          ap (λ (u : Step _). session_of m u.server_state.sessions) (resume_is say k account h previd e t s l found read high)
          ∙ former_left say t.shown.conn (say (error_item Conflict)) m s.server_state.next t s.server_state.sessions (part say k (say (too_high_item h (send_count t))) (in_sessions (without n) s)) rule other by_number refl free;
    }
