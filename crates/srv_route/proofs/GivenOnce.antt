-- Nobody is given a message twice, and who is given one lives.
use Rattle.std.proofs.Common.{◌≡◌, ◌≢◌, ℕ, ◌+◌, ◌≤◌, ◌<◌, Bool, true, false, cond, not, ◌&&◌, ◌==◌, List, [], ◌∷◌, ◌++◌, Some, All, count_by, filter, find, map, refl, sym, ap, subst, ◌∙◌, inl, inr, ◌⊎◌, arith}
use Rattle.std.proofs.lemmas.Bool.{and_parts, cases_Bool, eqb-false, eqb-true, ne_eqb, not-true}
use Rattle.std.proofs.lemmas.List.Elements.{All-append, All-cons, All-filter, All-nil}
use Rattle.std.proofs.lemmas.List.Recursion.{is_count_by}
use Rattle.std.proofs.lemmas.Option.{none-some, same_Some}
use Rattle.std.specs.List.{list_any}
use Rattle.sm_live.specs.Rule.{RisesTo}
use Rattle.sm_live.specs.Sessions.{Session, is_named, is_numbered, is_of, number_of, session_named, session_of, sessions_of}
use Rattle.sm_live.specs.declared.told.SessionInfo.{SessionInfo}
use Rattle.srv_route.proofs.Chosen.{AreFound, all_found}
use Rattle.srv_route.proofs.CopyLaws.{private_in as unwanted, refused_received, refused_sent}
use Rattle.srv_route.proofs.PlanCases.{planned_has}
use Rattle.srv_route.specs.Destinations.{Destination}
use Rattle.srv_route.specs.Messages.{is_copied}
use Rattle.srv_route.specs.Plans.{having_it, is_ready, planned, ready_of, received_copies, refused, sent_copies, wants_copy}
use Rattle.srv_route.specs.Routes.{delivered_in, received_in, sent_in}
use Rattle.im_stanza.specs.Kinds.{answers_message}
use Rattle.im_stanza.specs.Views.{MessageView}
use Rattle.im_stanza.specs.declared.conditions.Condition.{Condition}
use Rattle.im_stanza.specs.declared.kinds.MessageKind.{MessageKind}

-- how often a number stands in a list
abbrev times : {A : Type 0} → ℕ → List (Session A) → ℕ
times n [] = 0
times n (t ∷ ts) = cond (t.shown.number == n) (1 + times n ts) (times n ts)

times_is : {A : Type 0} (n : ℕ) (ts : List (Session A)) → times n ts ≡ count_by (is_numbered n) ts
times_is n ts = is_count_by (times n) (is_numbered n) refl (λ t more. refl) ts

times_append : {A : Type 0} (n : ℕ) (ts us : List (Session A)) → times n (ts ++ us) ≡ times n ts + times n us
times_append n [] us = omega arith
times_append n (t ∷ ts) us =
    let rest = times_append n ts us in
    elim (cases_Bool (t.shown.number == n)) [
      | inl here ↦ rw here (omega (arith, rest))
      | inr other ↦ rw other rest
    ]

times_low : {A : Type 0} (next low n : ℕ) (ts : List (Session A)) → RisesTo next low ts → n < low → times n ts ≡ 0
times_low next low n [] rise below = refl
times_low next low n (t ∷ ts) rise below =
    rw (ne_eqb t.shown.number n (λ e. omega (arith, e, below, rise.0))) (times_low next (t.shown.number + 1) n ts rise.1 (omega (arith, below, rise.0)))

times_rise : {A : Type 0} (next low n : ℕ) (ts : List (Session A)) → RisesTo next low ts → times n ts ≤ 1
times_rise next low n [] rise = omega arith
times_rise next low n (t ∷ ts) rise =
    elim (cases_Bool (t.shown.number == n)) [
      | inl here ↦ rw here (omega (arith, times_low next (t.shown.number + 1) n ts rise.1 (omega (arith, eqb-true t.shown.number n here))))
      | inr other ↦ rw other (times_rise next (t.shown.number + 1) n ts rise.1)
    ]

times_filter : {A : Type 0} (p : Session A → Bool) (n : ℕ) (ts : List (Session A)) → times n (filter p ts) ≤ times n ts
times_filter p n [] = omega arith
times_filter p n (t ∷ ts) =
    let rest = times_filter p n ts in
    elim (cases_Bool (p t)) [
      | inl passed ↦
          elim (cases_Bool (t.shown.number == n)) [
            | inl here ↦ rw (passed, here) (omega (arith, rest))
            | inr other ↦ rw (passed, other) rest
          ]
      | inr failed ↦
          elim (cases_Bool (t.shown.number == n)) [
            | inl here ↦ rw (failed, here) (omega (arith, rest))
            | inr other ↦ rw (failed, other) rest
          ]
    ]

-- the sessions of two accounts
times_two : {A : Type 0} (n a b : ℕ) (ts : List (Session A)) → a ≢ b → times n (sessions_of a ts) + times n (sessions_of b ts) ≤ times n ts
times_two n a b [] differ = omega arith
times_two n a b (t ∷ ts) differ =
    let rest = times_two n a b ts differ in
    elim (cases_Bool (t.shown.account == a)) [
      | inl first ↦
          let second : (t.shown.account == b) ≡ false = ne_eqb t.shown.account b (λ e. differ (sym (eqb-true t.shown.account a first) ∙ e)) in
          elim (cases_Bool (t.shown.number == n)) [
            | inl here ↦ rw (first, second, here) (omega (arith, rest))
            | inr other ↦ rw (first, second, other) rest
          ]
      | inr not_first ↦
          elim (cases_Bool (t.shown.account == b)) [
            | inl second ↦
                elim (cases_Bool (t.shown.number == n)) [
                  | inl here ↦ rw (not_first, second, here) (omega (arith, rest))
                  | inr other ↦ rw (not_first, second, other) rest
                ]
            | inr not_second ↦
                elim (cases_Bool (t.shown.number == n)) [
                  | inl here ↦ rw (not_first, not_second, here) (omega (arith, rest))
                  | inr other ↦ rw (not_first, not_second, other) rest
                ]
          ]
    ]

times_having : {A : Type 0} (n : ℕ) (having : List ℕ) (ts : List (Session A)) → list_any (λ x. x == n) having ≡ true → times n (filter (λ t. wants_copy having t.shown) ts) ≡ 0
times_having n having [] there = refl
times_having n having (t ∷ ts) there =
    let rest = times_having n having ts there in
    elim (cases_Bool (t.shown.number == n)) [
      | inl here ↦
          let has : list_any (λ x. x == t.shown.number) having ≡ true = ap (λ k. list_any (λ x. x == k) having) (eqb-true t.shown.number n here) ∙ there in
          rw (unwanted t.shown.carbons (list_any (λ x. x == t.shown.number) having) has) rest
      | inr other ↦
          elim (cases_Bool (wants_copy having t.shown)) [
            | inl passed ↦ rw (passed, other) rest
            | inr failed ↦ rw failed rest
          ]
    ]

-- either the number isn't among these sessions, or it is among their numbers
among : {A : Type 0} (n : ℕ) (ts : List (Session A)) → (times n ts ≡ 0) ⊎ (list_any (λ x. x == n) (map number_of ts) ≡ true)
among n [] = inl refl
among n (t ∷ ts) =
    elim (cases_Bool (t.shown.number == n)) [
      | inl here ↦ inr (rw here refl)
      | inr other ↦
          elim (among n ts) [
            | inl none ↦ inl (rw other none)
            | inr there ↦ inr (rw (other, there) refl)
          ]
    ]

also_having : (n : ℕ) (sender : SessionInfo) (deliver : List ℕ) → list_any (λ x. x == n) deliver ≡ true → list_any (λ x. x == n) (having_it sender deliver) ≡ true
also_having n sender deliver there =
    elim (cases_Bool (sender.number == n)) [
      | inl here ↦ rw here refl
      | inr other ↦ rw (other, there) refl
    ]

-- ---- copies

sent_none : {A : Type 0} (n : ℕ) (m : MessageView) (sender : SessionInfo) (deliver : List ℕ) (sessions : List (Session A)) → list_any (λ x. x == n) deliver ≡ true → times n (sent_copies m sender deliver sessions) ≡ 0
sent_none n m sender deliver sessions there =
    elim (cases_Bool (is_copied m)) [
      | inl copied ↦ rw copied (times_having n (having_it sender deliver) (sessions_of sender.account sessions) (also_having n sender deliver there))
      | inr uncopied ↦ rw uncopied refl
    ]

received_none : {A : Type 0} (n : ℕ) (m : MessageView) (sender : SessionInfo) (account : ℕ) (deliver : List ℕ) (sessions : List (Session A)) → list_any (λ x. x == n) deliver ≡ true → times n (received_copies m sender account deliver sessions) ≡ 0
received_none n m sender account deliver sessions there =
    elim (cases_Bool (is_copied m && not (sender.account == account))) [
      | inl copied ↦ rw copied (times_having n (having_it sender deliver) (sessions_of account sessions) (also_having n sender deliver there))
      | inr uncopied ↦ rw uncopied refl
    ]

sent_few : {A : Type 0} (n : ℕ) (m : MessageView) (sender : SessionInfo) (deliver : List ℕ) (sessions : List (Session A)) → times n (sent_copies m sender deliver sessions) ≤ times n (sessions_of sender.account sessions)
sent_few n m sender deliver sessions =
    elim (cases_Bool (is_copied m)) [
      | inl copied ↦ rw copied (times_filter (λ t. wants_copy (having_it sender deliver) t.shown) n (sessions_of sender.account sessions))
      | inr uncopied ↦ rw uncopied (omega arith)
    ]

received_few : {A : Type 0} (n : ℕ) (m : MessageView) (sender : SessionInfo) (account : ℕ) (deliver : List ℕ) (sessions : List (Session A)) →
    (times n (received_copies m sender account deliver sessions) ≡ 0) ⊎ ((sender.account ≢ account) × (times n (received_copies m sender account deliver sessions) ≤ times n (sessions_of account sessions)))
received_few n m sender account deliver sessions =
    elim (cases_Bool (is_copied m && not (sender.account == account))) [
      | inl copied ↦
          inr (
            eqb-false sender.account account (not-true (sender.account == account) (and_parts (is_copied m) (not (sender.account == account)) copied).1),
            rw copied (times_filter (λ t. wants_copy (having_it sender deliver) t.shown) n (sessions_of account sessions)),
          )
      | inr uncopied ↦ inl (rw uncopied refl)
    ]

copies_few : {A : Type 0} (next n : ℕ) (m : MessageView) (sender : SessionInfo) (account : ℕ) (deliver : List ℕ) (sessions : List (Session A)) → RisesTo next 1 sessions →
    times n (sent_copies m sender deliver sessions) + times n (received_copies m sender account deliver sessions) ≤ 1
copies_few next n m sender account deliver sessions rise =
    let all = times_rise next 1 n sessions rise in
    let sent = sent_few n m sender deliver sessions in
    elim (received_few n m sender account deliver sessions) [
      | inl none ↦ omega (arith, none, sent, times_filter (is_of sender.account) n sessions, all)
      | inr some ↦ omega (arith, some.1, sent, times_two n sender.account account sessions some.0, all)
    ]

ready_few : {A : Type 0} (next n account : ℕ) (sessions : List (Session A)) → RisesTo next 1 sessions → times n (ready_of account sessions) ≤ 1
ready_few next n account sessions rise =
    omega (arith, times_filter (λ t. is_ready t.shown) n (sessions_of account sessions), times_filter (is_of account) n sessions, times_rise next 1 n sessions rise)

one_few : {A : Type 0} (n : ℕ) (t : Session A) → times n (t ∷ []) ≤ 1
one_few n t =
    elim (cases_Bool (t.shown.number == n)) [
      | inl here ↦ rw here (omega arith)
      | inr other ↦ rw other (omega arith)
    ]

all_few : {A : Type 0} (next n account : ℕ) (m : MessageView) (sender : SessionInfo) (deliver sessions : List (Session A)) → RisesTo next 1 sessions → times n deliver ≤ 1 →
    times n deliver + (times n (sent_copies m sender (map number_of deliver) sessions) + times n (received_copies m sender account (map number_of deliver) sessions)) ≤ 1
all_few next n account m sender deliver sessions rise few =
    let numbers = map number_of deliver in
    elim (among n deliver) [
      | inl none ↦ omega (arith, none, copies_few next n m sender account numbers sessions rise)
      | inr there ↦ omega (arith, few, sent_none n m sender numbers sessions there, received_none n m sender account numbers sessions there)
    ]

pub refused_delivered : {A : Type 0} (condition : Condition) (kind : MessageKind) → delivered_in (refused {A = A} condition kind) ≡ []
refused_delivered condition kind =
    elim (cases_Bool (answers_message kind)) [
      | inl answered ↦ rw answered refl
      | inr unanswered ↦ rw unanswered refl
    ]

route_few : {A : Type 0} (next n account : ℕ) (m : MessageView) (sender : SessionInfo) (deliver sessions : List (Session A)) → RisesTo next 1 sessions → times n deliver ≤ 1 →
    count_by (is_numbered n) (deliver ++ (sent_copies m sender (map number_of deliver) sessions ++ received_copies m sender account (map number_of deliver) sessions)) ≤ 1
route_few next n account m sender deliver sessions rise few =
    let numbers = map number_of deliver in
    let sent = sent_copies m sender numbers sessions in
    let received = received_copies m sender account numbers sessions in
    subst (λ k. k ≤ 1) (times_is n (deliver ++ (sent ++ received)))
    (omega (arith, times_append n deliver (sent ++ received), times_append n sent received, all_few next n account m sender deliver sessions rise few))

pub given_once : {A : Type 0} (next n : ℕ) (d : Destination) (m : MessageView) (sender : SessionInfo) (sessions : List (Session A)) → RisesTo next 1 sessions →
    count_by (is_numbered n) (delivered_in (planned d m sender sessions) ++ (sent_in (planned d m sender sessions) ++ received_in (planned d m sender sessions))) ≤ 1
given_once {A = A} next n d m sender sessions rise =
    planned_has m sender sessions (λ p. count_by (is_numbered n) (delivered_in p ++ (sent_in p ++ received_in p)) ≤ 1)
    (λ condition. rw (refused_delivered {A = A} condition m.kind, refused_sent {A = A} condition m.kind, refused_received {A = A} condition m.kind) (omega arith))
    (λ account. route_few next n account m sender (ready_of account sessions) sessions rise (ready_few next n account sessions rise))
    (λ account. route_few next n account m sender [] sessions rise (omega arith))
    (λ account resource t is. route_few next n account m sender (t ∷ []) sessions rise (one_few n t)) d

-- ---- they live

found_all : {A : Type 0} (sessions ts : List (Session A)) → AreFound sessions ts → All (λ t. session_of (number_of t) sessions ≡ Some t) ts
found_all sessions [] found = All-nil (λ t. session_of (number_of t) sessions ≡ Some t)
found_all sessions (t ∷ ts) found = All-cons (λ t. session_of (number_of t) sessions ≡ Some t) t ts found.0 (found_all sessions ts found.1)

found_by : {A : Type 0} (p : Session A → Bool) (t : Session A) (sessions ts : List (Session A)) → AreFound sessions ts → find p ts ≡ Some t → session_of t.shown.number sessions ≡ Some t
found_by p t sessions [] found is = absurd (none-some t is)
found_by {A = A} p t sessions (s ∷ ts) found is =
    elim (cases_Bool (p s)) [
      | inl passed ↦ subst (λ (x : Session A). session_of x.shown.number sessions ≡ Some x) (same_Some s t (rw passed at is)) found.0
      | inr failed ↦ found_by p t sessions ts found.1 (rw failed at is)
    ]

-- these have it
abbrev Live : {A : Type 0} → List (Session A) → Session A → Type 0
Live sessions t = session_of (number_of t) sessions ≡ Some t

all_live : {A : Type 0} (next : ℕ) (sessions : List (Session A)) → RisesTo next 1 sessions → All (Live sessions) sessions
all_live next sessions rise = found_all sessions sessions (all_found next 1 sessions rise)

some_live : {A : Type 0} (next account : ℕ) (p : Session A → Bool) (sessions : List (Session A)) → RisesTo next 1 sessions → All (Live sessions) (filter p (sessions_of account sessions))
some_live next account p sessions rise = All-filter p (Live sessions) (sessions_of account sessions) (All-filter (is_of account) (Live sessions) sessions (all_live next sessions rise))

sent_live : {A : Type 0} (next : ℕ) (m : MessageView) (sender : SessionInfo) (deliver : List ℕ) (sessions : List (Session A)) → RisesTo next 1 sessions → All (Live sessions) (sent_copies m sender deliver sessions)
sent_live next m sender deliver sessions rise =
    elim (cases_Bool (is_copied m)) [
      | inl copied ↦ rw copied (some_live next sender.account (λ t. wants_copy (having_it sender deliver) t.shown) sessions rise)
      | inr uncopied ↦ rw uncopied (All-nil (Live sessions))
    ]

received_live : {A : Type 0} (next : ℕ) (m : MessageView) (sender : SessionInfo) (account : ℕ) (deliver : List ℕ) (sessions : List (Session A)) → RisesTo next 1 sessions → All (Live sessions) (received_copies m sender account deliver sessions)
received_live next m sender account deliver sessions rise =
    elim (cases_Bool (is_copied m && not (sender.account == account))) [
      | inl copied ↦ rw copied (some_live next account (λ t. wants_copy (having_it sender deliver) t.shown) sessions rise)
      | inr uncopied ↦ rw uncopied (All-nil (Live sessions))
    ]

one_live : {A : Type 0} (next account : ℕ) (resource : List ℕ) (t : Session A) (sessions : List (Session A)) → RisesTo next 1 sessions → session_named account resource sessions ≡ Some t → All (Live sessions) (t ∷ [])
one_live next account resource t sessions rise is =
    All-cons (Live sessions) t [] (found_by (is_named account resource) t sessions sessions (all_found next 1 sessions rise) is) (All-nil (Live sessions))

route_live : {A : Type 0} (next account : ℕ) (m : MessageView) (sender : SessionInfo) (deliver sessions : List (Session A)) → RisesTo next 1 sessions → All (Live sessions) deliver →
    All (Live sessions) (deliver ++ (sent_copies m sender (map number_of deliver) sessions ++ received_copies m sender account (map number_of deliver) sessions))
route_live next account m sender deliver sessions rise live =
    let numbers = map number_of deliver in
    let sent = sent_copies m sender numbers sessions in
    let received = received_copies m sender account numbers sessions in
    All-append (Live sessions) deliver (sent ++ received) live
    (All-append (Live sessions) sent received (sent_live next m sender numbers sessions rise) (received_live next m sender account numbers sessions rise))

pub given_live : {A : Type 0} (next : ℕ) (d : Destination) (m : MessageView) (sender : SessionInfo) (sessions : List (Session A)) → RisesTo next 1 sessions →
    All (λ t. session_of (number_of t) sessions ≡ Some t) (delivered_in (planned d m sender sessions) ++ (sent_in (planned d m sender sessions) ++ received_in (planned d m sender sessions)))
given_live {A = A} next d m sender sessions rise =
    planned_has m sender sessions (λ p. All (Live sessions) (delivered_in p ++ (sent_in p ++ received_in p)))
    (λ condition. rw (refused_delivered {A = A} condition m.kind, refused_sent {A = A} condition m.kind, refused_received {A = A} condition m.kind) (All-nil (Live sessions)))
    (λ account. route_live next account m sender (ready_of account sessions) sessions rise (some_live next account (λ t. is_ready t.shown) sessions rise))
    (λ account. route_live next account m sender [] sessions rise (All-nil (Live sessions)))
    (λ account resource t is. route_live next account m sender (t ∷ []) sessions rise (one_live next account resource t sessions rise is)) d
