-- Who gets copies.
use Rattle.std.proofs.Common.{◌≡◌, ◌≢◌, ℕ, Bool, true, false, not, ◌&&◌, ◌==◌, List, [], ◌++◌, All, get_or, map, refl, sym, ◌∙◌, inl, inr}
use Rattle.std.proofs.lemmas.Bool.{and_parts, cases_Bool, eqb-false, eqb-true, false≢true, not-true, or_parts}
use Rattle.std.proofs.lemmas.List.Elements.{All-append, All-filter, All-nil, filter_passes}
use Rattle.std.specs.List.{list_any}
use Rattle.im_extensions.specs.Given.{is_private}
use Rattle.sm_live.specs.Sessions.{Session, is_of, number_of, sessions_of}
use Rattle.sm_live.specs.declared.told.SessionInfo.{SessionInfo}
use Rattle.sm_resumption.specs.declared.session.SessionView.{SessionView}
use Rattle.srv_route.proofs.PlanCases.{planned_has_all}
use Rattle.srv_route.specs.Destinations.{Destination}
use Rattle.srv_route.specs.Messages.{is_archived, is_copied}
use Rattle.srv_route.specs.Plans.{copied_of, having_it, planned, received_copies, refused, sent_copies, wants_copy}
use Rattle.srv_route.specs.Routes.{received_in, sent_in}
use Rattle.im_stanza.specs.Kinds.{answers_message}
use Rattle.im_stanza.specs.Views.{MessageView}
use Rattle.im_stanza.specs.declared.conditions.Condition.{Condition}
use Rattle.im_stanza.specs.declared.kinds.MessageKind.{MessageKind}

-- a session that wants a copy asked for it, and isn't the one that sent the message
wanted : (sender : SessionInfo) (deliver : List ℕ) (v : SessionView) → wants_copy (having_it sender deliver) v ≡ true → (v.carbons ≡ true) × (v.number ≢ sender.number)
wanted sender deliver v wants =
    let parts = and_parts v.carbons (not (list_any (λ n. n == v.number) (having_it sender deliver))) wants in
    let others = or_parts (sender.number == v.number) (list_any (λ n. n == v.number) deliver) (not-true (list_any (λ n. n == v.number) (having_it sender deliver)) parts.1) in
    (parts.0, λ e. eqb-false sender.number v.number others.0 (sym e))

-- what is true of each session that wants a copy
copied_all : {A : Type 0} (P : Session A → Type 0) (account : ℕ) (having : List ℕ) (sessions : List (Session A)) → ((t : Session A) → wants_copy having t.shown ≡ true → is_of account t ≡ true → P t) → All P (copied_of account having sessions)
copied_all P account having sessions holds =
    let mine = All-filter (λ t. wants_copy having t.shown) (λ t. is_of account t ≡ true) (sessions_of account sessions) (filter_passes (is_of account) sessions) in
    let wants = filter_passes (λ t. wants_copy having t.shown) (sessions_of account sessions) in
    λ k t within. holds (get_or (copied_of account having sessions) k t) (wants k t within) (mine k t within)

sent_all : {A : Type 0} (P : Session A → Type 0) (m : MessageView) (sender : SessionInfo) (deliver : List ℕ) (sessions : List (Session A)) →
    ((t : Session A) → wants_copy (having_it sender deliver) t.shown ≡ true → is_of sender.account t ≡ true → P t) → All P (sent_copies m sender deliver sessions)
sent_all P m sender deliver sessions holds =
    elim (cases_Bool (is_copied m)) [
      | inl copied ↦ rw copied (copied_all P sender.account (having_it sender deliver) sessions holds)
      | inr not_copied ↦ rw not_copied (All-nil P)
    ]

received_all : {A : Type 0} (P : Session A → Type 0) (m : MessageView) (sender : SessionInfo) (account : ℕ) (deliver : List ℕ) (sessions : List (Session A)) →
    ((t : Session A) → wants_copy (having_it sender deliver) t.shown ≡ true → is_of account t ≡ true → (sender.account == account) ≡ false → P t) → All P (received_copies m sender account deliver sessions)
received_all P m sender account deliver sessions holds =
    elim (cases_Bool (is_copied m && not (sender.account == account))) [
      | inl copied ↦
          let differ = not-true (sender.account == account) (and_parts (is_copied m) (not (sender.account == account)) copied).1 in
          rw copied (copied_all P account (having_it sender deliver) sessions (λ t wants mine. holds t wants mine differ))
      | inr not_copied ↦ rw not_copied (All-nil P)
    ]

-- ---- a refusal is copied to nobody

pub refused_sent : {A : Type 0} (condition : Condition) (kind : MessageKind) → sent_in (refused {A = A} condition kind) ≡ []
refused_sent condition kind =
    elim (cases_Bool (answers_message kind)) [
      | inl answered ↦ rw answered refl
      | inr unanswered ↦ rw unanswered refl
    ]

pub refused_received : {A : Type 0} (condition : Condition) (kind : MessageKind) → received_in (refused {A = A} condition kind) ≡ []
refused_received condition kind =
    elim (cases_Bool (answers_message kind)) [
      | inl answered ↦ rw answered refl
      | inr unanswered ↦ rw unanswered refl
    ]

-- ---- the laws

pub senders_left_out : {A : Type 0} (d : Destination) (m : MessageView) (sender : SessionInfo) (sessions : List (Session A)) → All (λ t. number_of t ≢ sender.number) (sent_in (planned d m sender sessions) ++ received_in (planned d m sender sessions))
senders_left_out {A = A} d m sender sessions =
    let Other : Session A → Type 0 = λ t. number_of t ≢ sender.number in
    planned_has_all m sender sessions (λ p. All Other (sent_in p ++ received_in p))
    (λ condition. rw (refused_sent {A = A} condition m.kind, refused_received {A = A} condition m.kind) (All-nil Other))
    (λ account deliver.
    let numbers = map number_of deliver in
    All-append Other (sent_copies m sender numbers sessions) (received_copies m sender account numbers sessions)
    (sent_all Other m sender numbers sessions (λ t wants mine. (wanted sender numbers t.shown wants).1))
    (received_all Other m sender account numbers sessions (λ t wants mine differ. (wanted sender numbers t.shown wants).1))) d

pub sent_as_asked : {A : Type 0} (d : Destination) (m : MessageView) (sender : SessionInfo) (sessions : List (Session A)) →
    All (λ t. (t.shown.carbons ≡ true) × (t.shown.account ≡ sender.account)) (sent_in (planned d m sender sessions))
sent_as_asked {A = A} d m sender sessions =
    let Asked : Session A → Type 0 = λ t. (t.shown.carbons ≡ true) × (t.shown.account ≡ sender.account) in
    planned_has_all m sender sessions (λ p. All Asked (sent_in p)) (λ condition. rw (refused_sent {A = A} condition m.kind) (All-nil Asked))
    (λ account deliver.
    let numbers = map number_of deliver in
    sent_all Asked m sender numbers sessions (λ t wants mine. ((wanted sender numbers t.shown wants).0, eqb-true t.shown.account sender.account mine))) d

pub received_as_asked : {A : Type 0} (d : Destination) (m : MessageView) (sender : SessionInfo) (sessions : List (Session A)) →
    All (λ t. (t.shown.carbons ≡ true) × (t.shown.account ≢ sender.account)) (received_in (planned d m sender sessions))
received_as_asked {A = A} d m sender sessions =
    let Asked : Session A → Type 0 = λ t. (t.shown.carbons ≡ true) × (t.shown.account ≢ sender.account) in
    planned_has_all m sender sessions (λ p. All Asked (received_in p)) (λ condition. rw (refused_received {A = A} condition m.kind) (All-nil Asked))
    (λ account deliver.
    let numbers = map number_of deliver in
    received_all Asked m sender account numbers sessions
    (λ t wants mine differ. ((wanted sender numbers t.shown wants).0, λ e. eqb-false sender.account account differ (sym e ∙ eqb-true t.shown.account account mine)))) d

pub not_copied : {A : Type 0} (d : Destination) (m : MessageView) (sender : SessionInfo) (sessions : List (Session A)) → is_copied m ≡ false → (sent_in (planned d m sender sessions) ≡ []) × (received_in (planned d m sender sessions) ≡ [])
not_copied {A = A} d m sender sessions is =
    planned_has_all m sender sessions (λ p. (sent_in p ≡ []) × (received_in p ≡ [])) (λ condition. (refused_sent {A = A} condition m.kind, refused_received {A = A} condition m.kind))
    (λ account deliver. (rw is refl, rw is refl)) d

pub private_in : (archived private : Bool) → private ≡ true → (archived && not private) ≡ false
private_in true true is = refl
private_in false private is = refl
private_in true false is = absurd (false≢true is)

pub private_not_copied : (m : MessageView) → is_private m.payload ≡ true → is_copied m ≡ false
private_not_copied m is = private_in (is_archived m) (is_private m.payload) is
