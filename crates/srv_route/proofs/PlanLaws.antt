-- What a plan answers, delivers and archives.
use Rattle.std.proofs.Common.{◌≡◌, ℕ, Bool, true, false, ◌==◌, nat_eq, List, [], ◌∷◌, Option, Some, None, refl, sym, ap, ◌∙◌, inl, inr, if◌then◌else◌}
use Rattle.std.proofs.lemmas.Bool.{cases_Bool, eq-eqb}
use Rattle.base_lemmas.specs.Distinct.{are_distinct_by}
use Rattle.sm_live.specs.Sessions.{Session, session_named}
use Rattle.sm_live.specs.declared.told.SessionInfo.{SessionInfo}
use Rattle.srv_route.proofs.PlanCases.{planned_has_all}
use Rattle.srv_route.specs.Destinations.{Destination, RemoteDomain, NoUser, Bare, Full}
use Rattle.srv_route.specs.Messages.{is_archived, is_chat, is_for_users, is_kept_kind}
use Rattle.srv_route.specs.Plans.{archiving_of, dropped, planned, ready_of, refused, to_bare, to_full, to_user}
use Rattle.srv_route.specs.Routes.{PlanOf, archives_in, archives_of, delivered_in, is_bounced}
use Rattle.im_stanza.specs.Kinds.{answers_message}
use Rattle.im_stanza.specs.Views.{MessageView}
use Rattle.srv_route.specs.declared.archiving.Archiving.TheVariants.{Nowhere, Once, Both}
use Rattle.im_stanza.specs.declared.conditions.Condition.{Condition}
use Rattle.im_stanza.specs.declared.conditions.Condition.TheVariants.{ServiceUnavailable}
use Rattle.im_stanza.specs.declared.kinds.MessageKind.{MessageKind}
use Rattle.im_stanza.specs.declared.kinds.MessageKind.TheVariants.{Chat, Normal, Headline, Groupchat, Error}

-- ---- to a resource that no session has

absent_chat : {A : Type 0} (m : MessageView) (sender : SessionInfo) (account : ℕ) (sessions : List (Session A)) → m.kind ≡ Chat → to_full m sender account None sessions ≡ to_bare m sender account sessions
absent_chat m sender account sessions is = rw is refl

absent_normal : {A : Type 0} (m : MessageView) (sender : SessionInfo) (account : ℕ) (sessions : List (Session A)) → m.kind ≡ Normal → delivered_in (to_full m sender account None sessions) ≡ []
absent_normal m sender account sessions is = rw is refl

absent_headline : {A : Type 0} (m : MessageView) (sender : SessionInfo) (account : ℕ) (sessions : List (Session A)) → m.kind ≡ Headline → to_full m sender account None sessions ≡ dropped
absent_headline m sender account sessions is = rw is refl

pub absent : {A B : Type 0} (f : PlanOf (Session A) → B) (y : B) (d : Destination) (m : MessageView) (sender : SessionInfo) (account : ℕ) (resource : List ℕ) (sessions : List (Session A)) →
    d ≡ Full account resource → session_named account resource sessions ≡ None → f (to_full m sender account None sessions) ≡ y → f (planned d m sender sessions) ≡ y
absent f y d m sender account resource sessions there none is =
    ap (λ x. f (planned x m sender sessions)) there ∙ ap (λ o. f (to_full m sender account o sessions)) none ∙ is

pub chat_falls_back : {A : Type 0} (d : Destination) (m : MessageView) (sender : SessionInfo) (account : ℕ) (resource : List ℕ) (sessions : List (Session A)) →
    d ≡ Full account resource → session_named account resource sessions ≡ None → m.kind ≡ Chat → planned d m sender sessions ≡ to_bare m sender account sessions
chat_falls_back d m sender account resource sessions there none is =
    absent (λ p. p) (to_bare m sender account sessions) d m sender account resource sessions there none (absent_chat m sender account sessions is)

pub normal_stays : {A : Type 0} (d : Destination) (m : MessageView) (sender : SessionInfo) (account : ℕ) (resource : List ℕ) (sessions : List (Session A)) →
    d ≡ Full account resource → session_named account resource sessions ≡ None → m.kind ≡ Normal → delivered_in (planned d m sender sessions) ≡ []
normal_stays d m sender account resource sessions there none is =
    absent delivered_in [] d m sender account resource sessions there none (absent_normal m sender account sessions is)

pub headline_is_dropped : {A : Type 0} (d : Destination) (m : MessageView) (sender : SessionInfo) (account : ℕ) (resource : List ℕ) (sessions : List (Session A)) →
    d ≡ Full account resource → session_named account resource sessions ≡ None → m.kind ≡ Headline → planned d m sender sessions ≡ dropped
headline_is_dropped d m sender account resource sessions there none is =
    absent (λ p. p) dropped d m sender account resource sessions there none (absent_headline m sender account sessions is)

-- ---- errors

error_refused : (A : Type 0) (condition : Condition) (kind : MessageKind) → kind ≡ Error → is_bounced (refused {A = A} condition kind) ≡ false
error_refused A condition kind is = rw is refl

pub error_not_answered : {A : Type 0} (d : Destination) (m : MessageView) (sender : SessionInfo) (sessions : List (Session A)) → m.kind ≡ Error → is_bounced (planned d m sender sessions) ≡ false
error_not_answered {A = A} d m sender sessions is =
    planned_has_all m sender sessions (λ p. is_bounced p ≡ false) (λ condition. error_refused A condition m.kind is) (λ account deliver. refl) d

-- ---- archives

-- a refusal goes into none
refused_nowhere : (A : Type 0) (condition : Condition) (kind : MessageKind) → archives_in (refused {A = A} condition kind) ≡ []
refused_nowhere A condition kind =
    elim (cases_Bool (answers_message kind)) [
      | inl right ↦ rw right refl
      | inr wrong ↦ rw wrong refl
    ]

kept_for_users : (kind : MessageKind) → is_for_users kind ≡ false → is_kept_kind kind ≡ false
kept_for_users Chat is = is
kept_for_users Normal is = is
kept_for_users Headline is = refl
kept_for_users Groupchat is = refl
kept_for_users Error is = refl

unarchived : (m : MessageView) (sender account : ℕ) → is_for_users m.kind ≡ false → archives_of (archiving_of m sender account) ≡ []
unarchived m sender account is = rw (kept_for_users m.kind is) refl

user_archives : {A : Type 0} (m : MessageView) (sender : SessionInfo) (account : ℕ) (deliver sessions : List (Session A)) → archives_in (to_user m sender account deliver sessions) ≡ archives_of (archiving_of m sender.account account)
user_archives {A = A} m sender account deliver sessions =
    elim (cases_Bool (is_for_users m.kind)) [
      | inl right ↦ rw right refl
      | inr wrong ↦ rw wrong (refused_nowhere A ServiceUnavailable m.kind ∙ sym (unarchived m sender.account account wrong))
    ]

full_archives : {A : Type 0} (m : MessageView) (sender : SessionInfo) (account : ℕ) (o : Option (Session A)) (sessions : List (Session A)) → archives_in (to_full m sender account o sessions) ≡ archives_of (archiving_of m sender.account account)
full_archives m sender account (Some t) sessions = refl
full_archives m sender account None sessions =
    elim (cases_Bool (is_chat m.kind)) [
      | inl right ↦ rw right (user_archives m sender account (ready_of account sessions) sessions)
      | inr wrong ↦ rw wrong (user_archives m sender account [] sessions)
    ]

pub bare_archives : {A : Type 0} (d : Destination) (m : MessageView) (sender : SessionInfo) (account : ℕ) (sessions : List (Session A)) → d ≡ Bare account → archives_in (planned d m sender sessions) ≡ archives_of (archiving_of m sender.account account)
bare_archives d m sender account sessions there = ap (λ x. archives_in (planned x m sender sessions)) there ∙ user_archives m sender account (ready_of account sessions) sessions

pub resource_archives : {A : Type 0} (d : Destination) (m : MessageView) (sender : SessionInfo) (account : ℕ) (resource : List ℕ) (sessions : List (Session A)) → d ≡ Full account resource →
    archives_in (planned d m sender sessions) ≡ archives_of (archiving_of m sender.account account)
resource_archives d m sender account resource sessions there =
    ap (λ x. archives_in (planned x m sender sessions)) there ∙ full_archives m sender account (session_named account resource sessions) sessions

pub same_archives : {A : Type 0} (d : Destination) (m : MessageView) (sender : SessionInfo) (sessions others : List (Session A)) → archives_in (planned d m sender sessions) ≡ archives_in (planned d m sender others)
same_archives RemoteDomain m sender sessions others = refl
same_archives NoUser m sender sessions others = refl
same_archives (Bare account) m sender sessions others =
    user_archives m sender account (ready_of account sessions) sessions ∙ sym (user_archives m sender account (ready_of account others) others)
same_archives (Full account resource) m sender sessions others =
    full_archives m sender account (session_named account resource sessions) sessions ∙ sym (full_archives m sender account (session_named account resource others) others)

two_archives : (sender account : ℕ) → (sender == account) ≡ false → are_distinct_by nat_eq (sender ∷ account ∷ []) ≡ true
two_archives sender account differ = rw differ refl

distinct_by : (kept same : Bool) (sender account : ℕ) → (sender == account) ≡ same → are_distinct_by nat_eq (archives_of (if kept then (if same then Once account else Both sender account) else Nowhere)) ≡ true
distinct_by true true sender account is = refl
distinct_by true false sender account is = two_archives sender account is
distinct_by false same sender account is = refl

pub archived_once : {A : Type 0} (d : Destination) (m : MessageView) (sender : SessionInfo) (sessions : List (Session A)) → are_distinct_by nat_eq (archives_in (planned d m sender sessions)) ≡ true
archived_once {A = A} d m sender sessions =
    planned_has_all m sender sessions (λ p. are_distinct_by nat_eq (archives_in p) ≡ true) (λ condition. ap (are_distinct_by nat_eq) (refused_nowhere A condition m.kind))
    (λ account deliver. distinct_by (is_archived m) (sender.account == account) sender.account account refl) d

pub own_archive : {A : Type 0} (d : Destination) (m : MessageView) (sender : SessionInfo) (sessions : List (Session A)) → d ≡ Bare sender.account → is_archived m ≡ true → archives_in (planned d m sender sessions) ≡ sender.account ∷ []
own_archive d m sender sessions there kept = bare_archives d m sender sender.account sessions there ∙ rw (kept, eq-eqb sender.account sender.account refl) refl
