-- What becomes of a message (RFC 6121, section 8; XEP-0313, section 5; XEP-0280, sections 6 to 8).
use Rattle.std.specs.Prelude.{ℕ, ◌==◌, int_le, pos, Bool, not, ◌&&◌, if◌then◌else◌, List, [], ◌∷◌, Option, Some, None, filter, map}
use Rattle.std.specs.List.{list_any}
use Rattle.sm_live.specs.Sessions.{Session, number_of, session_named, sessions_of}
use Rattle.sm_live.specs.declared.told.SessionInfo.{SessionInfo}
use Rattle.sm_resumption.specs.declared.session.SessionView.{SessionView}
use Rattle.srv_login.specs.declared.account.Account.{Account}
use Rattle.srv_route.specs.Destinations.{Destination, RemoteDomain, NoUser, Bare, Full, destination_of}
use Rattle.srv_route.specs.Messages.{is_archived, is_chat, is_copied, is_for_users}
use Rattle.srv_route.specs.Routes.{PlanOf, Bounced, Routed}
use Rattle.srv_route.specs.declared.archiving.Archiving.{Archiving}
use Rattle.srv_route.specs.declared.archiving.Archiving.TheVariants.{Nowhere, Once, Both}
use Rattle.im_stanza.specs.Kinds.{answers_message}
use Rattle.im_stanza.specs.Views.{MessageView}
use Rattle.im_stanza.specs.declared.conditions.Condition.{Condition}
use Rattle.im_stanza.specs.declared.conditions.Condition.TheVariants.{RemoteServerNotFound, ServiceUnavailable}
use Rattle.im_stanza.specs.declared.errors.ErrorKind.TheVariants.{Cancel}
use Rattle.im_stanza.specs.declared.kinds.MessageKind.{MessageKind}

-- ---- archives (XEP-0313, section 5)

-- in the sender's archive and in the recipient's, but once where they are one account
abbrev pub archiving_of : MessageView → ℕ → ℕ → Archiving
archiving_of m sender account =
    if is_archived m then (if sender == account then Once account else Both sender account) else Nowhere

-- ---- copies (XEP-0280, sections 6 to 8)

-- a session that asked for copies, but for those that have the message by themselves
abbrev pub wants_copy : List ℕ → SessionView → Bool
wants_copy having v = v.carbons && not (list_any (λ n. n == v.number) having)

abbrev pub copied_of : {A : Type 0} → ℕ → List ℕ → List (Session A) → List (Session A)
copied_of account having sessions = filter (λ t. wants_copy having t.shown) (sessions_of account sessions)

-- the session that sent the message, and those that it is delivered to
abbrev pub having_it : SessionInfo → List ℕ → List ℕ
having_it sender deliver = sender.number ∷ deliver

-- copies as sent, to the sender's account
abbrev pub sent_copies : {A : Type 0} → MessageView → SessionInfo → List ℕ → List (Session A) → List (Session A)
sent_copies m sender deliver sessions =
    if is_copied m then copied_of sender.account (having_it sender deliver) sessions else []

-- copies as received, to the recipient's account; a message to oneself is copied as sent only
abbrev pub received_copies : {A : Type 0} → MessageView → SessionInfo → ℕ → List ℕ → List (Session A) → List (Session A)
received_copies m sender account deliver sessions =
    if is_copied m && not (sender.account == account) then copied_of account (having_it sender deliver) sessions else []

-- ---- deliveries (RFC 6121, section 8.5)

-- a session that gets what is sent to the bare address of its account: it is available, with a priority that is not
-- negative (section 8.5.2.1)
abbrev pub is_ready : SessionView → Bool
is_ready v = v.available && int_le (pos 0) v.priority

abbrev pub ready_of : {A : Type 0} → ℕ → List (Session A) → List (Session A)
ready_of account sessions = filter (λ t. is_ready t.shown) (sessions_of account sessions)

-- a message of a sender to these sessions of an account
abbrev pub routed : {A : Type 0} → MessageView → SessionInfo → ℕ → List (Session A) → List (Session A) → PlanOf (Session A)
routed m sender account deliver sessions = Routed (record {
  archiving = archiving_of m sender.account account;
  deliver = deliver;
  sent = sent_copies m sender (map number_of deliver) sessions;
  received = received_copies m sender account (map number_of deliver) sessions;
})

-- a message that goes nowhere
abbrev pub dropped : {A : Type 0} → PlanOf (Session A)
dropped = Routed (record { archiving = Nowhere; deliver = []; sent = []; received = [] })

-- it is answered with an error, but for one that is an error itself (RFC 6120, section 8.3.1)
abbrev pub refused : {A : Type 0} → Condition → MessageKind → PlanOf (Session A)
refused condition kind = if answers_message kind then Bounced (record { kind = Cancel; condition = condition }) else dropped

-- to these sessions of an account, where it is a message for users
abbrev pub to_user : {A : Type 0} → MessageView → SessionInfo → ℕ → List (Session A) → List (Session A) → PlanOf (Session A)
to_user m sender account deliver sessions =
    if is_for_users m.kind then routed m sender account deliver sessions else refused ServiceUnavailable m.kind

-- to the bare address of an account (section 8.5.2): to the sessions that are ready
abbrev pub to_bare : {A : Type 0} → MessageView → SessionInfo → ℕ → List (Session A) → PlanOf (Session A)
to_bare m sender account sessions = to_user m sender account (ready_of account sessions) sessions

-- to an address with a resource (section 8.5.3): to the session that has it, whatever the message's type; where none has,
-- a chat goes as one to the bare address, and the rest to nobody
abbrev pub to_full : {A : Type 0} → MessageView → SessionInfo → ℕ → Option (Session A) → List (Session A) → PlanOf (Session A)
to_full m sender account (Some t) sessions = routed m sender account (t ∷ []) sessions
to_full m sender account None sessions =
    if is_chat m.kind then to_bare m sender account sessions else to_user m sender account [] sessions

abbrev pub planned : {A : Type 0} → Destination → MessageView → SessionInfo → List (Session A) → PlanOf (Session A)
planned RemoteDomain m sender sessions = refused RemoteServerNotFound m.kind
planned NoUser m sender sessions = refused ServiceUnavailable m.kind
planned (Bare account) m sender sessions = to_bare m sender account sessions
planned (Full account resource) m sender sessions = to_full m sender account (session_named account resource sessions) sessions

-- the plan for a message of a sender, at a server of a domain
abbrev pub plan_of : {A : Type 0} → List ℕ → List Account → List (Session A) → MessageView → SessionInfo → PlanOf (Session A)
plan_of domain accounts sessions m sender = planned (destination_of domain accounts sender.account m.to) m sender sessions
