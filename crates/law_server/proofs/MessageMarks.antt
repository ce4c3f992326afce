-- The row on messages archives one message or none, in the archives of its sender and of the account that it is to.
use Rattle.std.proofs.Common.{◌≡◌, ℕ, ◌==◌, ◌||◌, Bool, true, false, cond, List, [], ◌∷◌, Option, Some, None, refl, sym, ap, subst, ◌∙◌, ◌⊎◌, inl, inr}
use Rattle.std.proofs.lemmas.Bool.{or_parts}
use Rattle.std.specs.List.{list_any}
use Rattle.std.specs.Option.{IfSome, unwrap_or}
use Rattle.sm_resumption.proofs.RowFacts.{same_from_eqb}
use Rattle.srv_state.specs.State.{ServerState, archive_at, bare_address, session_address}
use Rattle.srv_state.specs.Steps.{Act}
use Rattle.im_forwarding.specs.Passed.{addressed}
use Rattle.sm_live.specs.Sessions.{Session, info_of, number_of, session_named}
use Rattle.sm_live.specs.declared.told.SessionInfo.{SessionInfo}
use Rattle.srv_handlers.specs.Messages.{archiving, at_message, bouncing, carrying, copying, copying_to, delivering, delivering_to, is_full_at, is_full_in, messaging, no_room, telling}
use Rattle.im_messages.specs.Entries.{entry_of}
use Rattle.srv_route.specs.Destinations.{Bare, Destination, Full, NoUser, RemoteDomain, destination_of}
use Rattle.srv_route.specs.Messages.{is_archived, is_chat, is_for_users}
use Rattle.srv_route.specs.Plans.{plan_of, planned, ready_of, refused, routed, to_bare, to_full, to_user}
use Rattle.srv_route.specs.Routes.{Bounced, PlanOf, RouteOf, Routed, archives_of, plan_renamed}
use Rattle.srv_route.specs.declared.archiving.Archiving.{Archiving}
use Rattle.srv_route.specs.declared.archiving.Archiving.TheVariants.{Both, Nowhere, Once}
use Rattle.im_stanza.specs.Kinds.{answers_message}
use Rattle.im_stanza.specs.Views.{MessageView}
use Rattle.im_stanza.specs.declared.conditions.Condition.{Condition}
use Rattle.im_stanza.specs.declared.conditions.Condition.TheVariants.{RemoteServerNotFound, ServiceUnavailable}
use Rattle.im_stanza.specs.declared.kinds.MessageKind.{MessageKind}
use Rattle.law_server.proofs.Marks.{Entry, Mark, Notice, marks}
use Rattle.law_server.specs.Taken.{Taken, account_of}
use Rattle.xml_writer.specs.Items.{ItemOut}

-- ---- the plan

abbrev archiving_in : {S : Type 0} → PlanOf S → Archiving
archiving_in (Bounced e) = Nowhere
archiving_in (Routed r) = r.archiving

abbrev once_or_both : ℕ → ℕ → Archiving
once_or_both sender account = cond (sender == account) (Once account) (Both sender account)

-- nowhere, or in the archives of the sender and of the account that the message is to
abbrev IsPlanned : {S : Type 0} → Destination → ℕ → PlanOf S → Type 0
IsPlanned d sender p = (archiving_in p ≡ Nowhere) ⊎ ((account : ℕ) × (account_of d ≡ Some account) × (archiving_in p ≡ once_or_both sender account))

planned_either : {S : Type 0} (d : Destination) (sender : ℕ) (b : Bool) (p q : PlanOf S) → IsPlanned d sender p → IsPlanned d sender q → IsPlanned d sender (cond b p q)
planned_either d sender true p q a b = a
planned_either d sender false p q a b = b

refused_nowhere : {A : Type 0} (b : Bool) (p q : PlanOf (Session A)) → archiving_in p ≡ Nowhere → archiving_in q ≡ Nowhere → archiving_in (cond b p q) ≡ Nowhere
refused_nowhere true p q a b = a
refused_nowhere false p q a b = b

is_refused : (A : Type 0) (d : Destination) (sender : ℕ) (condition : Condition) (kind : MessageKind) → IsPlanned d sender (refused {A = A} condition kind)
is_refused A d sender condition kind = inl (refused_nowhere (answers_message kind) _ _ refl refl)

archived_or_not : (b : Bool) (sender account : ℕ) → (cond b (once_or_both sender account) Nowhere ≡ Nowhere) ⊎ (cond b (once_or_both sender account) Nowhere ≡ once_or_both sender account)
archived_or_not true sender account = inr refl
archived_or_not false sender account = inl refl

is_routed : {A : Type 0} (d : Destination) (m : MessageView) (t : SessionInfo) (account : ℕ) (deliver sessions : List (Session A)) → account_of d ≡ Some account → IsPlanned d t.account (routed m t account deliver sessions)
is_routed d m t account deliver sessions names =
    elim (archived_or_not (is_archived m) t.account account) [ inl nowhere ↦ inl nowhere | inr there ↦ inr (account, names, there) ]

is_to_user : {A : Type 0} (d : Destination) (m : MessageView) (t : SessionInfo) (account : ℕ) (deliver sessions : List (Session A)) → account_of d ≡ Some account → IsPlanned d t.account (to_user m t account deliver sessions)
is_to_user d m t account deliver sessions names =
    planned_either d t.account (is_for_users m.kind) (routed m t account deliver sessions) (refused ServiceUnavailable m.kind)
    (is_routed d m t account deliver sessions names) (is_refused _ d t.account ServiceUnavailable m.kind)

is_to_bare : {A : Type 0} (d : Destination) (m : MessageView) (t : SessionInfo) (account : ℕ) (sessions : List (Session A)) → account_of d ≡ Some account → IsPlanned d t.account (to_bare m t account sessions)
is_to_bare d m t account sessions names = is_to_user d m t account (ready_of account sessions) sessions names

is_to_full : {A : Type 0} (d : Destination) (m : MessageView) (t : SessionInfo) (account : ℕ) (o : Option (Session A)) (sessions : List (Session A)) → account_of d ≡ Some account → IsPlanned d t.account (to_full m t account o sessions)
is_to_full d m t account (Some s) sessions names = is_routed d m t account (s ∷ []) sessions names
is_to_full d m t account None sessions names =
    planned_either d t.account (is_chat m.kind) (to_bare m t account sessions) (to_user m t account [] sessions)
    (is_to_bare d m t account sessions names) (is_to_user d m t account [] sessions names)

is_planned : {A : Type 0} (d : Destination) (m : MessageView) (t : SessionInfo) (sessions : List (Session A)) → IsPlanned d t.account (planned d m t sessions)
is_planned RemoteDomain m t sessions = is_refused _ RemoteDomain t.account RemoteServerNotFound m.kind
is_planned NoUser m t sessions = is_refused _ NoUser t.account ServiceUnavailable m.kind
is_planned (Bare account) m t sessions = is_to_bare (Bare account) m t account sessions refl
is_planned (Full account resource) m t sessions = is_to_full (Full account resource) m t account (session_named account resource sessions) sessions refl

renamed_archiving : {S T : Type 0} (f : S → T) (p : PlanOf S) → archiving_in (plan_renamed f p) ≡ archiving_in p
renamed_archiving f (Bounced e) = refl
renamed_archiving f (Routed r) = refl

is_renamed : {S T : Type 0} (f : S → T) (d : Destination) (sender : ℕ) (p : PlanOf S) → IsPlanned d sender p → IsPlanned d sender (plan_renamed f p)
is_renamed f d sender p (inl nowhere) = inl (renamed_archiving f p ∙ nowhere)
is_renamed f d sender p (inr there) = inr (there.0, there.1, renamed_archiving f p ∙ there.2)

-- ---- what is sent

quiet_delivery : {A : Type 0} (say : ItemOut → A) (m : MessageView) (accounts : List ℕ) (n : ℕ) (o : Option SessionInfo) (h : ServerState A) (more : List (Act A)) → marks (delivering_to say m accounts n o h more) ≡ marks more
quiet_delivery say m accounts n None h more = refl
quiet_delivery say m accounts n (Some t) h more = refl

quiet_delivering : {A : Type 0} (say : ItemOut → A) (m : MessageView) (accounts numbers : List ℕ) (h : ServerState A) (more : List (Act A)) → marks (delivering say m accounts numbers h more) ≡ marks more
quiet_delivering say m accounts [] h more = refl
quiet_delivering say m accounts (n ∷ numbers) h more =
    quiet_delivery say m accounts n (info_of n h.sessions) h (delivering say m accounts numbers h more) ∙ quiet_delivering say m accounts numbers h more

quiet_copy : {A : Type 0} (say : ItemOut → A) (sent : Bool) (m : MessageView) (accounts : List ℕ) (n : ℕ) (o : Option SessionInfo) (h : ServerState A) (more : List (Act A)) → marks (copying_to say sent m accounts n o h more) ≡ marks more
quiet_copy say sent m accounts n None h more = refl
quiet_copy say sent m accounts n (Some t) h more = refl

quiet_copying : {A : Type 0} (say : ItemOut → A) (sent : Bool) (m : MessageView) (accounts numbers : List ℕ) (h : ServerState A) (more : List (Act A)) → marks (copying say sent m accounts numbers h more) ≡ marks more
quiet_copying say sent m accounts [] h more = refl
quiet_copying say sent m accounts (n ∷ numbers) h more =
    quiet_copy say sent m accounts n (info_of n h.sessions) h (copying say sent m accounts numbers h more) ∙ quiet_copying say sent m accounts numbers h more

-- ---- the row

-- the sender's archive comes first
abbrev pub taken_marks : Taken → List Mark
taken_marks t =
    cond (t.sender == t.addressee) (Entry t.addressee t.entry ∷ Notice t.entry.from t.entry.to t.entry.origin ∷ [])
    (Entry t.sender t.entry ∷ Entry t.addressee t.entry ∷ Notice t.entry.from t.entry.to t.entry.origin ∷ [])

abbrev pub marks_of : Option Taken → List Mark
marks_of None = []
marks_of (Some t) = taken_marks t

marks_once : {A : Type 0} (moment : ℕ) (m : MessageView) (a : Archiving) (sent : List (Act A)) → marks sent ≡ [] → a ≡ Nowhere → marks (archiving (entry_of 0 moment m) (archives_of a) (telling m (archives_of a) sent)) ≡ []
marks_once moment m a sent quiet nowhere = subst (λ (x : Archiving). marks (archiving (entry_of 0 moment m) (archives_of x) (telling m (archives_of x) sent)) ≡ []) (sym nowhere) quiet

marks_carried : {A : Type 0} (moment sender account : ℕ) (m : MessageView) (b : Bool) (sent : List (Act A)) → marks sent ≡ [] →
    let a = cond b (Once account) (Both sender account) in
    let e = entry_of 0 moment m in
    marks (archiving e (archives_of a) (telling m (archives_of a) sent))
    ≡ cond b (Entry account e ∷ Notice e.from e.to e.origin ∷ []) (Entry sender e ∷ Entry account e ∷ Notice e.from e.to e.origin ∷ [])
marks_carried moment sender account m true sent quiet =
    let e = entry_of 0 moment m in
    ap (λ (ms : List Mark). Entry account e ∷ Notice e.from e.to e.origin ∷ ms) quiet
marks_carried moment sender account m false sent quiet =
    let e = entry_of 0 moment m in
    ap (λ (ms : List Mark). Entry sender e ∷ Entry account e ∷ Notice e.from e.to e.origin ∷ ms) quiet

-- the message of a session, as it was taken
pub record IsTakenOf {A : Type 0} (m : MessageView) (t : SessionInfo) (h : ServerState A) (taken : Taken) : Type 0 where
  pub sender : taken.sender ≡ t.account
  pub addressee : account_of (destination_of h.domain h.accounts t.account m.to) ≡ Some taken.addressee
  pub sender_room : is_full_at (archive_at t.account h) ≡ false
  pub addressee_room : is_full_at (archive_at taken.addressee h) ≡ false
  pub entry : taken.entry ≡ entry_of 0 h.moment (addressed (session_address t.number h) (unwrap_or m.to (bare_address t.account h)) m)

abbrev pub Marks : {A : Type 0} → (Taken → Type 0) → List (Act A) → Type 0
Marks P acts = (o : Option Taken) × (marks acts ≡ marks_of o) × IfSome o P

pub some_either : {A : Type 0} (P : Taken → Type 0) (b : Bool) (x y : List (Act A)) → Marks P x → Marks P y → Marks P (cond b x y)
some_either P true x y here there = here
some_either P false x y here there = there

-- neither archive is full
room_either : (f : ℕ → Bool) (s a : ℕ) (b : Bool) → (s == a) ≡ b → list_any f (archives_of (cond b (Once a) (Both s a))) ≡ false → (f s ≡ false) × (f a ≡ false)
room_either f s a true same none = (let here = or_parts (f a) false none in (subst (λ n. f n ≡ false) (sym (same_from_eqb s a same)) here.0, here.0))
room_either f s a false same none = (let first = or_parts (f s) (f a || false) none in (first.0, (or_parts (f a) false first.1).0))

room_both : (f : ℕ → Bool) (s a : ℕ) → list_any f (archives_of (once_or_both s a)) ≡ false → (f s ≡ false) × (f a ≡ false)
room_both f s a none = room_either f s a (s == a) refl none

carried : {A : Type 0} (say : ItemOut → A) (m : MessageView) (t : SessionInfo) (r : RouteOf ℕ) (h : ServerState A)
    → IsPlanned (destination_of h.domain h.accounts t.account m.to) t.account (Routed r)
    → is_full_in (archives_of r.archiving) h ≡ false → Marks (IsTakenOf m t h) (carrying say (addressed (session_address t.number h) (unwrap_or m.to (bare_address t.account h)) m) (archives_of r.archiving) r h)
carried say m t r h is room =
    let full = addressed (session_address t.number h) (unwrap_or m.to (bare_address t.account h)) m in
    let accounts = archives_of r.archiving in
    let received = copying say false full accounts r.received h [] in
    let copies = copying say true full accounts r.sent h received in
    let sent = delivering say full accounts r.deliver h copies in
    let quiet : marks sent ≡ [] = quiet_delivering say full accounts r.deliver h copies ∙ quiet_copying say true full accounts r.sent h received ∙ quiet_copying say false full accounts r.received h [] in
    let rooms : (account : ℕ) → r.archiving ≡ once_or_both t.account account → (is_full_at (archive_at t.account h) ≡ false) × (is_full_at (archive_at account h) ≡ false) =
    λ account planned_so. room_both (λ position. is_full_at (archive_at position h)) t.account account (subst (λ (x : Archiving). is_full_in (archives_of x) h ≡ false) planned_so room) in
    elim is [
      | inl nowhere ↦ (None, marks_once h.moment full r.archiving sent quiet nowhere, tt)
      | inr there ↦ (
        Some (record { sender = t.account; addressee = there.0; entry = entry_of 0 h.moment full }),
        ap (λ (a : Archiving). marks (archiving (entry_of 0 h.moment full) (archives_of a) (telling full (archives_of a) sent))) there.2
            ∙ marks_carried h.moment t.account there.0 full (t.account == there.0) sent quiet,
        record { sender = refl; addressee = there.1; sender_room = (rooms there.0 there.2).0; addressee_room = (rooms there.0 there.2).1; entry = refl },
      )
    ]

message_marks : {A : Type 0} (say : ItemOut → A) (m : MessageView) (t : SessionInfo) (p : PlanOf ℕ) (h : ServerState A)
    → IsPlanned (destination_of h.domain h.accounts t.account m.to) t.account p → Marks (IsTakenOf m t h) (messaging say m (unwrap_or m.to (bare_address t.account h)) t p h)
message_marks say m t (Bounced e) h is = (None, refl, tt)
message_marks say m t (Routed r) h is = unless_full (is_full_in (archives_of r.archiving) h) refl
  where
    unless_full : (full : Bool) → is_full_in (archives_of r.archiving) h ≡ full → Marks (IsTakenOf m t h) (cond full (bouncing say m (unwrap_or m.to (bare_address t.account h)) no_room t) (carrying say (addressed (session_address t.number h) (unwrap_or m.to (bare_address t.account h)) m) (archives_of r.archiving) r h))
    unless_full true is_full = (None, refl, tt)
    unless_full false room = carried say m t r h is room

pub at_message_marks : {A : Type 0} (say : ItemOut → A) (m : MessageView) (t : SessionInfo) (h : ServerState A) → Marks (IsTakenOf m t h) (at_message say m t h)
at_message_marks say m t h =
    let d = destination_of h.domain h.accounts t.account m.to in
    message_marks say m t (plan_renamed number_of (plan_of h.domain h.accounts h.sessions m t)) h
    (is_renamed number_of d t.account (planned d m t h.sessions) (is_planned d m t h.sessions))
