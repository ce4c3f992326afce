-- The row on messages (RFC 6121, section 8; XEP-0313, section 5; XEP-0280; XEP-0359).
use Rattle.std.specs.Prelude.{ℕ, ◌+◌, ◌==◌, nat_le, Bool, true, false, if◌then◌else◌, List, [], ◌∷◌, Option, Some, None, unwrap_or}
use Rattle.std.specs.List.{list_any}
use Rattle.mam_archive.specs.Entries.{EntryView}
use Rattle.mam_archive.specs.declared.archive.TheConstants.{GREATEST_NUMBER}
use Rattle.im_extensions.specs.Given.{origin_of}
use Rattle.im_forwarding.specs.Copies.{CopyView, copy_item}
use Rattle.im_forwarding.specs.Passed.{addressed, passed_item}
use Rattle.sm_live.specs.Sessions.{info_of, number_of}
use Rattle.sm_live.specs.declared.told.SessionInfo.{SessionInfo}
use Rattle.im_messages.specs.Entries.{entry_of}
use Rattle.im_replies.specs.Requests.{bounce_item}
use Rattle.srv_route.specs.Plans.{plan_of}
use Rattle.srv_route.specs.Routes.{PlanOf, Bounced, Routed, RouteOf, archives_of, plan_renamed}
use Rattle.srv_state.specs.State.{Kept, ServerState, archive_at, bare_address, session_address}
use Rattle.srv_state.specs.Steps.{Act, Archive, Send, Tell}
use Rattle.im_stanza.specs.Views.{MessageView}
use Rattle.im_stanza.specs.declared.conditions.Condition.TheVariants.{ResourceConstraint}
use Rattle.im_stanza.specs.declared.errors.ErrorKind.TheVariants.{Wait}
use Rattle.im_stanza.specs.declared.errors.StanzaError.{StanzaError}
use Rattle.xml_writer.specs.Items.{ItemOut}

-- ---- archives

abbrev pub is_full_at : Option Kept → Bool
is_full_at None = false
is_full_at (Some kept) = nat_le GREATEST_NUMBER kept.last

-- one of these can take no entry
abbrev pub is_full_in : {A : Type 0} → List ℕ → ServerState A → Bool
is_full_in accounts h = list_any (λ account. is_full_at (archive_at account h)) accounts

abbrev pub number_after : Option Kept → Option ℕ
number_after None = None
number_after (Some kept) = Some (kept.last + 1)

-- the number that a message gets in an account's archive, where it goes there
abbrev pub number_in : {A : Type 0} → ℕ → List ℕ → ServerState A → Option ℕ
number_in account accounts h = if list_any (λ other. other == account) accounts then number_after (archive_at account h) else None

-- the message is archived, the sender's archive first, and then more
abbrev pub archiving : {A : Type 0} → EntryView → List ℕ → List (Act A) → List (Act A)
archiving e [] more = more
archiving e (account ∷ accounts) more = Archive account e ∷ archiving e accounts more

-- that is told once
abbrev pub telling : {A : Type 0} → MessageView → List ℕ → List (Act A) → List (Act A)
telling m [] more = more
telling m (account ∷ accounts) more = Tell (unwrap_or m.from []) (unwrap_or m.to []) (unwrap_or (origin_of m.payload) []) ∷ more

-- ---- what is sent, to sessions by their numbers

abbrev pub delivering_to : {A : Type 0} → (ItemOut → A) → MessageView → List ℕ → ℕ → Option SessionInfo → ServerState A → List (Act A) → List (Act A)
delivering_to say m accounts n None h more = more
delivering_to say m accounts n (Some t) h more =
    Send n (say (passed_item (bare_address t.account h) (number_in t.account accounts h) m)) ∷ more

-- the message itself, with the id of the archive of the session's account
abbrev pub delivering : {A : Type 0} → (ItemOut → A) → MessageView → List ℕ → List ℕ → ServerState A → List (Act A) → List (Act A)
delivering say m accounts [] h more = more
delivering say m accounts (n ∷ numbers) h more =
    delivering_to say m accounts n (info_of n h.sessions) h (delivering say m accounts numbers h more)

-- what a copy for the sessions of an account tells
abbrev pub copy_for : {A : Type 0} → Bool → MessageView → List ℕ → ℕ → ServerState A → CopyView
copy_for sent m accounts account h = record {
  sent = sent;
  moment = h.moment;
  by = bare_address account h;
  number = number_in account accounts h;
  message = m;
}

abbrev pub copying_to : {A : Type 0} → (ItemOut → A) → Bool → MessageView → List ℕ → ℕ → Option SessionInfo → ServerState A → List (Act A) → List (Act A)
copying_to say sent m accounts n None h more = more
copying_to say sent m accounts n (Some t) h more = Send n (say (copy_item (copy_for sent m accounts t.account h) (session_address n h))) ∷ more

abbrev pub copying : {A : Type 0} → (ItemOut → A) → Bool → MessageView → List ℕ → List ℕ → ServerState A → List (Act A) → List (Act A)
copying say sent m accounts [] h more = more
copying say sent m accounts (n ∷ numbers) h more =
    copying_to say sent m accounts n (info_of n h.sessions) h (copying say sent m accounts numbers h more)

-- ---- the row

-- the message is archived and told of, and goes out, and then copies as sent and as received
abbrev pub carrying : {A : Type 0} → (ItemOut → A) → MessageView → List ℕ → RouteOf ℕ → ServerState A → List (Act A)
carrying say m accounts r h =
    archiving (entry_of 0 h.moment m) accounts
    (telling m accounts
    (delivering say m accounts r.deliver h
    (copying say true m accounts r.sent h
    (copying say false m accounts r.received h []))))

abbrev pub no_room : StanzaError
no_room = record { kind = Wait; condition = ResourceConstraint }

abbrev pub bouncing : {A : Type 0} → (ItemOut → A) → MessageView → List ℕ → StanzaError → SessionInfo → List (Act A)
bouncing say m to e t = Send t.number (say (bounce_item to m.id e)) ∷ []

-- where an archive of the plan can take no entry, that is the answer, and nothing else happens
abbrev pub messaging : {A : Type 0} → (ItemOut → A) → MessageView → List ℕ → SessionInfo → PlanOf ℕ → ServerState A → List (Act A)
messaging say m to t (Bounced e) h = bouncing say m to e t
messaging say m to t (Routed r) h =
    if is_full_in (archives_of r.archiving) h then bouncing say m to no_room t
    else carrying say (addressed (session_address t.number h) to m) (archives_of r.archiving) r h

-- A message of a session: one without `to` is to the bare address of its account.
abbrev pub at_message : {A : Type 0} → (ItemOut → A) → MessageView → SessionInfo → ServerState A → List (Act A)
at_message say m t h =
    messaging say m (unwrap_or m.to (bare_address t.account h)) t (plan_renamed number_of (plan_of h.domain h.accounts h.sessions m t)) h
