-- What goes out live of a message: to whom, and what it is (RFC 6121, section 8.5; XEP-0280, sections 7 and 8).
use Rattle.std.specs.Prelude.{◌≡◌, ◌⊎◌, ℕ, ◌+◌, Bool, true, false, if◌then◌else◌, Option, Some, None, unwrap_or}
use Rattle.std.specs.Option.{option_map}
use Rattle.im_forwarding.specs.Copies.{CopyView, copy_item}
use Rattle.im_forwarding.specs.Passed.{addressed, passed_item}
use Rattle.im_replies.specs.Management.{request_item}
use Rattle.im_replies.specs.Streams.{error_item}
use Rattle.im_replies.specs.declared.conditions.StreamCondition.TheVariants.{Conflict, ResourceConstraint}
use Rattle.im_stanza.specs.Views.{MessageView}
use Rattle.law_server.specs.Taken.{Reads, account_of}
use Rattle.sm_live.specs.Sessions.{Session, session_at, session_of}
use Rattle.srv_route.specs.Destinations.{destination_of}
use Rattle.srv_route.specs.Messages.{is_archived}
use Rattle.srv_state.specs.State.{Kept, Out, Put, ServerState, Shut, Took, archive_at, bare_address, session_address}
use Rattle.srv_state.specs.Steps as steps
use Rattle.srv_state.specs.Steps.{Act}
use Rattle.xml_framer.specs.declared.items.Item.{Item}
use Rattle.xml_writer.specs.Items.{Closing, ItemOut}

-- ---- a message, and whom it is to

-- The item is a message of the session on this connection, and the address that it was given names the account; one
-- without an address is to the account that sent it (RFC 6121, section 8.2).
pub record IsMessageTo {A : Type 0} (k : ℕ) (i : Item) (h : ServerState A) (sender : Session A) (m : MessageView) (addressee : ℕ) : Type 0 where
  pub is_on : session_at k h.sessions ≡ Some sender
  pub reads : Reads i m
  pub names : account_of (destination_of h.domain h.accounts sender.shown.account m.to) ≡ Some addressee

-- ---- what goes out

-- from the full address of the session that sent it (RFC 6120, section 8.1.2.1), and to the address that it was given or
-- else to the bare address of its account; the rest of it as it came
abbrev pub going_on : {A : Type 0} → Session A → MessageView → ServerState A → MessageView
going_on sender m h = addressed (session_address sender.shown.number h) (unwrap_or m.to (bare_address sender.shown.account h)) m

-- the number that an archive gives next
abbrev pub next_in : Option Kept → Option ℕ
next_in archive = option_map (λ (kept : Kept). kept.last + 1) archive

-- the number under which an account's archive gets the message: the next one where it is archived, else none
abbrev pub number_for : {A : Type 0} → ℕ → MessageView → ServerState A → Option ℕ
number_for account m h = if is_archived m then next_in (archive_at account h) else None

-- the message itself, for the sessions of an account
abbrev pub delivery : {A : Type 0} → Session A → MessageView → ℕ → ServerState A → ItemOut
delivery sender m account h = passed_item (bare_address account h) (number_for account m h) (going_on sender m h)

-- what a copy for the sessions of an account tells
abbrev pub copy_of : {A : Type 0} → Bool → Session A → MessageView → ℕ → ServerState A → CopyView
copy_of sent sender m account h = record {
  sent = sent;
  moment = h.moment;
  by = bare_address account h;
  number = number_for account m h;
  message = going_on sender m h;
}

-- the copy for a session of it, to the full address of that
abbrev pub copy : {A : Type 0} → Bool → Session A → MessageView → ℕ → Session A → ServerState A → ItemOut
copy sent sender m account recipient h = copy_item (copy_of sent sender m account h) (session_address recipient.shown.number h)

-- ---- to whom

-- The message itself goes to a session of the account that it is to. A copy of it as sent goes to a session of the account
-- that sent it, and one as received to a session of the account that it is to; each of these asked for copies.
pub data IsGiven {A : Type 0} (say : ItemOut → A) (h : ServerState A) (sender : Session A) (m : MessageView) (addressee : ℕ) (recipient : Session A) (a : A) : Type 0 where
  itself : recipient.shown.account ≡ addressee → a ≡ say (delivery sender m addressee h) → IsGiven say h sender m addressee recipient a
  as_sent : recipient.shown.account ≡ sender.shown.account → recipient.shown.carbons ≡ true
      → a ≡ say (copy true sender m sender.shown.account recipient h) → IsGiven say h sender m addressee recipient a
  as_received : recipient.shown.account ≡ addressee → recipient.shown.carbons ≡ true
      → a ≡ say (copy false sender m addressee recipient h) → IsGiven say h sender m addressee recipient a

-- what this session gets of the message that the item is
pub record IsLive {A : Type 0} (say : ItemOut → A) (k : ℕ) (i : Item) (h : ServerState A) (recipient : Session A) (a : A) : Type 0 where
  pub sender : Session A
  pub message : MessageView
  pub addressee : ℕ
  pub is : IsMessageTo k i h sender message addressee
  pub given : IsGiven say h sender message addressee recipient a

-- ---- what a row does

-- the same of the session with a number, which lives
pub record IsLiveFor {A : Type 0} (say : ItemOut → A) (k : ℕ) (i : Item) (h : ServerState A) (n : ℕ) (a : A) : Type 0 where
  pub recipient : Session A
  pub lives : session_of n h.sessions ≡ Some recipient
  pub gets : IsLive say k i h recipient a

-- the session on the connection has the number: it is answered
pub record IsItsSession {A : Type 0} (k : ℕ) (h : ServerState A) (n : ℕ) : Type 0 where
  pub session : Session A
  pub is_on : session_at k h.sessions ≡ Some session
  pub number : n ≡ session.shown.number

-- what ends a stream whose session is another connection's now (RFC 6120, section 7.7.2.2; XEP-0198, section 5), or in
-- which too many stanzas wait
pub data IsParting {A : Type 0} (say : ItemOut → A) (a : A) : Type 0 where
  conflict : a ≡ say (error_item Conflict) → IsParting say a
  constraint : a ≡ say (error_item ResourceConstraint) → IsParting say a
  footer : a ≡ say Closing → IsParting say a

-- What an item puts goes to its own connection, or ends another's stream. What it sends goes to the session on its
-- connection, or is live of the message that it is.
abbrev pub GoesWhereDue : {A : Type 0} → (ItemOut → A) → ℕ → Item → ServerState A → Act A → Type 0
GoesWhereDue say k i h (steps.Say j a) = (j ≡ k) ⊎ IsParting say a
GoesWhereDue say k i h (steps.Send n a) = IsItsSession k h n ⊎ IsLiveFor say k i h n a
GoesWhereDue say k i h act = Unit {0}

-- ---- what connections get

-- What an item puts on a connection goes to its own, ends a stream, asks for a count (XEP-0198, section 4), or is live of
-- the message that it is, for the session on that connection.
pub data IsPut {A : Type 0} (say : ItemOut → A) (k : ℕ) (i : Item) (h : ServerState A) (j : ℕ) (a : A) : Type 0 where
  its_own : j ≡ k → IsPut say k i h j a
  parting : IsParting say a → IsPut say k i h j a
  asking : a ≡ say request_item → IsPut say k i h j a
  live : (t : Session A) → session_of t.shown.number h.sessions ≡ Some t → t.shown.conn ≡ Some j → IsLive say k i h t a → IsPut say k i h j a

abbrev pub ArrivesWhereDue : {A : Type 0} → (ItemOut → A) → ℕ → Item → ServerState A → Out A → Type 0
ArrivesWhereDue say k i h (Put j a) = IsPut say k i h j a
ArrivesWhereDue say k i h (Shut j) = Unit {0}
ArrivesWhereDue say k i h (Took from to origin) = Unit {0}

-- it is put on this connection, or shuts it
abbrev pub IsOn : {A : Type 0} → Option ℕ → Out A → Type 0
IsOn conn (Put j a) = conn ≡ Some j
IsOn conn (Shut j) = conn ≡ Some j
IsOn conn (Took from to origin) = ⊥
