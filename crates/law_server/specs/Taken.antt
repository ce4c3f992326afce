-- Messages that a server took, and what its archives get of them (XEP-0313, section 5).
use Rattle.std.specs.Prelude.{◌≡◌, ℕ, ◌==◌, Bool, true, false, ◌||◌, List, [], ◌∷◌, ◌++◌, Option, Some, None, Ok, filter, map, unwrap_or}
use Rattle.std.specs.List.{AllByRecursion}
use Rattle.std.specs.Option.{option_map}
use Rattle.mam_archive.specs.Entries.{EntryView}
use Rattle.srv_state.specs.State.{Kept, Out, Put, ServerState, Shut, Step, Took, archive_at, bare_address, full_address, session_address}
use Rattle.srv_state.specs.Steps.{appended}
use Rattle.srv_state.specs.Words.{word_of}
use Rattle.srv_state.specs.declared.word.Word.TheVariants as word
use Rattle.im_forwarding.specs.Passed.{addressed}
use Rattle.xml_framer.specs.declared.items.Item.{Item}
use Rattle.xml_framer.specs.declared.items.Item.TheVariants as item
use Rattle.sm_live.specs.Sessions.{Session, session_at}
use Rattle.srv_handlers.specs.Messages.{is_full_at}
use Rattle.im_messages.specs.Entries.{entry_of}
use Rattle.srv_route.specs.Destinations.{Bare, Destination, Full, NoUser, RemoteDomain, destination_of}
use Rattle.im_stanza.specs.Views.{MessageView}
use Rattle.im_stanza.specs.declared.stanzas.Stanza.TheVariants as stanza
use Rattle.law_server.specs.Accounts.{Exists}
use Rattle.law_server.specs.Sound.{IsSound}

-- a message that was taken: the account that sent it, the account that it is to, and its entry, but for the number
pub record Taken : Type 0 where
  pub sender : ℕ
  pub addressee : ℕ
  pub entry : EntryView

-- ---- what is told

-- its addresses and its origin id
abbrev pub told : {A : Type 0} → Taken → Out A
told t = Took t.entry.from t.entry.to t.entry.origin

abbrev pub tells_take : {A : Type 0} → Out A → Bool
tells_take (Took from to origin) = true
tells_take (Put k a) = false
tells_take (Shut k) = false

-- what outputs tell of messages that were taken
abbrev pub takes_reported : {A : Type 0} → List (Out A) → List (Out A)
takes_reported outs = filter tells_take outs

-- ---- what archives get

-- the account sent the message, or it is to the account
abbrev pub concerns : ℕ → Taken → Bool
concerns account t = (t.sender == account) || (t.addressee == account)

-- the entries for an account's archive, in order: one of each message that concerns it, also of one to oneself
abbrev pub entries_for : ℕ → List Taken → List EntryView
entries_for account takes = map (λ (t : Taken). t.entry) (filter (concerns account) takes)

-- an archive with these at its end, one after another: each gets the next number, and the newest are kept
abbrev pub all_appended : List EntryView → Kept → Kept
all_appended [] kept = kept
all_appended (e ∷ es) kept = all_appended es (appended e kept)

-- ---- whose messages they are

-- the account that a destination is
abbrev pub account_of : Destination → Option ℕ
account_of RemoteDomain = None
account_of NoUser = None
account_of (Bare account) = Some account
account_of (Full account resource) = Some account

-- the message is to the address that it was given, which names the account, or else to its sender's bare address
pub record IsTo {A : Type 0} (h : ServerState A) (t : Taken) : Type 0 where
  pub given : Option (List ℕ)
  pub to : t.entry.to ≡ unwrap_or given (bare_address t.sender h)
  pub addressee : account_of (destination_of h.domain h.accounts t.sender given) ≡ Some t.addressee

-- it is from an address of its sender, and that is an account that exists
pub record IsFromSender {A : Type 0} (h : ServerState A) (t : Taken) : Type 0 where
  pub exists : Exists h.accounts t.sender
  pub resource : List ℕ
  pub from : t.entry.from ≡ full_address t.sender resource h

-- ---- what a server took between two states

pub record HasTaken {A : Type 0} (takes : List Taken) (old new : Step A) : Type 0 where
  -- these are told, in order, and no others
  pub tells : takes_reported new.outs ≡ takes_reported old.outs ++ map told takes
  -- each archive gets its entries of these, and is else as it was
  pub archives : (account : ℕ) → archive_at account new.server_state ≡ option_map (all_appended (entries_for account takes)) (archive_at account old.server_state)
  -- they have the moment as their stamp
  pub stamps : AllByRecursion (λ (t : Taken). t.entry.stamp ≡ old.server_state.moment) takes
  pub addressees : AllByRecursion (IsTo old.server_state) takes
  -- where sessions and logins are sound they stay so, and each message is from its sender
  pub senders : IsSound old.server_state → AllByRecursion (IsFromSender old.server_state) takes
  pub sound : IsSound old.server_state → IsSound new.server_state
  pub domain : new.server_state.domain ≡ old.server_state.domain
  pub accounts : new.server_state.accounts ≡ old.server_state.accounts
  pub moment : new.server_state.moment ≡ old.server_state.moment

-- ---- an item

-- the element is a message
abbrev pub Reads : Item → MessageView → Type 0
Reads (item.Element e) m = word_of e ≡ word.Stanza false (Ok (stanza.Message m))
Reads i m = ⊥

-- The item is a message of the session on this connection, and the entry is what an archive keeps of it: from the session's
-- address, and to the address that it was given or else to the session's bare address. Both archives have a number for it.
pub record IsTakenFrom {A : Type 0} (k : ℕ) (i : Item) (h : ServerState A) (t : Taken) : Type 0 where
  pub session : Session A
  pub is_on : session_at k h.sessions ≡ Some session
  pub message : MessageView
  pub reads : Reads i message
  pub sender : t.sender ≡ session.shown.account
  pub addressee : account_of (destination_of h.domain h.accounts session.shown.account message.to) ≡ Some t.addressee
  pub sender_room : is_full_at (archive_at t.sender h) ≡ false
  pub addressee_room : is_full_at (archive_at t.addressee h) ≡ false
  pub entry : t.entry ≡ entry_of 0 h.moment (addressed (session_address session.shown.number h) (unwrap_or message.to (bare_address session.shown.account h)) message)

abbrev pub at_most_one : Option Taken → List Taken
at_most_one None = []
at_most_one (Some t) = t ∷ []
