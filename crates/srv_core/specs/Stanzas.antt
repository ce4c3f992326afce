-- The row on stanzas (RFC 6120, section 8; RFC 6121, section 4).
use Rattle.std.specs.Prelude.{ℕ, Bool, true, false, ◌||◌, List, [], ◌∷◌, Option, Some, None, Result, Ok, Err}
use Rattle.std.specs.Str.{bytes_eq}
use Rattle.sm_live.specs.declared.told.SessionInfo.{SessionInfo}
use Rattle.im_replies.specs.Requests.{bounce_item, iq_error_item, presence_bounce_item}
use Rattle.im_replies.specs.declared.conditions.StreamCondition.{StreamCondition}
use Rattle.im_replies.specs.declared.conditions.StreamCondition.TheVariants.{BadFormat, InvalidFrom, PolicyViolation}
use Rattle.srv_handlers.specs.Messages.{at_message}
use Rattle.srv_handlers.specs.Requests.{at_iq}
use Rattle.srv_state.specs.State.{ServerState, bare_address, session_address}
use Rattle.srv_state.specs.Handling.{counting}
use Rattle.srv_state.specs.Steps.{Act, Present, Send}
use Rattle.srv_state.specs.Streams.{ending}
use Rattle.srv_state.specs.declared.connection.Standing.{Standing}
use Rattle.im_jid.specs.Cuts.{domain_of}
use Rattle.im_stanza.specs.declared.conditions.Condition.TheVariants.{JidMalformed, RemoteServerNotFound}
use Rattle.im_stanza.specs.declared.errors.ErrorKind.TheVariants.{Cancel, Modify}
use Rattle.im_stanza.specs.declared.errors.StanzaError.{StanzaError}
use Rattle.im_stanza.specs.declared.fault.StanzaFault.{StanzaFault}
use Rattle.im_stanza.specs.declared.fault.StanzaFault.TheVariants as fault
use Rattle.im_stanza.specs.declared.kinds.PresenceKind.{PresenceKind}
use Rattle.im_stanza.specs.declared.kinds.PresenceKind.TheVariants.{Available, Unavailable, Error, Other}
use Rattle.im_stanza.specs.declared.stanzas.Presence.{Presence}
use Rattle.im_stanza.specs.declared.stanzas.Stanza.{Stanza}
use Rattle.im_stanza.specs.declared.stanzas.Stanza.TheVariants as stanza
use Rattle.xml_writer.specs.Items.{ItemOut}

-- ---- what ends the stream, in its order

-- who sent the stanza, as it says
abbrev pub sender_of : Stanza → Option (List ℕ)
sender_of (stanza.Message m) = m.from
sender_of (stanza.Presence p) = p.from
sender_of (stanza.Iq q) = q.from

abbrev pub is_own_of : Option (List ℕ) → List ℕ → List ℕ → Bool
is_own_of None bare full = true
is_own_of (Some from) bare full = bytes_eq from bare || bytes_eq from full

-- it says nothing, or tells the bare or the full address of the session (RFC 6120, section 8.1.2.1)
abbrev pub is_own : {A : Type 0} → Option (List ℕ) → SessionInfo → ServerState A → Bool
is_own from t h = is_own_of from (bare_address t.account h) (session_address t.number h)

abbrev pub unless_own : Bool → Option StreamCondition
unless_own true = None
unless_own false = Some InvalidFrom

-- `from` is judged before `to`
abbrev pub stanza_condition : {A : Type 0} → Result Stanza StanzaFault → SessionInfo → ServerState A → Option StreamCondition
stanza_condition (Ok read) t h = unless_own (is_own (sender_of read) t h)
stanza_condition (Err (fault.BadTo message reply from id to)) t h = unless_own (is_own from t h)
stanza_condition (Err fault.BadFrom) t h = Some InvalidFrom
stanza_condition (Err why) t h = Some BadFormat

-- ---- presence (RFC 6121, section 4): what is for all tells whether the session is available, and nothing else does

abbrev pub not_found : StanzaError
not_found = record { kind = Cancel; condition = RemoteServerNotFound }

-- to an address of another domain (RFC 6120, sections 8.3.3.16 and 10.4): the presence comes back, unless it is an error
-- itself (section 8.3.1) or tells that its sender is gone, which asks for no answer
abbrev pub returning : {A : Type 0} → (ItemOut → A) → PresenceKind → List ℕ → Presence → SessionInfo → List (Act A)
returning say Available to p t = Send t.number (say (presence_bounce_item to p.id not_found)) ∷ []
returning say Unavailable to p t = []
returning say Error to p t = []
returning say Other to p t = Send t.number (say (presence_bounce_item to p.id not_found)) ∷ []

-- whether an address is of the server's domain
abbrev pub is_local : {A : Type 0} → List ℕ → ServerState A → Bool
is_local to h = bytes_eq (domain_of to) h.domain

-- to an address of this domain or of another one: no presence is passed on
abbrev pub directing : {A : Type 0} → (ItemOut → A) → Bool → PresenceKind → List ℕ → Presence → SessionInfo → List (Act A)
directing say true kind to p t = []
directing say false kind to p t = returning say kind to p t

abbrev pub presenting : {A : Type 0} → (ItemOut → A) → Option (List ℕ) → PresenceKind → Presence → SessionInfo → ServerState A → List (Act A)
presenting say (Some to) kind p t h = directing say (is_local to h) kind to p t
presenting say None Available p t h = Present t.number true p.priority ∷ []
presenting say None Unavailable p t h = Present t.number false p.priority ∷ []
presenting say None Error p t h = []
presenting say None Other p t h = []

abbrev pub at_presence : {A : Type 0} → (ItemOut → A) → Presence → SessionInfo → ServerState A → List (Act A)
at_presence say p t h = presenting say p.to p.kind p t h

-- ---- a `to` that is no address (RFC 6120, section 8.3.3.8)

abbrev pub malformed : StanzaError
malformed = record { kind = Modify; condition = JidMalformed }

abbrev pub malformed_item : {A : Type 0} → Bool → List ℕ → List ℕ → SessionInfo → ServerState A → ItemOut
malformed_item true id to t h = bounce_item to id malformed
malformed_item false id to t h = iq_error_item (record { from = Some to; to = Some (session_address t.number h); id = id }) malformed

abbrev pub at_bad_to : {A : Type 0} → (ItemOut → A) → Bool → Bool → List ℕ → List ℕ → SessionInfo → ServerState A → List (Act A)
at_bad_to say message false id to t h = []
at_bad_to say message true id to t h = Send t.number (say (malformed_item message id to t h)) ∷ []

-- ---- a stanza that is handled

abbrev pub handling : {A : Type 0} → (ItemOut → A) → Result Stanza StanzaFault → SessionInfo → ServerState A → List (Act A)
handling say (Ok (stanza.Message m)) t h = at_message say m t h
handling say (Ok (stanza.Presence p)) t h = at_presence say p t h
handling say (Ok (stanza.Iq q)) t h = at_iq say q t h
handling say (Err (fault.BadTo message reply from id to)) t h = at_bad_to say message reply id to t h
handling say (Err why) t h = []

abbrev pub judging : {A : Type 0} → (ItemOut → A) → ℕ → Result Stanza StanzaFault → SessionInfo → Standing → Option StreamCondition → ServerState A → List (Act A)
judging say k read t st None h = counting t (handling say read t h)
judging say k read t st (Some condition) h = ending say k condition st h

-- Bound: a stanza
abbrev pub at_stanza : {A : Type 0} → (ItemOut → A) → ℕ → Bool → Result Stanza StanzaFault → SessionInfo → Standing → ServerState A → List (Act A)
at_stanza say k true read t st h = ending say k PolicyViolation st h
at_stanza say k false read t st h = judging say k read t st (stanza_condition read t h) h
