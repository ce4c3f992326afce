-- Where a client's session stands, by how far its connection has come.
use Rattle.std.specs.Prelude.{◌≡◌, ◌≤◌, Bool, true, false, [], Option, Some, None, IsSome, length}
use Rattle.sm_acks.specs.declared.end.TheConstants.{MOST_UNACKNOWLEDGED}
use Rattle.cl_handlers.specs.Clients.{ClientView}
use Rattle.cl_handlers.specs.Speech.{Speech}
use Rattle.cl_handlers.specs.declared.account.Account.{Account}
use Rattle.cl_handlers.specs.declared.phase.Phase.{Phase}
use Rattle.cl_handlers.specs.declared.phase.Phase.TheVariants as phase
use Rattle.sm_outbox.specs.Directions.{AreQueued}
use Rattle.sm_outbox.specs.Sessions.{SessionView}
use Rattle.sm_outbox.specs.Submissions.{SaidView, origin_of}
use Rattle.sm_outbox.specs.declared.said.Said.{Said}
use Rattle.im_requests.specs.Messages.{submission_item}

-- the session is attached, or its resumption is awaited (XEP-0198, section 5)
abbrev pub needs_session : Phase → Bool
needs_session phase.Resuming = true
needs_session phase.Online = true
needs_session _ = false

-- a resource is being bound, or its session begins (RFC 6120, section 7; XEP-0198, section 3)
abbrev pub is_binding : Phase → Bool
is_binding phase.Binding = true
is_binding phase.Enabling = true
is_binding _ = false

-- at most so many stanzas wait
abbrev pub HasFew : {A : Type 0} → Option (SessionView A) → Type 0
HasFew None = Unit {0}
HasFew (Some s) = length s.waiting.queue ≤ MOST_UNACKNOWLEDGED

-- A session stands where one is needed, and none where a resource is being bound; a page is open only where a session stands.
pub record Stands {A : Type 0} (c : ClientView A) : Type 0 where
  pub attached : needs_session c.phase ≡ true → IsSome c.session
  pub unbound : is_binding c.phase ≡ true → c.session ≡ None
  pub paged : IsSome c.log.page → IsSome c.session
  pub few : HasFew c.session

-- ---- submissions

-- the stanza that a submission is put as
abbrev pub stanza_of_said : {A X : Type 0} → Speech A X → Account → Said → A
stanza_of_said speech account said = speech.say (submission_item (origin_of account.resource said.epoch said.n) said.to said.text said.private)

-- the submissions that wait are those in the queue of the session, in their order; without one none waits
abbrev pub WaitIn : {A : Type 0} → (Said → A) → Option (SessionView A) → SaidView → Type 0
WaitIn stanza None said = said.waiting ≡ []
WaitIn stanza (Some s) said = AreQueued stanza s.waiting said

abbrev pub SubmissionsWait : {A X : Type 0} → Speech A X → ClientView A → Type 0
SubmissionsWait speech c = WaitIn (stanza_of_said speech c.account) c.session c.said
