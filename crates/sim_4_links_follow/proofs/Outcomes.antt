-- What comes of a stanza that a client handled, or of a call of its user: nothing that the links have, an end of the
-- connection, or one stanza that is put.
use Rattle.std.proofs.Common.{◌≡◌, Bool, true, false, List, [], ◌∷◌, ◌++◌, Some, refl, if◌then◌else◌}
use Rattle.cl_handlers.specs.Clients.{ClientStep}
use Rattle.cl_handlers.specs.Speech.{Put}
use Rattle.cl_handlers.specs.ClientSteps.{is_online}
use Rattle.cl_handlers.specs.declared.phase.Phase.TheVariants as phase
use Rattle.sim_3_items.specs.Counted.{IsForServer}
use Rattle.sim_3_items.specs.Labels.{awaits}
use Rattle.sm_outbox.specs.Sessions.{SessionView}
use Rattle.sm_outbox.specs.Waiting.{is_full}
use Rattle.im_replies.specs.Management.{request_item}
use Rattle.xml_writer.specs.Items.{ItemOut}

abbrev pub T : Type 0
T = ClientStep ItemOut ItemOut

-- ---- three kinds

-- the log alone, the submissions and what is told may change
pub record IsQuiet (t u : T) : Type 0 where
  pub account : u.client.account ≡ t.client.account
  pub epoch : u.client.epoch ≡ t.client.epoch
  pub session : u.client.session ≡ t.client.session
  pub phase : u.client.phase ≡ t.client.phase
  pub put : u.out.put ≡ t.out.put
  pub notes : u.out.notes ≡ t.out.notes

-- the connection is left
pub record IsGone (t u : T) : Type 0 where
  pub account : u.client.account ≡ t.client.account
  pub epoch : u.client.epoch ≡ t.client.epoch
  pub session : u.client.session ≡ t.client.session
  pub phase : u.client.phase ≡ phase.Apart
  pub put : u.out.put ≡ t.out.put
  pub notes : u.out.notes ≡ t.out.notes

-- what goes out behind what did: the stanza, and a request where there is one
abbrev pub said_put : Bool → List ItemOut → ItemOut → List ItemOut
said_put true put z = (put ++ z ∷ []) ++ request_item ∷ []
said_put false put z = put ++ z ∷ []

-- a stanza waits in the session
pub record IsQueued (t u : T) (s : SessionView ItemOut) (z : ItemOut) : Type 0 where
  pub account : u.client.account ≡ t.client.account
  pub epoch : u.client.epoch ≡ t.client.epoch
  pub phase : u.client.phase ≡ t.client.phase
  pub session : SessionView ItemOut
  pub is : u.client.session ≡ Some session
  pub previd : session.previd ≡ s.previd
  pub acked : session.waiting.acked ≡ s.waiting.acked
  pub handled : session.waiting.handled ≡ s.waiting.handled
  pub queue : session.waiting.queue ≡ s.waiting.queue ++ z ∷ []
  pub notes : u.out.notes ≡ t.out.notes ++ Put z ∷ []

-- and where the session is attached it goes out, with a request behind it unless it isn't awaited
pub record IsSaid (t u : T) : Type 0 where
  pub session : SessionView ItemOut
  pub stands : t.client.session ≡ Some session
  pub position : is_full session.waiting ≡ false
  pub stanza : ItemOut
  pub good : IsForServer stanza
  pub asks : Bool
  pub other : asks ≡ false → awaits stanza ≡ false
  pub queued : IsQueued t u session stanza
  pub put : u.out.put ≡ (if is_online t.client.phase then said_put asks t.out.put stanza else t.out.put)

pub data Outcome (t u : T) : Type 0 where
  stays : IsQuiet t u → Outcome t u
  leaves : IsGone t u → Outcome t u
  says : IsSaid t u → Outcome t u

-- ---- choices

pub quiet_same : (t : T) → IsQuiet t t
quiet_same t = record { account = refl; epoch = refl; session = refl; phase = refl; put = refl; notes = refl }

pub quiet_either : (b : Bool) (t x y : T) → IsQuiet t x → IsQuiet t y → IsQuiet t (if b then x else y)
quiet_either true t x y here there = here
quiet_either false t x y here there = there

pub outcome_either : (b : Bool) (t x y : T) → Outcome t x → (b ≡ false → Outcome t y) → Outcome t (if b then x else y)
outcome_either true t x y here there = here
outcome_either false t x y here there = there refl
