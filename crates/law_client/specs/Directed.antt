-- A client's session as the ends of two directions (XEP-0198, sections 4 and 5).
use Rattle.std.specs.Prelude.{◌≡◌, ◌++◌, Some}
use Rattle.sm_acks.specs.Delivery.{Direction}
use Rattle.cl_handlers.specs.Clients.{ClientStep, ClientView}
use Rattle.cl_handlers.specs.SessionRows.{resent}
use Rattle.cl_handlers.specs.Speech.{Speech}
use Rattle.sm_outbox.specs.Directions.{Receives, Sends}
use Rattle.sm_outbox.specs.Sessions.{SessionView}

-- a session stands: the sending end of the one direction, and the receiving end of the other
pub record IsDirected {A : Type 0} (c : ClientView A) (sent got : Direction A) : Type 0 where
  pub session : SessionView A
  pub stands : c.session ≡ Some session
  pub sends : Sends session.waiting sent
  pub receives : Receives session.waiting got

-- the session is the same ends, and all that is under way then was put again
pub record IsResumed {A X : Type 0} (speech : Speech A X) (old new : ClientStep A X) (sent got : Direction A) : Type 0 where
  pub directed : IsDirected new.client sent got
  pub again : new.out.put ≡ old.out.put ++ resent speech sent.way
