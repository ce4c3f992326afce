-- A client, over any type of what is put.
use Rattle.std.specs.Prelude.{ℕ, List, Option}
use Rattle.cl_handlers.specs.Speech.{Note}
use Rattle.cl_handlers.specs.declared.account.Account.{Account}
use Rattle.cl_handlers.specs.declared.events.Event.{Event}
use Rattle.cl_handlers.specs.declared.phase.Phase.{Phase}
use Rattle.mam_log.specs.Views.{LogView}
use Rattle.sm_outbox.specs.Sessions.{SessionView}
use Rattle.sm_outbox.specs.Submissions.{SaidView}

-- the account; the log; the submissions; how many resources were bound, how many submissions there were since, and how many
-- page requests; the session, from its `enabled` on; and how far the connection has come
pub record ClientView (A : Type 0) : Type 0 where
  pub account : Account
  pub log : LogView
  pub said : SaidView
  pub epoch : ℕ
  pub n : ℕ
  pub pages : ℕ
  pub session : Option (SessionView A)
  pub phase : Phase

-- what is put into the stream, what is told to the user, and what is noted down of the session
pub record OutView (A X : Type 0) : Type 0 where
  pub put : List X
  pub events : List Event
  pub notes : List (Note A)

pub record ClientStep (A X : Type 0) : Type 0 where
  pub client : ClientView A
  pub out : OutView A X
