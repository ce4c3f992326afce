-- The bounds that a client of items keeps to: of its account, of what it holds, and of what it puts.
use Rattle.std.specs.Prelude.{ℕ, ◌<◌, ◌≤◌, ◌^◌, List, [], None, length, IfSome}
use Rattle.std.specs.List.{AllByRecursion}
use Rattle.base64.specs.GeneralPurpose.{IsBytes}
use Rattle.cl_login.specs.declared.login_state.LoginState.{LoginState}
use Rattle.cl_login.specs.declared.login_state.LoginState.TheVariants as state
use Rattle.cl_handlers.specs.Clients.{ClientStep, ClientView}
use Rattle.cl_handlers.specs.declared.account.Account.{Account}
use Rattle.cl_handlers.specs.declared.phase.Phase.{Phase}
use Rattle.cl_handlers.specs.declared.phase.Phase.TheVariants as phase
use Rattle.xml_framer.specs.Limits.{server_limits}
use Rattle.mam_log.specs.Views.{LogView, OpenPage}
use Rattle.mam_log.specs.declared.log_entry.LogEntry.{LogEntry}
use Rattle.sm_outbox.specs.Sessions.{SessionView}
use Rattle.sm_outbox.specs.Submissions.{nothing_said}
use Rattle.law_limits.specs.Bounds.{IsTextWithin, most_id, most_part}
use Rattle.xml_writer.specs.Items.{ItemOut}
use Rattle.law_xml.specs.Puts.{OutFits}

-- each is plain and within the limits of a server's framer as it is written
abbrev pub AllFit : List ItemOut → Type 0
AllFit items = AllByRecursion (OutFits server_limits) items

-- ---- what a client holds

-- The password has no bound: it goes into no message but as a hash.
pub record IsAccountWithin (a : Account) : Type 0 where
  pub resource : IsTextWithin most_part a.resource
  pub domain : IsTextWithin most_part a.login.domain
  pub name : length a.login.name ≤ most_part

-- the id of an entry, behind which a page may be asked for
abbrev pub IsEntryWithin : LogEntry → Type 0
IsEntryWithin e = IsTextWithin most_id e.id

pub record IsPageWithin (p : OpenPage) : Type 0 where
  pub results : AllByRecursion IsEntryWithin p.results
  pub max : p.max < 2 ^ 32

pub record IsLogWithin (log : LogView) : Type 0 where
  pub entries : AllByRecursion IsEntryWithin log.entries
  pub page : IfSome log.page IsPageWithin

-- the id for a resumption, the count of the server's stanzas, and what waits
pub record IsSessionWithin (s : SessionView ItemOut) : Type 0 where
  pub previd : IsTextWithin most_id s.previd
  pub handled : s.waiting.handled < 2 ^ 32
  pub queue : AllFit s.waiting.queue

-- the nonce of a login is the base64 of 18 bytes
pub record IsNonceWithin (nonce : List ℕ) : Type 0 where
  pub bytes : IsBytes nonce
  pub short : length nonce ≤ 38

abbrev pub IsLoginWithin : LoginState → Type 0
IsLoginWithin (state.Header1 nonce) = IsNonceWithin nonce
IsLoginWithin (state.Features1 nonce) = IsNonceWithin nonce
IsLoginWithin (state.Authing exchange) = Unit {0}
IsLoginWithin (state.Responding exchange) = Unit {0}
IsLoginWithin state.Header2 = Unit {0}

abbrev pub IsPhaseWithin : Phase → Type 0
IsPhaseWithin phase.Apart = Unit {0}
IsPhaseWithin (phase.Login s) = IsLoginWithin s
IsPhaseWithin phase.Features2 = Unit {0}
IsPhaseWithin phase.Resuming = Unit {0}
IsPhaseWithin phase.Binding = Unit {0}
IsPhaseWithin phase.Enabling = Unit {0}
IsPhaseWithin phase.Online = Unit {0}

-- ---- a client, and what it put

pub record IsClientWithin (c : ClientView ItemOut) : Type 0 where
  pub account : IsAccountWithin c.account
  pub log : IsLogWithin c.log
  pub epoch : c.epoch < 2 ^ 64
  pub session : IfSome c.session IsSessionWithin
  pub phase : IsPhaseWithin c.phase

pub record IsClientStepWithin (t : ClientStep ItemOut ItemOut) : Type 0 where
  pub client : IsClientWithin t.client
  pub put : AllFit t.out.put
