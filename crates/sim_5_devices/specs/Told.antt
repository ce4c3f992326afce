-- What a device's user asks for and its client takes, and what the server tells it: so the client of the applications does.
use Rattle.std.specs.Prelude.{◌≡◌, ◌≢◌, ℕ, ◌+◌, ◌%◌, ◌^◌, ◌<◌, ◌≤◌, Bool, true, false, List, Ok, Option, None, Some, length}
use Rattle.sm_acks.specs.declared.end.TheConstants.{MOST_UNACKNOWLEDGED}
use Rattle.mam_archive.specs.Entries.{EntryView}
use Rattle.cl_core.specs.UserCalls.{catch_up_answer, say_answer}
use Rattle.cl_handlers.specs.Clients.{ClientView}
use Rattle.sim_5_devices.specs.Shown.{IsReadingGiven, LogRepresents}
use Rattle.sm_outbox.specs.Sessions.{SessionView}
use Rattle.sm_outbox.specs.Waiting.{Waiting, queued}
use Rattle.cmd_schedule.specs.Contents.{Owned}
use Rattle.cmd_schedule.specs.Grammar.{is_name, is_text}
use Rattle.sim_3_items.specs.Submitted.{SubmissionsRepresent}
use Rattle.sim_1_applications.specs.Answers.{last_in}
use Rattle.sim_1_applications.specs.Devices.{Device, Reading, Sessions, epoch_of, up_put}
use Rattle.sim_1_applications.specs.Devices.Stage.{Known}
use Rattle.sim_1_applications.specs.Events.{Act, Bind, Enable, End, ServerHandles}
use Rattle.sim_1_applications.specs.Kept.{AreLogged, IsSession}
use Rattle.sim_1_applications.specs.Stanzas.{Request, Submission}
use Rattle.sim_3_items.specs.Meant.{requested}
use Rattle.xml_writer.specs.Items.{ItemOut}

-- ---- what a client has beside its session and how far its connection is

pub record SameSaid (c e : ClientView ItemOut) : Type 0 where
  pub epoch : e.epoch ≡ c.epoch
  pub n : e.n ≡ c.n
  pub said : e.said ≡ c.said

pub record SameLog (c e : ClientView ItemOut) : Type 0 where
  pub account : e.account ≡ c.account
  pub epoch : e.epoch ≡ c.epoch
  pub log : e.log ≡ c.log
  pub pages : e.pages ≡ c.pages

-- ---- submissions

-- no more is acknowledged than was handled
abbrev pub IsAcked : Sessions → Type 0
IsAcked d = d.now.acked ≤ length d.now.up_got

-- the user submits a message to an account by its name, and the client takes it
pub record IsSaying (o : Owned) (c : ClientView ItemOut) (d : Sessions) (to text : List ℕ) : Type 0 where
  pub represents : SubmissionsRepresent c d
  pub acked : IsAcked d
  pub resource : c.account.resource ≡ o.device
  pub device : is_name o.device ≡ true
  pub n : ℕ
  pub taken : say_answer c text ≡ Ok n
  pub n_fits : c.n + 1 < 2 ^ 64
  pub epoch_fits : c.epoch < 2 ^ 64
  pub named : is_name to ≡ true
  pub plain : is_text text ≡ true

abbrev pub next_submission : Sessions → List ℕ → List ℕ → Bool → Submission
next_submission d to text private = record { epoch = epoch_of d; n = d.n + 1; to = to; text = text; private = private }

-- ---- pages

-- the user asks for the archive in pages of at most so many, and the client takes it
pub record IsCatchingUp (keep : ℕ) (history : List EntryView) (c : ClientView ItemOut) (x : Device) (most : ℕ) : Type 0 where
  pub represents : SubmissionsRepresent c x.sessions
  pub acked : IsAcked x.sessions
  pub log : LogRepresents keep history c.log x.reading
  pub pages : c.pages ≡ x.reading.asked
  pub given : IsReadingGiven history x.reading
  pub first : ℕ
  pub last : ℕ
  pub runs : AreLogged first last x.reading.broken x.reading.run
  pub taken : catch_up_answer c ≡ Ok tt
  pub some : 1 ≤ most
  pub few : most ≤ 100
  pub pages_fit : c.pages + 1 < 2 ^ 64

-- behind the last number of the last run
abbrev pub next_request : Reading → ℕ → Request
next_request b most = record { number = b.asked + 1; after = last_in b.run; max = most }

-- a request that may be there waits
abbrev pub queued_where : Option Request → Waiting ItemOut → Waiting ItemOut
queued_where None w = w
queued_where (Some r) w = queued w (requested r) false

-- ---- counts

-- The server tells that it has handled n of the session's stanzas, modulo 2 ^ 32: no fewer than it told, and no more than
-- were put.
pub record IsCounted (c : ClientView ItemOut) (d : Sessions) (s : SessionView ItemOut) (n h : ℕ) : Type 0 where
  pub represents : SubmissionsRepresent c d
  pub session : c.session ≡ Some s
  pub acked : s.waiting.acked ≡ d.now.acked % 2 ^ 32
  pub count : h ≡ n % 2 ^ 32
  pub low : d.now.acked ≤ n
  pub high : n ≤ d.now.acked + length s.waiting.queue
  pub few : length s.waiting.queue ≤ MOST_UNACKNOWLEDGED

-- ---- sessions

-- a session is bound, and those before were given up
pub record IsBinding (c : ClientView ItemOut) (d : Sessions) : Type 0 where
  pub represents : SubmissionsRepresent c d
  pub offline : d.online ≡ false
  pub epoch_fits : c.epoch + 1 < 2 ^ 64

-- the session is enabled, and nothing was put in it
pub record IsEntering (c : ClientView ItemOut) (d : Sessions) : Type 0 where
  pub represents : SubmissionsRepresent c d
  pub offline : d.online ≡ false
  pub session : IsSession d.now
  pub unknown : d.now.stage ≢ Known

-- ---- the server

-- nothing more is said, and no more is acknowledged
pub record SameUps (d e : Sessions) : Type 0 where
  pub past : e.past ≡ d.past
  pub n : e.n ≡ d.n
  pub online : e.online ≡ d.online
  pub acked : e.now.acked ≡ d.now.acked
  pub put : up_put e.now ≡ up_put d.now

-- what the server does at a device
abbrev pub IsOfServer : Act → Type 0
IsOfServer Bind = Unit {0}
IsOfServer Enable = Unit {0}
IsOfServer End = Unit {0}
IsOfServer (ServerHandles fits full) = Unit {0}
IsOfServer _ = ⊥
