-- A client's submissions as those of its sessions.
use Rattle.std.specs.Prelude.{◌≡◌, true, false, Bool, List, [], Option, Some, None, drop, is_some, map}
use Rattle.cl_handlers.specs.Clients.{ClientView}
use Rattle.cmd_network.specs.DeviceLines.{said_line}
use Rattle.sm_outbox.specs.Sessions.{SessionView}
use Rattle.sm_outbox.specs.Submissions.{SaidView, all_said}
use Rattle.cmd_report.specs.declared.report.SaidMark.TheVariants.{Waiting}
use Rattle.sim_1_applications.specs.Devices.{Sessions, epoch_of, up_put}
use Rattle.sim_1_applications.specs.Stanzas.{Carbons, Message, Presence, Query, Up, messages}
use Rattle.sim_1_applications.specs.Reported as reported
use Rattle.sim_1_applications.specs.Reported.{said_of}
use Rattle.xml_writer.specs.Items.{ItemOut}

-- which stanzas are submissions
abbrev pub is_message : Up → Bool
is_message Carbons = false
is_message Presence = false
is_message (Message m) = true
is_message (Query r) = false

-- what isn't acknowledged of the present session
abbrev pub outstanding : Sessions → List Up
outstanding d = drop d.now.acked (up_put d.now)

-- a client that has its session keeps its submissions that wait apart; which of the queue's stanzas these are it knows
abbrev pub IsWaiting : Option (SessionView ItemOut) → SaidView → Sessions → Type 0
IsWaiting None said d = said.waiting ≡ []
IsWaiting (Some s) said d = (map said_line said.waiting ≡ map (reported.said_line Waiting) (messages (outstanding d))) × (s.waiting.submissions ≡ map is_message (outstanding d))

pub record SubmissionsRepresent (c : ClientView ItemOut) (d : Sessions) : Type 0 where
  pub epoch : c.epoch ≡ epoch_of d
  pub n : c.n ≡ d.n
  pub online : d.online ≡ is_some c.session
  pub said : map said_line (all_said c.said) ≡ said_of d
  pub waiting : IsWaiting c.session c.said d
