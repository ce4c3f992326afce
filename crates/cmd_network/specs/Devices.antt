-- The devices of a world: what each one's client does, and what it puts into its connection.
use Rattle.std.specs.Prelude.{ℕ, ◌==◌, Bool, false, List, [], ◌∷◌, ◌++◌, Option, Some, None, Result, Ok, Err, if◌then◌else◌, is_some}
use Rattle.std.specs.Option.{option_and_then}
use Rattle.cl_core.specs.Feeds.{Fed, bytes_step}
use Rattle.cl_core.specs.UserCalls.{catch_up_answer, catches_up, closes, dials, leaves, say_answer, says}
use Rattle.cl_core.specs.Values.{ClientValue, forgotten}
use Rattle.cl_core.specs.declared.faults.CatchUpStart.{CatchUpStart}
use Rattle.cl_core.specs.declared.faults.CatchUpStart.TheVariants as start
use Rattle.cl_core.specs.declared.faults.SayFault.{SayFault}
use Rattle.cl_core.specs.declared.faults.SayFault.TheVariants as say
use Rattle.cl_handlers.specs.Clients.{ClientStep}
use Rattle.cl_handlers.specs.Speech.{in_bytes}
use Rattle.cl_handlers.specs.ClientSteps.{is_apart}
use Rattle.xml_framer.specs.Machine.{part_of}
use Rattle.cmd_report.specs.declared.report.RefusedLine.{RefusedLine}
use Rattle.cmd_report.specs.declared.report.RefusedWhy.{RefusedWhy}
use Rattle.cmd_report.specs.declared.report.RefusedWhy.TheVariants as why

-- a device and its account, by their names; its client; the place of the connection that it has, where it has one, and of the
-- newest that it dialed; and the lines of the schedule that its client refused
pub record DeviceState : Type 0 where
  pub name : List ℕ
  pub account : List ℕ
  pub client : ClientValue
  pub here : Option ℕ
  pub newest : Option ℕ
  pub refused : List RefusedLine

-- a device, and the bytes that its client put
pub record Spoken : Type 0 where
  pub device : DeviceState
  pub put : List ℕ

abbrev pub spoken : DeviceState → List ℕ → Spoken
spoken device put = record { device = device; put = put }

-- ---- a client that has put nothing and told nothing

abbrev pub silent_client_step : ClientValue → ClientStep (List ℕ) ℕ
silent_client_step c = record { client = c.client; out = record { put = []; events = []; notes = [] } }

abbrev pub silent : ClientValue → Fed (List ℕ) ℕ
silent c = record { framer = c.framer; turn = silent_client_step c }

abbrev pub client_after : Fed (List ℕ) ℕ → ClientValue
client_after f = record { framer = f.framer; client = f.turn.client }

-- the device behind what its client did, and what that put
abbrev pub after_step : Fed (List ℕ) ℕ → DeviceState → Spoken
after_step f d = spoken (record d { client = client_after f }) f.turn.out.put

-- the same of what leaves the framer as it is
abbrev pub after_client_step : ClientStep (List ℕ) ℕ → DeviceState → Spoken
after_client_step t d = spoken (record d { client = record d.client { client = t.client } }) t.out.put

-- ---- connections

-- the device dials the connection at a place
abbrev pub dials_at : List ℕ → ℕ → DeviceState → Spoken
dials_at entropy position d = after_step (dials in_bytes entropy (silent d.client)) (record d { here = Some position; newest = Some position })

-- the connection at a place is the one that the device has
abbrev pub has_wire : ℕ → Option ℕ → Bool
has_wire position None = false
has_wire position (Some here) = here == position

abbrev pub is_left : ClientValue → Bool
is_left c = is_apart c.client.phase

-- a device whose client stands apart has no connection
abbrev pub unless_left : DeviceState → DeviceState
unless_left d = if is_left d.client then record d { here = None } else d

-- Bytes of the server come. A fault of the server leaves the connection.
abbrev pub hears : List ℕ → DeviceState → Spoken
hears piece d = spoken (unless_left (after_step (bytes_step in_bytes (silent d.client) piece) d).device) (after_step (bytes_step in_bytes (silent d.client) piece) d).put

-- The end of its connection comes. The device still has that connection.
abbrev pub loses : DeviceState → DeviceState
loses d = record d { client = client_after (leaves (silent d.client)) }

abbrev pub forgets_all : DeviceState → DeviceState
forgets_all d = record d { client = forgotten d.client; here = None }

abbrev pub closes_here : DeviceState → Spoken
closes_here d = after_step (closes in_bytes (silent d.client)) (record d { here = None })

-- its client stopped in the middle of an item
abbrev pub holds_part : DeviceState → Bool
holds_part d = is_some (option_and_then part_of d.client.framer)

-- ---- what the user asks for

abbrev pub refuses : ℕ → RefusedWhy → DeviceState → DeviceState
refuses line why d = record d { refused = d.refused ++ record { line = line; why = why } ∷ [] }

-- A line that the client refuses is noted down. No text of a schedule is one that can't be sent.
abbrev pub say_refused : ℕ → SayFault → DeviceState → DeviceState
say_refused line say.NotBound d = refuses line why.NotBound d
say_refused line say.OutboxFull d = refuses line why.OutboxFull d
say_refused line say.BadText d = d
say_refused line say.NoMemory d = d

abbrev pub says_by : ℕ → List ℕ → List ℕ → Bool → Result ℕ SayFault → DeviceState → Spoken
says_by line to text private (Ok n) d = after_client_step (says in_bytes (silent_client_step d.client) to text private) d
says_by line to text private (Err fault) d = spoken (say_refused line fault d) []

-- a message to an address
abbrev pub says_to : ℕ → List ℕ → List ℕ → Bool → DeviceState → Spoken
says_to line to text private d = says_by line to text private (say_answer d.client.client text) d

abbrev pub catch_up_refused : ℕ → CatchUpStart → DeviceState → DeviceState
catch_up_refused line start.NotBound d = refuses line why.NotBound d
catch_up_refused line start.OutboxFull d = refuses line why.OutboxFull d
catch_up_refused line start.Underway d = refuses line why.Underway d
catch_up_refused line start.NoMemory d = d

abbrev pub catches_up_by : ℕ → ℕ → Result (Unit {0}) CatchUpStart → DeviceState → Spoken
catches_up_by line most (Ok done) d = after_client_step (catches_up in_bytes (silent_client_step d.client) most) d
catches_up_by line most (Err fault) d = spoken (catch_up_refused line fault d) []

-- pages of at most so many results
abbrev pub catches_up_on : ℕ → ℕ → DeviceState → Spoken
catches_up_on line most d = catches_up_by line most (catch_up_answer d.client.client) d
