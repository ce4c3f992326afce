-- A world: a server and the clients of devices, and between them connections of two pipes each.
use Rattle.std.specs.Prelude.{ℕ, ◌+◌, List, [], ◌∷◌, ◌++◌}
use Rattle.std.specs.Int.{to_be_bytes, w64}
use Rattle.cmd_network.specs.Devices.{DeviceState}
use Rattle.cmd_report.specs.declared.report.TakeLine.{TakeLine}
use Rattle.cmd_schedule.specs.declared.schedule.Version.{Version}
use Rattle.srv_core.specs.Events.{Whole}
use Rattle.cmd_network.specs.declared.wire.Wire.{Wire}

-- the version of the schedule; the moment that the clock shows (milliseconds); the server; the names of the accounts, and of
-- the devices, in declared order; the devices, in that order; the connections, in the order in which they were dialed; and the
-- messages that the server took
pub record ByteWorld : Type 0 where
  pub version : Version
  pub moment : ℕ
  pub server : Whole (List ℕ)
  pub accounts : List (List ℕ)
  pub names : List (List ℕ)
  pub devices : List DeviceState
  pub wires : List Wire
  pub takes : List TakeLine

-- the number of the connection at a place
abbrev pub number_at : ℕ → ℕ
number_at position = position + 1

-- ---- what is drawn for a connection: its number, so that no two connections draw the same

abbrev pub fifteen_zeros : List ℕ
fifteen_zeros = 0 ∷ 0 ∷ 0 ∷ 0 ∷ 0 ∷ 0 ∷ 0 ∷ 0 ∷ 0 ∷ 0 ∷ 0 ∷ 0 ∷ 0 ∷ 0 ∷ 0 ∷ []

-- for the server's end
abbrev pub server_entropy : ℕ → List ℕ
server_entropy k = 0 ∷ fifteen_zeros ++ to_be_bytes w64 k

-- and for the client's
abbrev pub client_entropy : ℕ → List ℕ
client_entropy k = 1 ∷ fifteen_zeros ++ to_be_bytes w64 k
