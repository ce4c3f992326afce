-- The report of a world.
use Rattle.std.specs.Prelude.{ℕ, ◌+◌, Bool, true, false, not, ◌&&◌, List, [], ◌∷◌, ◌++◌, Option, Some, None, length, map, slice_get}
use Rattle.std.specs.List.{list_all}
use Rattle.std.specs.Option.{option_map_or}
use Rattle.srv_state.specs.State.{Kept}
use Rattle.cmd_network.specs.DeviceLines.{device_line}
use Rattle.cmd_network.specs.Devices.{DeviceState, holds_part}
use Rattle.net_pipes.specs.Pipes.{is_empty}
use Rattle.cmd_report.specs.Lines.{entry_line}
use Rattle.cmd_report.specs.Reports.{AccountView, DeviceView, ReportView}
use Rattle.cmd_report.specs.declared.report.ConnEnd.{ConnEnd}
use Rattle.cmd_report.specs.declared.report.ConnEnd.TheVariants as end
use Rattle.cmd_report.specs.declared.report.ConnLine.{ConnLine}
use Rattle.srv_core.specs.Events as events
use Rattle.srv_core.specs.Events.{Whole, framer_at}
use Rattle.cmd_network.specs.declared.wire.Wire.{Wire}
use Rattle.cmd_world.specs.Worlds.{ByteWorld, number_at}

-- ---- settled

abbrev pub is_open : ConnEnd → Bool
is_open end.Open = true
is_open _ = false

-- nothing is under way
abbrev pub is_idle_wire : Wire → Bool
is_idle_wire wire = is_empty wire.up && is_empty wire.down

-- the server stopped in the middle of an item of a connection
abbrev pub server_holds_part : ℕ → Whole (List ℕ) → Bool
server_holds_part k server = events.holds_part (framer_at k server.framers)

-- A connection is open, nothing is under way in it, and neither end stopped in the middle of an item.
abbrev pub is_settled_on : ℕ → Whole (List ℕ) → DeviceState → Wire → Bool
is_settled_on position server d wire =
    is_open wire.end && is_idle_wire wire && not (server_holds_part (number_at position) server) && not (holds_part d)

abbrev pub is_settled_at : Option ℕ → DeviceState → ByteWorld → Bool
is_settled_at None d w = false
is_settled_at (Some position) d w = option_map_or (is_settled_on position w.server d) (slice_get w.wires position) false

-- That is so of the newest connection of a device. One that never dialed isn't settled.
abbrev pub is_settled : ByteWorld → DeviceState → Bool
is_settled w d = is_settled_at d.newest d w

-- the same of the device at a place
abbrev pub is_settled_device : ℕ → ByteWorld → Bool
is_settled_device position w = option_map_or (is_settled w) (slice_get w.devices position) false

-- nothing is under way anywhere
abbrev pub is_idle : ByteWorld → Bool
is_idle w = list_all is_idle_wire w.wires

-- ---- lines

abbrev pub account_line : List ℕ → Kept → AccountView
account_line name kept = record { name = name; count = length kept.entries; last = kept.last; entries = map entry_line kept.entries }

abbrev pub account_where : List ℕ → Option Kept → List AccountView
account_where name None = []
account_where name (Some kept) = account_line name kept ∷ []

-- the archives from a place on, each under the name of its account
abbrev pub account_lines : ℕ → List (List ℕ) → List Kept → List AccountView
account_lines position [] archives = []
account_lines position (name ∷ names) archives = account_where name (slice_get archives position) ++ account_lines (position + 1) names archives

-- the name of the device at a place
abbrev pub name_at : ℕ → List DeviceState → List ℕ
name_at position devices = option_map_or (λ (d : DeviceState). d.name) (slice_get devices position) []

abbrev pub conn_line : List DeviceState → ℕ → Wire → ConnLine
conn_line devices k wire = record {
  k = k;
  device = name_at wire.device devices;
  upput = wire.up.put;
  uptaken = wire.up.taken;
  downput = wire.down.put;
  downtaken = wire.down.taken;
  end = wire.end;
}

-- the connections from a number on
abbrev pub conn_lines : List DeviceState → ℕ → List Wire → List ConnLine
conn_lines devices k [] = []
conn_lines devices k (wire ∷ wires) = conn_line devices k wire ∷ conn_lines devices (k + 1) wires

abbrev pub device_line_of : ByteWorld → DeviceState → DeviceView
device_line_of w d = device_line (is_settled w d) d

-- ---- the report

abbrev pub report_of : ByteWorld → ReportView
report_of w = record {
  version = w.version;
  wire = true;
  takes = w.takes;
  accounts = account_lines 0 w.accounts w.server.server_state.archives;
  conns = conn_lines w.devices 1 w.wires;
  devices = map (device_line_of w) w.devices;
}
