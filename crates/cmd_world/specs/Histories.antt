-- The worlds of a wire schedule.
use Rattle.std.specs.Prelude.{List, [], ◌∷◌, ◌++◌, map}
use Rattle.cmd_network.specs.Devices.{DeviceState}
use Rattle.cmd_network.specs.Starting.{accounts_at_start, device_at_start}
use Rattle.cmd_report.specs.Addresses.{domain}
use Rattle.cmd_schedule.specs.Contents.{Owned, accounts_of, owned_in}
use Rattle.cmd_schedule.specs.Schedules.{WireView, keep_of, seen_of, steps_of}
use Rattle.cmd_schedule.specs.declared.schedule.Step.{Step}
use Rattle.cmd_schedule.specs.declared.schedule.Version.{Version}
use Rattle.cmd_schedule.specs.declared.schedule.WireLine.{WireLine}
use Rattle.srv_core.specs.Configs.{at_start}
use Rattle.cmd_world.specs.Lines.{all_stepped, moves_of, stepped}
use Rattle.cmd_world.specs.Moves.{Move, moved}
use Rattle.cmd_world.specs.Worlds.{ByteWorld}

abbrev pub owned_at_start : Owned → DeviceState
owned_at_start o = device_at_start o.device o.account

-- before the first move: the accounts and devices that these steps declare anywhere are there, and no connection is
abbrev pub world_with : Version → List Step → ByteWorld
world_with version steps = record {
  version = version;
  moment = 0;
  server = at_start domain (accounts_at_start (accounts_of steps)) (keep_of version);
  accounts = accounts_of steps;
  names = map (λ (o : Owned). o.device) (owned_in steps);
  devices = map owned_at_start (owned_in steps);
  wires = [];
  takes = [];
}

-- the steps of a wire schedule that direct schedules have too
abbrev pub common_steps : WireView → List Step
common_steps schedule = steps_of (seen_of schedule).lines

abbrev pub world_at_start : WireView → ByteWorld
world_at_start schedule = world_with schedule.version (common_steps schedule)

-- the world in the end
unfoldable pub world_of : WireView → ByteWorld
world_of schedule = all_stepped schedule.lines (world_at_start schedule)

-- ---- the worlds after each move

abbrev pub worlds_by : List Move → ByteWorld → List ByteWorld
worlds_by [] w = []
worlds_by (m ∷ moves) w = moved m w ∷ worlds_by moves (moved m w)

abbrev pub worlds_along : List WireLine → ByteWorld → List ByteWorld
worlds_along [] w = []
worlds_along (line ∷ lines) w = worlds_by (moves_of line w) w ++ worlds_along lines (stepped line w)

-- the world before the first move, and the one after each move
abbrev pub history_of : WireView → List ByteWorld
history_of schedule = world_at_start schedule ∷ worlds_along schedule.lines (world_at_start schedule)
