-- The lines of the report that a run's parts make.
use Rattle.std.specs.Prelude.{[], length, map, true, false}
use Rattle.cmd_report.specs.Lines.{entry_line, logged_by, tile_line}
use Rattle.cmd_replay.specs.Homes.{Home}
use Rattle.cmd_report.specs.Reports.{AccountView, DeviceView, ReportView}
use Rattle.cmd_replay.specs.declared.run.Run.{Run}
use Rattle.cmd_replay.specs.Devices.{DeviceState}

abbrev pub home_line : Home → AccountView
home_line home = record { name = home.name; count = length home.entries; last = home.last; entries = map entry_line home.entries }

abbrev pub state_line : DeviceState → DeviceView
state_line device = record {
  name = device.name;
  account = device.account;
  epoch = 1;
  settled = true;
  said = device.said.items;
  refused = [];
  pages = map tile_line device.log.tiles;
  underway = [];
  logged = logged_by 0 device.log.tiles device.log.entries;
  held = [];
}

abbrev pub report_of : Run → ReportView
report_of run = record {
  version = run.clock.version;
  wire = false;
  takes = run.takes.items;
  accounts = map home_line run.accounts.homes;
  conns = [];
  devices = map state_line run.devices.items;
}
