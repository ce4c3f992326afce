-- The report of a world of bytes is that of a world of the two applications, but for what was refused: this the lines of the
-- schedule tell.
use Rattle.std.specs.Prelude.{◌≡◌, true, map}
use Rattle.cmd_report.specs.Lines.{take_line}
use Rattle.cmd_report.specs.Reports.{ReportView}
use Rattle.cmd_schedule.specs.Contents.{accounts_of}
use Rattle.cmd_schedule.specs.Schedules.{WireView, keep_of}
use Rattle.sim_1_applications.specs.Devices.{AppWorld}
use Rattle.sim_1_applications.specs.Reported.{AreDeviceLines, account_line, history_at, take_of}
use Rattle.sim_1_applications.specs.Runs.{owned_of, steps_in}

pub record IsReported (schedule : WireView) (x : AppWorld) (report : ReportView) : Type 0 where
  pub version : report.version ≡ schedule.version
  pub wire : report.wire ≡ true
  pub takes : report.takes ≡ map (take_line schedule.version) (map (take_of (owned_of schedule)) x.takes)
  pub accounts : report.accounts ≡ map (λ name. account_line (keep_of schedule.version) (history_at (owned_of schedule) x.takes name) name) (accounts_of (steps_in schedule))
  pub devices : AreDeviceLines (keep_of schedule.version) (history_at (owned_of schedule) x.takes) (owned_of schedule) x.devices report.devices
