-- The summary of a report: how long its schedule is, and what it counts.
use Rattle.std.specs.Prelude.{ℕ, ◌+◌, List, [], ◌∷◌, ◌++◌, length, codes}
use Rattle.std.specs.Fmt.{decimal}
use Rattle.std.specs.List.{flat_map}
use Rattle.cmd_report.specs.ReportText.{settled_text}
use Rattle.cmd_report.specs.Reports.{AccountView, DeviceView, ReportView}
use Rattle.cmd_schedule.specs.Schedules.{WireView}

abbrev pub account_summary : AccountView → List ℕ
account_summary account = codes "account " ++ account.name ++ 32 ∷ decimal account.count ++ 10 ∷ []

abbrev pub device_summary : DeviceView → List ℕ
device_summary device =
    codes "device " ++ device.name ++ 32 ∷ decimal device.epoch ++ 32 ∷ decimal (length device.logged) ++ 32 ∷ settled_text device.settled ++ 10 ∷ []

-- with line 1 of the schedule
unfoldable pub summary_of : WireView → ReportView → List ℕ
summary_of schedule report =
    codes "xmpp-summary 1" ++ 10 ∷ codes "lines " ++ decimal (1 + length schedule.lines)
    ++ 10 ∷ codes "takes " ++ decimal (length report.takes)
    ++ 10 ∷ flat_map account_summary report.accounts ++ flat_map device_summary report.devices ++ codes "end" ++ 10 ∷ []
