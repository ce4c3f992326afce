-- What is left to the first law of reports: that a message that was taken is a submission of its device.
use Rattle.std.specs.Prelude.{◌≡◌, List}
use Rattle.std.specs.List.{AllByRecursion}
use Rattle.mam_archive.specs.Entries.{EntryView}
use Rattle.cmd_report.specs.Lawful.{device_named, take_named}
use Rattle.cmd_report.specs.Reports.{ReportView}
use Rattle.cmd_report.specs.Takes.{Take, entry_of}
use Rattle.cmd_report.specs.declared.report.TakeLine.{TakeLine}
use Rattle.cmd_schedule.specs.declared.schedule.Version.{Version}
use Rattle.sim_3_images.specs.ReportTakes.{Taken, line_of}

-- the submission that a line names, with its device's account and its text as the report has them
abbrev pub submission_named : ReportView → TakeLine → Take
submission_named report line = take_named line (device_named line.device report.devices)

-- the entry, whenever it was taken
abbrev pub unstamped : EntryView → EntryView
unstamped e = record e { stamp = 0 }

-- the sender is the device's account, and the entry that of the submission
pub record IsAsSubmitted (report : ReportView) (line : TakeLine) (t : Taken) : Type 0 where
  pub sender : t.sender ≡ (submission_named report line).account
  pub entry : unstamped t.entry ≡ entry_of (submission_named report line)

abbrev pub AreAsSubmitted : Version → ReportView → List Taken → Type 0
AreAsSubmitted version report takes = AllByRecursion (λ (t : Taken). IsAsSubmitted report (line_of version t) t) takes
