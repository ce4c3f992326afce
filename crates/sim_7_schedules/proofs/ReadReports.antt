-- The report of a schedule that goes beside a run can be read, and its text tells it apart.
use Rattle.std.proofs.Common.{◌≡◌, map}
use Rattle.law_reports.proofs.RunReports.{run_readable, run_told_apart}
use Rattle.cmd_report.specs.ReportText.{text_of}
use Rattle.cmd_report_reader.specs.Readable.{IsReadable}
use Rattle.sim_7_schedules.specs.ShownWorlds.{shown_of}
use Rattle.cmd_schedule.specs.Schedules.{WireView}
use Rattle.cmd_schedule.specs.LineLists.{IsLineList}
use Rattle.sim_7_schedules.specs.Simulation.{ScheduleSimulates}
use Rattle.sim_7_schedules.proofs.Composed.{run_of}
use Rattle.sim_7_schedules.proofs.OpenNumbers.{clock_low, numbers}
use Rattle.cmd_world.specs.Histories.{history_of, world_of}
use Rattle.cmd_world.specs.WorldReports.{report_of}

pub readable : (s : WireView) → IsLineList s → ScheduleSimulates s → IsReadable (report_of (world_of s))
readable s right runs = run_readable s (map shown_of (history_of s)) (report_of (world_of s)) (run_of s right runs) (clock_low s right runs) (numbers s right runs)

pub told_apart : (s t : WireView) → IsLineList s → IsLineList t → ScheduleSimulates s → ScheduleSimulates t → text_of (report_of (world_of s)) ≡ text_of (report_of (world_of t)) → report_of (world_of s) ≡ report_of (world_of t)
told_apart s t one other runs again same =
    run_told_apart s t (map shown_of (history_of s)) (map shown_of (history_of t)) (report_of (world_of s)) (report_of (world_of t)) (run_of s one runs) (run_of t other again)
    (clock_low s one runs) (clock_low t other again) (numbers s one runs) (numbers t other again) same
