-- What the laws of `laws_kept` say.
use Rattle.std.specs.Prelude.{map}
use Rattle.cmd_report.specs.LawfulRuns.{KeepsLaws}
use Rattle.sim_7_schedules.specs.ShownWorlds.{shown_of}
use Rattle.cmd_schedule.specs.Schedules.{WireView, seen_of}
use Rattle.cmd_schedule.specs.LineLists.{IsLineList}
use Rattle.sim_7_schedules.specs.Simulation.{ScheduleSimulates}
use Rattle.cmd_world.specs.Histories.{history_of, world_of}
use Rattle.cmd_world.specs.WorldReports.{report_of}

abbrev pub SchedulesThatRunAreLawful : Type 0
SchedulesThatRunAreLawful =
    (s : WireView) → IsLineList s → ScheduleSimulates s → KeepsLaws (map shown_of (history_of s)) (seen_of s) (report_of (world_of s))
