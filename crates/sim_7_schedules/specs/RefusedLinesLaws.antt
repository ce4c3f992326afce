-- What the laws of `refused_lines` say.
use Rattle.std.specs.List.{AllByRecursion}
use Rattle.std.specs.Prelude.{◌≡◌, List}
use Rattle.sim_7_schedules.specs.Answered.{AreAnswered}
use Rattle.sim_7_schedules.specs.Refusals.{AreLinesRefused, noted_after, noted_in}
use Rattle.cmd_report.specs.Reports.{DeviceView}
use Rattle.cmd_schedule.specs.Schedules.{WireView}
use Rattle.cmd_schedule.specs.LineLists.{IsLineList}
use Rattle.sim_1_applications.specs.Runs.{LineRun, owned_of, refused_by}
use Rattle.cmd_world.specs.Histories.{world_at_start, world_of}
use Rattle.cmd_world.specs.Moves.{Move, moved}
use Rattle.cmd_world.specs.WorldReports.{report_of}
use Rattle.cmd_world.specs.Worlds.{ByteWorld}

abbrev pub MovesLeaveRefused : Type 0
MovesLeaveRefused =
    (m : Move) (w : ByteWorld) → noted_in (moved m w) ≡ noted_after m w

abbrev pub LinesAreRefused : Type 0
LinesAreRefused =
    (schedule : WireView) (runs : List LineRun) → IsLineList schedule → AreLinesRefused schedule.lines runs (world_at_start schedule) →
    AllByRecursion (λ (d : DeviceView). d.refused ≡ refused_by d.name runs) (report_of (world_of schedule)).devices

abbrev pub LinesAreAnswered : Type 0
LinesAreAnswered =
    (schedule : WireView) (runs : List LineRun) → IsLineList schedule → AreLinesRefused schedule.lines runs (world_at_start schedule) →
    AreAnswered (owned_of schedule) schedule.lines runs (world_at_start schedule)
