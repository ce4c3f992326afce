-- Each wire schedule goes beside a run of the two applications.
use Rattle.sim_7_schedules.proofs.WholeSchedules.{schedule_runs}
use Rattle.sim_7_schedules.proofs.Moves.{each_runs}
use Rattle.cmd_schedule.specs.Schedules.{WireView}
use Rattle.cmd_schedule.specs.LineLists.{IsLineList}
use Rattle.sim_7_schedules.specs.Simulation.{ScheduleSimulates}

pub whole_run : (s : WireView) → IsLineList s → ScheduleSimulates s
whole_run s right = schedule_runs s right (each_runs s right)
