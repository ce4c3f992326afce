use Rattle.std.specs.Prelude.{map}
use Rattle.cmd_schedule.proofs.LineLists.{listed}
use Rattle.cmd_run.proofs.laws.wire_reports_are_of_their_worlds.Goals as goal
use Rattle.cmd_world.specs.Histories.{history_of, world_of}
use Rattle.cmd_world.specs.WorldReports.{report_of}
use Rattle.sim_7_schedules.proofs.Composed.{run_of}
use Rattle.sim_7_schedules.proofs.WholeRuns.{whole_run}
use Rattle.sim_7_schedules.specs.ShownWorlds.{shown_of}

pub returns-clause-schedules : goal.returns-clause-schedules
returns-clause-schedules c = λ s right. let list = listed s right in c.runs_are_of_their_worlds.ensures s (map shown_of (history_of s)) (report_of (world_of s)) (run_of s list (whole_run s list))

pub returns-clause-lists : goal.returns-clause-lists
returns-clause-lists c = λ s list. c.runs_are_of_their_worlds.ensures s (map shown_of (history_of s)) (report_of (world_of s)) (run_of s list (whole_run s list))
