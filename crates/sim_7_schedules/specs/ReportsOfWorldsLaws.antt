-- What the laws of `reports_of_worlds` say.
use Rattle.std.specs.Prelude.{ℕ}
use Rattle.sim_3_images.specs.Relayable.{ClientFits, DownFits, ServerFits, UpFits}
use Rattle.sim_3_images.specs.Stands.{StandingServers}
use Rattle.sim_3_images.specs.WorldEncodings.{WorldEncodes}
use Rattle.sim_3_items.specs.ItemWorlds.{ItemWorld}
use Rattle.sim_7_schedules.specs.Reports.{IsReported}
use Rattle.sim_7_schedules.specs.ShownWorlds.{shown_of}
use Rattle.cmd_schedule.specs.Schedules.{WireView}
use Rattle.cmd_schedule.specs.LineLists.{IsLineList}
use Rattle.sim_1_applications.specs.Devices as sessions
use Rattle.sim_1_applications.specs.Reported.{IsShown}
use Rattle.sim_1_applications.specs.Runs.{owned_of}
use Rattle.cmd_world.specs.WorldReports.{report_of}
use Rattle.cmd_world.specs.Worlds.{ByteWorld}
use Rattle.sim_3_images.specs.Kept.{IsWorldKept}
use Rattle.sim_5_moves.specs.Running.{AreSmall, Bounds, WorldSimulates}

abbrev pub ReportsRun : Type 0
ReportsRun =
    (schedule : WireView) (b : Bounds) (says : ℕ) (w : ByteWorld) (v : ItemWorld) (x : sessions.AppWorld) → IsLineList schedule → AreSmall b → IsWorldKept schedule w
    → WorldEncodes UpFits DownFits (StandingServers ServerFits) ClientFits w v → WorldSimulates schedule b says v x → IsReported schedule x (report_of w)

abbrev pub WorldsRepresent : Type 0
WorldsRepresent =
    (schedule : WireView) (b : Bounds) (says : ℕ) (w : ByteWorld) (v : ItemWorld) (x : sessions.AppWorld) → IsLineList schedule → IsWorldKept schedule w
    → WorldEncodes UpFits DownFits (StandingServers ServerFits) ClientFits w v → WorldSimulates schedule b says v x → IsShown (owned_of schedule) x (shown_of w)
