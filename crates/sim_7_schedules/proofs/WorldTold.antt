-- The report of a world.
use Rattle.std.proofs.Common.{◌≡◌, ℕ, List, Some, map, refl, ap, ap₂, ◌∙◌}
use Rattle.std.specs.Prelude.{slice_get}
use Rattle.sim_3_images.specs.Relayable.{ClientFits, DownFits, ServerFits, UpFits}
use Rattle.srv_state.specs.State.{ServerState}
use Rattle.sim_3_images.specs.Stands.{StandingServers}
use Rattle.sim_3_images.specs.WorldEncodings.{WorldEncodes, line_reported}
use Rattle.sim_3_items.specs.ItemWorlds.{ItemWorld}
use Rattle.sim_7_schedules.proofs.AccountLines.{archive_of_name, lines_are}
use Rattle.sim_7_schedules.proofs.DeviceLines.{all_told}
use Rattle.sim_7_schedules.proofs.Ground.{tellable}
use Rattle.sim_7_schedules.proofs.TakeLines.{take_lines_told}
use Rattle.sim_7_schedules.specs.Reports.{IsReported}
use Rattle.cmd_schedule.specs.Schedules.{WireView}
use Rattle.cmd_schedule.specs.LineLists.{IsLineList}
use Rattle.sim_1_applications.specs.Devices as sessions
use Rattle.sim_1_applications.specs.Reported.{history_at}
use Rattle.sim_1_applications.specs.Runs.{owned_of}
use Rattle.cmd_world.specs.WorldReports.{account_lines, report_of}
use Rattle.cmd_world.specs.Worlds.{ByteWorld}
use Rattle.sim_3_images.specs.Kept.{IsWorldKept}
use Rattle.sim_5_moves.specs.Running.{AreSmall, Bounds, WorldSimulates, keep_in, names_of}

module _ (schedule : WireView) (b : Bounds) (says : ℕ) (w : ByteWorld) (v : ItemWorld) (x : sessions.AppWorld) (encodes : WorldEncodes UpFits DownFits (StandingServers ServerFits) ClientFits w v) (runs : WorldSimulates schedule b says v x) where
  -- the archive at the place of a name
  pub archive_is : (i : ℕ) (name : List ℕ) → slice_get (names_of schedule) i ≡ Some name → slice_get w.server.server_state.archives i ≡ Some (archive_of_name (keep_in schedule) (history_at (owned_of schedule) x.takes) name)
  archive_is i name at = ap (λ (h : ServerState (List ℕ)). slice_get h.archives i) encodes.encoding.server_state ∙ runs.simulation.server.archives i name at

pub reported : (schedule : WireView) (b : Bounds) (says : ℕ) (w : ByteWorld) (v : ItemWorld) (x : sessions.AppWorld) → IsLineList schedule → AreSmall b → IsWorldKept schedule w
    → WorldEncodes UpFits DownFits (StandingServers ServerFits) ClientFits w v → WorldSimulates schedule b says v x → IsReported schedule x (report_of w)
reported schedule b says w v x right small kept encodes runs = record {
  version = kept.version;
  wire = refl;
  takes = encodes.encoding.takes ∙ ap₂ (λ version takes. map (line_reported version) takes) kept.version runs.simulation.takes ∙ take_lines_told (owned_of schedule) schedule.version x.takes (tellable schedule right b says v x runs small);
  accounts = ap (λ names. account_lines 0 names w.server.server_state.archives) kept.accounts
      ∙ lines_are (keep_in schedule) (history_at (owned_of schedule) x.takes) w.server.server_state.archives (names_of schedule) (archive_is schedule b says w v x encodes runs);
  devices = all_told schedule right b small says w v x kept encodes runs;
}
