-- What the laws of `down_moves` say.
use Rattle.std.specs.Prelude.{ℕ, ◌+◌, List}
use Rattle.sim_5_moves.specs.Ground.{IsGround}
use Rattle.sim_4_links_follow.specs.Following.{IsNextItem}
use Rattle.sim_3_images.specs.Devices.{identity_at}
use Rattle.sim_3_items.specs.Pipes.{by_number}
use Rattle.sim_3_items.specs.Reading.{IsNextDown}
use Rattle.sim_3_items.specs.WordItems.{down_item, is_after_login}
use Rattle.sim_5_moves.specs.DownMovesWords.{IsSilentWord}
use Rattle.sim_3_images.specs.Fitting.{MayItem}
use Rattle.sim_3_items.specs.ItemMoves.{Cut, Dial, Down, DownEnd}
use Rattle.sim_3_items.specs.ItemPipes.{ItemWire}
use Rattle.sim_3_items.specs.ItemWorlds.{ItemWorld}
use Rattle.sim_2_links.specs.Words.{DownWord}
use Rattle.cmd_schedule.specs.Contents.{Owned}
use Rattle.cmd_schedule.specs.Schedules.{WireView}
use Rattle.cmd_schedule.specs.LineLists.{IsLineList}
use Rattle.sim_1_applications.specs.Devices.{AppWorld}
use Rattle.sim_5_moves.specs.Running.{AreSmall, Bounds, IsInBounds, IsOwned, MoveSimulates, WorldSimulates}
use Rattle.xml_writer.specs.Items.{ItemOut}

abbrev pub DialsRun : Type 0
DialsRun =
    (schedule : WireView) → IsLineList schedule → (b : Bounds) → AreSmall b → (says : ℕ) (w : ItemWorld) (x : AppWorld) → (runs : WorldSimulates schedule b says w x) → (i : ℕ) (mine yours : List ℕ) → MayItem (Dial i mine yours)
    → IsInBounds b says (Dial i mine yours) w x → MoveSimulates schedule b says (Dial i mine yours) w x runs

abbrev pub CutsRun : Type 0
CutsRun =
    (schedule : WireView) (b : Bounds) (says : ℕ) (w : ItemWorld) (x : AppWorld) → (runs : WorldSimulates schedule b says w x) → (position up down : ℕ) → MoveSimulates schedule b says (Cut position up down) w x runs

abbrev pub EndsAreToldRun : Type 0
EndsAreToldRun =
    (schedule : WireView) (b : Bounds) (says : ℕ) (w : ItemWorld) (x : AppWorld) → (runs : WorldSimulates schedule b says w x) → (position : ℕ) → MoveSimulates schedule b says (DownEnd position) w x runs

abbrev pub SilentWordsComeDown : Type 0
SilentWordsComeDown =
    (schedule : WireView) (b : Bounds) (says : ℕ) (w : ItemWorld) (x : AppWorld) (runs : WorldSimulates schedule b says w x) (position : ℕ) (wire : ItemWire) (o : Owned) (owned : IsOwned schedule wire.device o) (word : DownWord ItemOut) → IsSilentWord word
    → (p : IsNextDown (identity_at schedule wire.device o) (runs.simulation.devices wire.device o owned).logins (runs.simulation.devices wire.device o owned).represents.device (by_number w.wires) (runs.simulation.devices wire.device o owned).view (position + 1) word)
    → IsNextItem position wire.device w (runs.simulation.devices wire.device o owned).represents.device wire (down_item (identity_at schedule wire.device o) ((runs.simulation.devices wire.device o owned).logins (position + 1)) (position + 1) (is_after_login p.conn.client) word)
    → MoveSimulates schedule b says (Down position) w x runs

abbrev pub DownsRun : Type 0
DownsRun =
    (schedule : WireView) (b : Bounds) → AreSmall b → (says : ℕ) (w : ItemWorld) (x : AppWorld) → (runs : WorldSimulates schedule b says w x) → IsGround schedule x → (position : ℕ) → IsInBounds b says (Down position) w x → MoveSimulates schedule b says (Down position) w x runs
