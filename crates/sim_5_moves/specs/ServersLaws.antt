-- What the laws of `servers` say.
use Rattle.std.specs.Prelude.{◌≡◌, ℕ, ◌≤◌, ◌∷◌, List, Some, slice_get}
use Rattle.sim_5_moves.specs.Ground.{IsGround}
use Rattle.sim_3_images.specs.Devices.{identity_at}
use Rattle.sim_3_items.specs.ItemMoves.{Up}
use Rattle.sim_3_items.specs.ItemPipes.{ItemWire}
use Rattle.sim_3_items.specs.ItemWorlds.{ItemWorld}
use Rattle.sim_2_links.specs.Words.{St, Up as UpTraffic}
use Rattle.cmd_schedule.specs.Contents.{Owned}
use Rattle.cmd_schedule.specs.Schedules.{WireView}
use Rattle.cmd_schedule.specs.LineLists.{IsLineList}
use Rattle.sim_5_moves.specs.Placed.{ArePlaced}
use Rattle.sim_1_applications.specs.Devices.{AppWorld, Device, last_of}
use Rattle.sim_1_applications.specs.Events.{AppEvent, Reaches, beginning}
use Rattle.sim_4_links_follow.specs.Steps.{ItemGoesUp}
use Rattle.sim_5_moves.specs.Running.{AreSmall, Bounds, IsOwned, MoveSimulates, WorldSimulates}
use Rattle.xml_writer.specs.Items.{ItemOut}

abbrev pub RequestsArePlaced : Type 0
RequestsArePlaced =
    (keep : ℕ) → 1 ≤ keep → (accounts homes : List (List ℕ)) (events : List AppEvent) (w : AppWorld) → Reaches events (beginning keep accounts homes) w → (i : ℕ) (d : Device) → slice_get w.devices i ≡ Some d → ArePlaced (last_of w.takes d.account) d

abbrev pub StanzasGoUp : Type 0
StanzasGoUp =
    (schedule : WireView) → IsLineList schedule → (b : Bounds) → AreSmall b → (says : ℕ) (w : ItemWorld) (x : AppWorld) (runs : WorldSimulates schedule b says w x) → IsGround schedule x → (position : ℕ) (wire : ItemWire) (i : ItemOut) (items : List ItemOut)
    → slice_get w.wires position ≡ Some wire → wire.up.items ≡ i ∷ items → (o : Owned) → (owned : IsOwned schedule wire.device o)
    → (g : ItemGoesUp (identity_at schedule wire.device o) (runs.simulation.devices wire.device o owned).logins w (runs.simulation.devices wire.device o owned).view position wire i) → (z : ItemOut) → g.has.word ≡ UpTraffic (St z)
    → MoveSimulates schedule b says (Up position) w x runs

abbrev pub UpsRun : Type 0
UpsRun =
    (schedule : WireView) (b : Bounds) → IsLineList schedule → AreSmall b → (says position : ℕ) (w : ItemWorld) (x : AppWorld) → (runs : WorldSimulates schedule b says w x) → IsGround schedule x → MoveSimulates schedule b says (Up position) w x runs
