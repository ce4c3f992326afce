-- What the laws of `clock` say.
use Rattle.std.specs.Prelude.{◌≡◌, ℕ, ◌+◌, ◌∷◌, List, Some, slice_get}
use Rattle.sim_3_images.specs.Devices.{identity_at}
use Rattle.sim_3_items.specs.Identities.{Login}
use Rattle.sim_3_items.specs.Pipes.{by_number}
use Rattle.sim_3_items.specs.ItemMoves.{Tick, Up, UpEnd}
use Rattle.sim_3_items.specs.ItemPipes.{ItemWire}
use Rattle.sim_3_items.specs.ItemWorlds.{ItemWorld}
use Rattle.sim_2_links.specs.Views.{View}
use Rattle.cmd_schedule.specs.Contents.{Owned}
use Rattle.cmd_schedule.specs.Schedules.{WireView}
use Rattle.cmd_schedule.specs.LineLists.{IsLineList}
use Rattle.sim_4_links_follow.specs.Taking.{HasFirst}
use Rattle.sim_1_applications.specs.Devices.{AppWorld}
use Rattle.sim_5_moves.specs.WordsRunWords.{IsSilent}
use Rattle.sim_5_moves.specs.Running.{AreSmall, Bounds, IsOwned, MoveSimulates, WorldSimulates}
use Rattle.xml_writer.specs.Items.{ItemOut}

abbrev pub TicksRun : Type 0
TicksRun =
    (schedule : WireView) (b : Bounds) (says milliseconds : ℕ) (w : ItemWorld) (x : AppWorld) → (runs : WorldSimulates schedule b says w x) → MoveSimulates schedule b says (Tick milliseconds) w x runs

abbrev pub EndsRun : Type 0
EndsRun =
    (schedule : WireView) (b : Bounds) (says position : ℕ) (w : ItemWorld) (x : AppWorld) → IsLineList schedule → (runs : WorldSimulates schedule b says w x) → MoveSimulates schedule b says (UpEnd position) w x runs

abbrev pub SilentWordsGoUp : Type 0
SilentWordsGoUp =
    (schedule : WireView) (b : Bounds) → IsLineList schedule → AreSmall b → (says position : ℕ) (w : ItemWorld) (x : AppWorld) → (runs : WorldSimulates schedule b says w x) → (wire : ItemWire) (i : ItemOut) (items : List ItemOut)
    → slice_get w.wires position ≡ Some wire → wire.up.items ≡ i ∷ items → (o : Owned) → IsOwned schedule wire.device o → (logins : ℕ → Login) (v : View ItemOut)
    → (has : HasFirst (identity_at schedule wire.device o) logins w.server (by_number w.wires) v (position + 1) wire i) → IsSilent has.word → MoveSimulates schedule b says (Up position) w x runs
