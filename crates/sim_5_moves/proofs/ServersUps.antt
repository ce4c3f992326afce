-- What goes up on a connection, whatever it is.
use Rattle.std.proofs.Common.{◌≡◌, ℕ, List, [], ◌∷◌, Option, Some, None, refl, sym, subst, slice_get}
use Rattle.sim_5_moves.specs.Ground.{IsGround}
use Rattle.sim_5_moves.proofs.Still.{nobody_runs, up_runs}
use Rattle.sim_3_images.specs.Devices.{identity_at}
use Rattle.sim_3_items.specs.ItemMoves.{Up}
use Rattle.sim_3_items.specs.ItemPipes.{ItemWire}
use Rattle.sim_3_items.specs.ItemWorlds.{ItemWorld}
use Rattle.sim_2_links.specs.Words.{Ack, Auth, Bind, Enable, Foot, Hdr, Req, Resp, ResumeAt, St, Up as UpTraffic, UpWord}
use Rattle.cmd_schedule.specs.Contents.{Owned}
use Rattle.cmd_schedule.specs.Schedules.{WireView}
use Rattle.cmd_schedule.specs.LineLists.{IsLineList}
use Rattle.sim_5_moves.proofs.ServersStanzas.{stanza_goes_up}
use Rattle.sim_1_applications.specs.Devices.{AppWorld}
use Rattle.sim_5_moves.proofs.Goes.{goes_up}
use Rattle.sim_5_moves.proofs.ClockUps.{silent_runs}
use Rattle.sim_5_moves.specs.WordsRunWords.{IsSilent}
use Rattle.sim_4_links_follow.specs.Steps.{ItemGoesUp}
use Rattle.sim_5_moves.specs.Running.{AreSmall, Bounds, DeviceSimulates, IsOwned, MoveSimulates, WorldSimulates}
use Rattle.xml_writer.specs.Items.{ItemOut}

module _ (schedule : WireView) (b : Bounds) (right : IsLineList schedule) (small : AreSmall b) (says position : ℕ) (w : ItemWorld) (x : AppWorld) (runs : WorldSimulates schedule b says w x) (ground : IsGround schedule x) where
  module _ (wire : ItemWire) (i : ItemOut) (items : List ItemOut) (there : slice_get w.wires position ≡ Some wire) (pipe : wire.up.items ≡ i ∷ items) (o : Owned) (owned : IsOwned schedule wire.device o) where
    abbrev old : DeviceSimulates schedule w x wire.device o
    old = runs.simulation.devices wire.device o owned

    g : ItemGoesUp (identity_at schedule wire.device o) old.logins w old.view position wire i
    g = goes_up schedule b small says w x runs position wire i items there pipe wire.device o old refl

    silent : IsSilent g.has.word → MoveSimulates schedule b says (Up position) w x runs
    silent is = silent_runs schedule b says w x right small runs position wire i items there pipe o owned old.logins old.view g.has is

    by_word : (word : UpWord ItemOut) → g.has.word ≡ word → MoveSimulates schedule b says (Up position) w x runs
    by_word Hdr is = silent (subst IsSilent (sym is) tt)
    by_word Auth is = silent (subst IsSilent (sym is) tt)
    by_word Resp is = silent (subst IsSilent (sym is) tt)
    by_word (ResumeAt q n) is = silent (subst IsSilent (sym is) tt)
    by_word Bind is = silent (subst IsSilent (sym is) tt)
    by_word Enable is = silent (subst IsSilent (sym is) tt)
    by_word (UpTraffic (St z)) is = stanza_goes_up schedule right b small says w x runs ground position wire i items there pipe o owned g z is
    by_word (UpTraffic Req) is = silent (subst IsSilent (sym is) tt)
    by_word (UpTraffic (Ack n)) is = silent (subst IsSilent (sym is) tt)
    by_word Foot is = silent (subst IsSilent (sym is) tt)

    abbrev item_runs : MoveSimulates schedule b says (Up position) w x runs
    item_runs = by_word g.has.word refl

  by_items : (wire : ItemWire) → slice_get w.wires position ≡ Some wire → (items : List ItemOut) → wire.up.items ≡ items → MoveSimulates schedule b says (Up position) w x runs
  by_items wire there [] none = up_runs schedule b says w x runs position wire there none
  by_items wire there (i ∷ items) pipe = let owner = runs.simulation.wires position wire there in item_runs wire i items there pipe owner.0 owner.1

  by_wire : (e : Option ItemWire) → slice_get w.wires position ≡ e → MoveSimulates schedule b says (Up position) w x runs
  by_wire None none = nobody_runs schedule b says w x runs (Up position) none
  by_wire (Some wire) there = by_items wire there wire.up.items refl

  pub any_runs : MoveSimulates schedule b says (Up position) w x runs
  any_runs = by_wire (slice_get w.wires position) refl
