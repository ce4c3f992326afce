-- Time passes.
use Rattle.std.proofs.Common.{◌≡◌, ℕ, ◌+◌, max, length, refl, inl, arith}
use Rattle.sim_3_images.specs.Relayable.{ClientFits, DownFits, ServerFits, UpFits}
use Rattle.sim_3_images.specs.Devices.{identity_at}
use Rattle.sim_3_images.proofs.FittingEncodings.{keep_here, takes_any}
use Rattle.sim_3_images.proofs.MoveSteps.{move_fits}
use Rattle.sim_3_items.specs.ItemMoves.{Tick, moved}
use Rattle.sim_3_items.specs.ItemWorlds.{ItemWorld}
use Rattle.cmd_schedule.specs.Schedules.{WireView}
use Rattle.sim_3_images.proofs.Within.{moment_within}
use Rattle.sim_5_moves.proofs.Events.{moment_flags, moment_runs}
use Rattle.sim_1_applications.specs.Devices.{AppWorld}
use Rattle.sim_1_applications.specs.Runs.{owned_of}
use Rattle.sim_5_moves.proofs.Kept.{kept_flags}
use Rattle.sim_5_moves.proofs.Quietly.{quiet_device, quiet_move}
use Rattle.sim_4_links_follow.proofs.StandMoves.{move_stands}
use Rattle.sim_4_links_follow.proofs.UpEnds.{tick_in}
use Rattle.sim_5_moves.specs.Running.{Bounds, MoveSimulates, WorldSimulates, keep_in, names_of}

pub tick_runs : (schedule : WireView) (b : Bounds) (says milliseconds : ℕ) (w : ItemWorld) (x : AppWorld) (runs : WorldSimulates schedule b says w x) → MoveSimulates schedule b says (Tick milliseconds) w x runs
tick_runs schedule b says milliseconds w x runs =
    let later = w.moment + milliseconds in
    let after : ItemWorld = moved (Tick milliseconds) w in
    quiet_move schedule b says w x runs (Tick milliseconds) milliseconds refl (λ i d e same. same) (λ i. refl) (record {
      devices = λ i o is old.
          quiet_device schedule w x after i o old refl (tick_in (identity_at schedule i o) old.logins w old.view milliseconds old.represents)
          (inl (kept_flags (identity_at schedule i o).account o.device w.server after.server (λ d represents. moment_flags w.server (identity_at schedule i o).account o.device d runs.in_bounds.within.ordered.sessions represents later)));
      many = refl;
      dialled = runs.in_bounds.dialled;
      wires = runs.simulation.wires;
      server = moment_runs (keep_in schedule) (owned_of schedule) (names_of schedule) x.takes w.server runs.simulation.server later;
      takes = refl;
      moment = refl;
      now = let shown = runs.simulation.now in let same : max w.server.moment (w.moment + milliseconds) ≡ w.moment + milliseconds = omega (arith, shown) in same;
      fits = move_fits UpFits DownFits ServerFits ClientFits keep_here takes_any (Tick milliseconds) w runs.in_bounds.fits tt;
      stands = move_stands (Tick milliseconds) w tt runs.in_bounds.stands;
      within = moment_within later (length w.wires) w.server runs.in_bounds.within;
    })
