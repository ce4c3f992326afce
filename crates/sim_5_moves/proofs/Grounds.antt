-- What is known of a world of the applications that is beside a world of items of a wire schedule.
use Rattle.std.proofs.Common.{◌≡◌, ℕ, ◌<◌, ◌^◌, true, List, [], ◌∷◌, Some, length, get_or, sym, ap, subst, ◌∙◌, arith}
use Rattle.std.proofs.lemmas.Option.{same_Some, slice_get-get_or, slice_get_within}
use Rattle.std.specs.List.{AllByRecursion, slice_get}
use Rattle.sim_5_moves.specs.Ground.{IsGround}
use Rattle.sim_3_images.proofs.OwnedDevices.{declared}
use Rattle.cmd_direct.proofs.TurnRuns.{all_positions}
use Rattle.sim_3_items.specs.ItemWorlds.{ItemWorld}
use Rattle.sim_5_devices.specs.Named.{AreNamed, IsNamed}
use Rattle.cmd_schedule.specs.Contents.{Owned}
use Rattle.cmd_schedule.specs.Grammar.{is_name}
use Rattle.cmd_schedule.specs.Schedules.{WireView}
use Rattle.cmd_schedule.specs.LineLists.{IsLineList}
use Rattle.sim_1_applications.proofs.Said.{takes_few}
use Rattle.sim_1_applications.proofs.Later.{later_along}
use Rattle.sim_1_applications.proofs.Runs.{taken_along, taken_beginning}
use Rattle.sim_1_applications.proofs.TileRuns.{read_along, read_beginning}
use Rattle.sim_1_applications.specs.Devices.{AppWorld, Device}
use Rattle.sim_1_applications.specs.Runs.{begins, owned_of}
use Rattle.cmd_world.proofs.Declares.{are_accounts, are_names, some_kept}
use Rattle.cmd_world.proofs.Traces.{may_run_all}
use Rattle.cmd_world.specs.Declaring.{AreNames}
use Rattle.sim_5_moves.specs.Running.{AreSmall, Bounds, WorldSimulates, keep_in, names_of}

-- ---- names

all_names : (names : List (List ℕ)) → AreNames names → AllByRecursion (λ name. is_name name ≡ true) names
all_names [] are = tt
all_names (name ∷ names) are = (are.0, all_names names are.1)

-- ---- the world

module _ (schedule : WireView) (right : IsLineList schedule) (b : Bounds) (small : AreSmall b) (says : ℕ) (w : ItemWorld) (x : AppWorld) (runs : WorldSimulates schedule b says w x) where
  -- each device is one of the schedule's
  home : (i : ℕ) (d : Device) → slice_get x.devices i ≡ Some d → (o : Owned) × (slice_get (owned_of schedule) i ≡ Some o) × (d.account ≡ o.account)
  home i d at =
      let within = slice_get_within x.devices i d at in
      let many = runs.simulation.many_there in
      let o = get_or (owned_of schedule) i (record { device = []; account = [] }) in
      let owned : slice_get (owned_of schedule) i ≡ Some o = slice_get-get_or (owned_of schedule) i (record { device = []; account = [] }) (omega (arith, within, many)) in
      let one = runs.simulation.devices i o owned in
      (o, owned, ap (λ (e : Device). e.account) (same_Some d one.device (sym at ∙ one.there)) ∙ one.account)

  named : AreNamed (owned_of schedule) x
  named = record {
    accounts = subst (AllByRecursion (λ name. is_name name ≡ true)) (sym (later_along runs.in_bounds.led.events (begins schedule) x runs.in_bounds.led.reaches).accounts)
        (all_names (names_of schedule) (are_names (names_of schedule) (are_accounts schedule (may_run_all schedule right))));
    devices = all_positions IsNamed (owned_of schedule) (λ i o at. let known = declared schedule i o right at in record { account = known.account; device = known.device });
    homes = home;
  }

  few : length x.takes < 2 ^ 64
  few =
      let takes = takes_few (keep_in schedule) (names_of schedule) _ runs.in_bounds.led.events x runs.in_bounds.led.reaches in
      let spoken = runs.in_bounds.led.spoken in
      let said = runs.in_bounds.said in
      let bounded = small.stanzas in
      omega (arith, takes, spoken, said, bounded)

  pub ground : IsGround schedule x
  ground = record {
    taken = taken_along runs.in_bounds.led.events (begins schedule) x runs.in_bounds.led.reaches (taken_beginning (keep_in schedule) (names_of schedule) _);
    read = read_along runs.in_bounds.led.events (begins schedule) x runs.in_bounds.led.reaches (taken_beginning (keep_in schedule) (names_of schedule) _)
        (read_beginning (keep_in schedule) (some_kept schedule.version right.keeps) (names_of schedule) _);
    keeps = (later_along runs.in_bounds.led.events (begins schedule) x runs.in_bounds.led.reaches).keep;
    named = named;
    few = few;
  }
