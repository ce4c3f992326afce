-- The network cuts a connection, or a device is told the end of the one that it has.
use Rattle.std.proofs.Common.{◌≡◌, ℕ, Bool, true, false, [], Option, Some, None, if◌then◌else◌, slice_get, refl, sym, ap, subst, ◌∙◌}
use Rattle.std.proofs.lemmas.Option.{same_Some}
use Rattle.cl_core.specs.UserCalls.{leaves}
use Rattle.cl_handlers.specs.declared.phase.Phase.TheVariants as phase
use Rattle.sim_4_links_follow.proofs.ConnectionsElsewhere.{cut_leaves, end_leaves}
use Rattle.sim_4_links_follow.proofs.Lifts.{cut_lifts, end_lifts}
use Rattle.sim_4_links_follow.specs.Following.{WorldFollows}
use Rattle.sim_5_moves.proofs.Still.{nobody_runs, still_runs}
use Rattle.sim_3_images.proofs.UserMoves.{get_set_same, length_where}
use Rattle.sim_3_images.specs.Relayable.{ClientFits, DownFits, ServerFits, UpFits}
use Rattle.sim_3_images.specs.Devices.{identity_at}
use Rattle.sim_3_items.specs.Labels.{awaits}
use Rattle.sim_3_items.specs.Identities.{Identity}
use Rattle.sim_3_items.specs.Represents.{Represents}
use Rattle.sim_5_moves.proofs.SessionStepping.{session_step_runs}
use Rattle.sim_5_moves.proofs.DownMovesTurns.{same_user}
use Rattle.sim_3_images.proofs.FittingEncodings.{keep_here, takes_any}
use Rattle.sim_3_images.proofs.MoveSteps.{move_fits}
use Rattle.sim_3_images.specs.Fitting.{FitsHere}
use Rattle.sim_3_items.specs.ItemMoves.{Cut, DownEnd, at_device, at_wire, end_heard, fed_of, has_wire, moved}
use Rattle.sim_3_items.specs.ItemPipes.{ItemWire, cut_at, down_end_reported, is_end_due}
use Rattle.sim_3_items.specs.ItemWorlds.{ItemDevice, ItemWorld}
use Rattle.sim_2_links.proofs.WithPremises.{prompt_runs}
use Rattle.sim_5_moves.specs.Moves.{IsOneDevice}
use Rattle.sim_5_moves.specs.Silent.{SameUser}
use Rattle.cmd_schedule.specs.Contents.{Owned}
use Rattle.cmd_schedule.specs.Schedules.{WireView}
use Rattle.sim_1_applications.specs.Devices.{AppWorld}
use Rattle.sim_5_moves.proofs.Called.{one_called, where_same}
use Rattle.cmd_network.specs.Positions.{changed_at}
use Rattle.sim_5_moves.specs.Running.{Bounds, DeviceSimulates, IsOwned, MoveSimulates, WorldSimulates}

module _ (schedule : WireView) (b : Bounds) (says : ℕ) (w : ItemWorld) (x : AppWorld) (runs : WorldSimulates schedule b says w x) where
  -- ---- on a connection of a device

  module _ (position : ℕ) (wire : ItemWire) (there : slice_get w.wires position ≡ Some wire) (o : Owned) (owned : IsOwned schedule wire.device o) where
    abbrev i : ℕ
    i = wire.device

    abbrev old : DeviceSimulates schedule w x i o
    old = runs.simulation.devices i o owned

    abbrev who : Identity
    who = identity_at schedule i o

    abbrev d : ItemDevice
    d = old.represents.device

    -- the device has what it had
    unchanged : (e : ItemDevice) → slice_get w.devices i ≡ Some e → SameUser d.client e.client
    unchanged e at = subst (λ (y : ItemDevice). SameUser d.client y.client) (same_Some d e (sym old.represents.there ∙ at)) (same_user d.client d.client.phase)

    cut_one : (up down : ℕ) → IsOneDevice i w (moved (Cut position up down) w)
    cut_one up down = record {
      server = refl;
      takes = refl;
      moment = refl;
      devices = refl;
      beside = λ j other. refl;
      many = length_where (Some position) (cut_at up down) w.wires;
      wires = where_same (cut_at up down) (λ v. refl) (Some position) w.wires;
    }

    cut_runs : (up down : ℕ) → MoveSimulates schedule b says (Cut position up down) w x runs
    cut_runs up down =
        session_step_runs schedule b says (Cut position up down) w x runs i o owned (moved (Cut position up down) w)
        (record {
          is = refl;
          alone = cut_one up down;
          fits = move_fits UpFits DownFits ServerFits ClientFits keep_here takes_any (Cut position up down) w runs.in_bounds.fits tt;
          follows = cut_lifts who old.logins w old.view old.represents position wire there refl up down;
          user = unchanged;
          others = λ j p q other.
              cut_leaves (identity_at schedule j p) (runs.simulation.devices j p q).logins w (runs.simulation.devices j p q).view (runs.simulation.devices j p q).represents position wire there (λ same. other (sym same)) up down;
          silent = refl;
          asked = λ j e f same. same.0;
          nothing = λ j. refl;
        })

    -- ---- the end

    abbrev away : ItemDevice
    away = record d { client = (leaves (fed_of d.client)).turn.client }

    abbrev ended : ItemWorld
    ended = end_heard position i true d w

    told_runs : moved (DownEnd position) w ≡ ended → MoveSimulates schedule b says (DownEnd position) w x runs
    told_runs is =
        session_step_runs schedule b says (DownEnd position) w x runs i o owned ended
        (record {
          is = is;
          alone = one_called i w away (changed_at position down_end_reported w.wires) (length_where (Some position) down_end_reported w.wires) (where_same down_end_reported (λ v. refl) (Some position) w.wires);
          fits = subst FitsHere is (move_fits UpFits DownFits ServerFits ClientFits keep_here takes_any (DownEnd position) w runs.in_bounds.fits tt);
          follows = subst (λ v. WorldFollows who old.logins v old.view []) is (end_lifts who old.logins w old.view old.represents position wire there refl (prompt_runs awaits old.view old.prompt));
          user = λ e at. subst (λ (y : ItemDevice). SameUser d.client y.client) (same_Some away e (sym (get_set_same w.devices i d away old.represents.there) ∙ at)) (same_user d.client phase.Apart);
          others = λ j p q other.
              subst (λ v. Represents (identity_at schedule j p) (runs.simulation.devices j p q).logins v (runs.simulation.devices j p q).view) is
              (end_leaves (identity_at schedule j p) (runs.simulation.devices j p q).logins w (runs.simulation.devices j p q).view (runs.simulation.devices j p q).represents position wire there (λ same. other (sym same)));
          silent = refl;
          asked = λ j e f same. same.0;
          nothing = λ j. refl;
        })

    -- it isn't the device's connection any more, or the end isn't due
    nothing_runs : moved (DownEnd position) w ≡ w → MoveSimulates schedule b says (DownEnd position) w x runs
    nothing_runs same = still_runs schedule b says w x runs (DownEnd position) same refl (λ i. refl)

    end_runs : MoveSimulates schedule b says (DownEnd position) w x runs
    end_runs = by (has_wire position d.here) refl
      where
        ends : ItemWire → ItemDevice → ItemWorld → ItemWorld
        ends u e = end_heard position u.device (is_end_due u.down) e

        at_it : moved (DownEnd position) w ≡ (if has_wire position d.here then ends wire d w else w)
        at_it = ap (λ n. at_wire position ends n w) there ∙ ap (λ n. at_device position ends wire n w) old.represents.there

        due : (at : Bool) → is_end_due wire.down ≡ at → moved (DownEnd position) w ≡ ends wire d w → MoveSimulates schedule b says (DownEnd position) w x runs
        due true e is = told_runs (is ∙ ap (λ n. end_heard position i n d w) e)
        due false e is = nothing_runs (is ∙ ap (λ n. end_heard position i n d w) e)

        by : (at : Bool) → has_wire position d.here ≡ at → MoveSimulates schedule b says (DownEnd position) w x runs
        by true e = due (is_end_due wire.down) refl (at_it ∙ ap (λ n. if n then ends wire d w else w) e)
        by false e = nothing_runs (at_it ∙ ap (λ n. if n then ends wire d w else w) e)

  -- ---- on any

  pub each_cut : (position up down : ℕ) → MoveSimulates schedule b says (Cut position up down) w x runs
  each_cut position up down = go (slice_get w.wires position) refl
    where
      go : (n : Option ItemWire) → slice_get w.wires position ≡ n → MoveSimulates schedule b says (Cut position up down) w x runs
      go None none = nobody_runs schedule b says w x runs (Cut position up down) none
      go (Some wire) there = let of = runs.simulation.wires position wire there in cut_runs position wire there of.0 of.1 up down

  pub each_end : (position : ℕ) → MoveSimulates schedule b says (DownEnd position) w x runs
  each_end position = go (slice_get w.wires position) refl
    where
      go : (n : Option ItemWire) → slice_get w.wires position ≡ n → MoveSimulates schedule b says (DownEnd position) w x runs
      go None none = nobody_runs schedule b says w x runs (DownEnd position) none
      go (Some wire) there = let of = runs.simulation.wires position wire there in end_runs position wire there of.0 of.1
