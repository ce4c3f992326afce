-- A quiet move of a world leaves the worlds related.
use Rattle.std.proofs.Common.{◌≡◌, ℕ, ◌+◌, List, [], length, map, slice_get, refl, sym, ap, subst, ◌∙◌, arith}
use Rattle.std.proofs.lemmas.Option.{same_Some}
use Rattle.sim_4_links_follow.specs.Following.{WorldFollows}
use Rattle.sim_3_images.specs.Devices.{identity_at}
use Rattle.sim_3_items.specs.ItemMoves.{ItemMove, moved}
use Rattle.sim_3_items.specs.ItemWorlds.{ItemDevice, ItemWorld}
use Rattle.sim_5_moves.proofs.Engine.{quiet_runs}
use Rattle.sim_5_moves.specs.Silent.{DoFlagsGo, SameUser, SilentDevice, SilentSimulates, SilentWorld}
use Rattle.cmd_schedule.specs.Contents.{Owned, accounts_of}
use Rattle.cmd_schedule.specs.Schedules.{WireView, keep_of}
use Rattle.sim_1_applications.proofs.Runs.{taken_along, taken_beginning}
use Rattle.sim_1_applications.specs.Devices.{AppWorld, Device}
use Rattle.sim_1_applications.specs.Kept.{Taken}
use Rattle.sim_1_applications.specs.Runs.{begins, owned_of, steps_in}
use Rattle.sim_5_moves.specs.Running.{Bounds, DeviceSimulates, IsAskedBy, MoveSimulates, RunsOn, WorldSimulates, spoken_by_move, DoesBy}
use Rattle.sim_5_moves.proofs.Doing.{without_labels}

-- a device whose client does nothing
pub quiet_device : (schedule : WireView) (w : ItemWorld) (x : AppWorld) (after : ItemWorld) (i : ℕ) (o : Owned) (old : DeviceSimulates schedule w x i o) → after.devices ≡ w.devices
    → WorldFollows (identity_at schedule i o) old.logins after old.view [] → DoFlagsGo (identity_at schedule i o).account o.device w.server after.server → SilentDevice schedule w x i o old after
quiet_device schedule w x after i o old same follows flags = record {
  logins = old.logins;
  follows = follows;
  user =
      λ e there. subst (λ (d : ItemDevice). SameUser old.represents.device.client d.client) (same_Some old.represents.device e (sym old.represents.there ∙ ap (λ (l : List ItemDevice). slice_get l i) (sym same) ∙ there))
      (record { epoch = refl; n = refl; said = refl; session = refl; log = refl; pages = refl });
  flags = flags;
}

module _ (schedule : WireView) (b : Bounds) (says : ℕ) (w : ItemWorld) (x : AppWorld) (runs : WorldSimulates schedule b says w x) where
  pub taken : Taken x
  taken =
      taken_along runs.in_bounds.led.events (begins schedule) x runs.in_bounds.led.reaches
      (taken_beginning (keep_of schedule.version) (accounts_of (steps_in schedule)) (map (λ (o : Owned). o.account) (owned_of schedule)))

  -- by the move nobody says anything, and nobody asks for a page
  pub quiet_move : (m : ItemMove) (passed : ℕ) → spoken_by_move m w ≡ [] → ((i : ℕ) (d e : Device) → e.reading.asked ≡ d.reading.asked → IsAskedBy m w i d e) → ((i : ℕ) → DoesBy m w i []) → SilentWorld schedule b w x (moved m w) passed → MoveSimulates schedule b says m w x runs
  quiet_move m passed silent asks nothing quiet =
      let q : SilentSimulates schedule b says w x runs (moved m w) = quiet_runs schedule b says w x runs taken (moved m w) passed quiet in
      let on : RunsOn schedule b says w x runs (DoesBy m w) (says + length (spoken_by_move m w)) (moved m w) q.next =
      subst (λ n. RunsOn schedule b says w x runs (DoesBy m w) n (moved m w) q.next) (let none = ap length silent in let same : says ≡ says + length (spoken_by_move m w) = omega arith in same)
      (without_labels schedule b says w x runs (DoesBy m w) nothing says (moved m w) q.next q.on) in
      record {
        events = q.events;
        next = q.next;
        reaches = q.reaches;
        spoken = q.silent ∙ sym silent;
        asked = λ i d e there here. asks i d e (q.asked i d e there here);
        runs = on.runs;
        links = on.links;
      }
