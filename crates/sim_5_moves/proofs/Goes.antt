-- What an item on its way up is for the devices of a schedule.
use Rattle.std.proofs.Common.{◌≡◌, ℕ, ◌<◌, ◌≤◌, true, List, ◌∷◌, Option, Some, None, length, map, slice_get, refl, sym, subst, ◌∙◌, arith}
use Rattle.std.proofs.lemmas.Bool.{false≢true}
use Rattle.std.specs.Option.{IfSome, is_some, unwrap_or}
use Rattle.sim_3_images.proofs.OwnedDevices.{declared}
use Rattle.sim_3_images.proofs.ScheduleLogins.{are_two}
use Rattle.sim_3_images.specs.Devices.{account_position, identity_at}
use Rattle.sim_3_items.specs.Labels.{awaits}
use Rattle.base_io.proofs.NamePositions.{is_some-position_of, stands_there}
use Rattle.base_io.specs.Names.{is_among, position_of}
use Rattle.sim_3_items.specs.Items.{stanzas_read}
use Rattle.sim_3_items.specs.ItemPipes.{ItemWire}
use Rattle.sim_3_items.specs.ItemWorlds.{ItemWorld}
use Rattle.sim_2_links.proofs.WithPremises.{prompt_runs}
use Rattle.sim_2_links.specs.Machine.{LinkReached}
use Rattle.sim_2_events.proofs.Counted.{run_few}
use Rattle.cmd_schedule.specs.Contents.{Owned, accounts_of}
use Rattle.cmd_schedule.specs.Schedules.{WireView, keep_of}
use Rattle.cmd_schedule.specs.LineLists.{IsLineList}
use Rattle.sim_4_links_follow.specs.Taking.{AreApart, AreCountable, HasNumber}
use Rattle.sim_3_images.proofs.Within.{next_within}
use Rattle.sim_1_applications.specs.Devices.{AppWorld}
use Rattle.sim_1_applications.specs.Runs.{owned_of, steps_in}
use Rattle.sim_5_moves.specs.WordsRunWords.{IsDeviceOf}
use Rattle.sim_4_links_follow.proofs.Ups.{item_goes_up}
use Rattle.sim_4_links_follow.specs.Steps.{ItemGoesUp}
use Rattle.sim_5_moves.specs.Running.{AreSmall, Bounds, DeviceSimulates, IsOwned, WorldSimulates, names_of}
use Rattle.xml_writer.specs.Items.{ItemOut}

-- ---- the devices

-- a name that is among these stands at its place
name_there : (name : List ℕ) (names : List (List ℕ)) → is_among name names ≡ true → slice_get names (account_position name names) ≡ Some name
name_there name names among = by (position_of name names) (stands_there name names) (is_some-position_of name names ∙ among)
  where
    by : (o : Option ℕ) → IfSome o (λ i. (i < length names) × (slice_get names i ≡ Some name)) → is_some o ≡ true → slice_get names (unwrap_or o 0) ≡ Some name
    by None there some = absurd (false≢true some)
    by (Some i) there some = there.1

module _ (schedule : WireView) (right : IsLineList schedule) where
  pub device_of : (i : ℕ) (o : Owned) → IsOwned schedule i o → IsDeviceOf (owned_of schedule) (names_of schedule) (identity_at schedule i o) o
  device_of i o is = record { there = is; account = name_there o.account (names_of schedule) (declared schedule i o right is).among; resource = refl }

  pub apart_of : (i j : ℕ) (o p : Owned) → IsOwned schedule i o → IsOwned schedule j p → (i ≡ j → ⊥) → AreApart (identity_at schedule i o) (identity_at schedule j p)
  apart_of i j o p at_i at_j apart =
      let two = are_two schedule i j o p right at_i at_j apart in
      record { position = two.position; name = λ account resource. two.resource (sym resource) }

-- ---- the world

module _ (schedule : WireView) (b : Bounds) (small : AreSmall b) (says : ℕ) (w : ItemWorld) (x : AppWorld) (runs : WorldSimulates schedule b says w x) where
  pub has_number : HasNumber w.server
  has_number =
      let next = next_within (length w.wires) w.server runs.in_bounds.within in
      let dialled = runs.in_bounds.dialled in
      let most = small.dials in
      omega (arith, next, dialled, most)

  abbrev pub reached : (i : ℕ) (o : Owned) (old : DeviceSimulates schedule w x i o) → LinkReached old.view
  reached i o old = prompt_runs awaits old.view old.prompt

  pub countable : (i : ℕ) (o : Owned) (old : DeviceSimulates schedule w x i o) → AreCountable old.view
  countable i o old = record {
    few = λ q s is.
        (run_few stanzas_read (keep_of schedule.version) (accounts_of (steps_in schedule)) (map (λ (p : Owned). p.account) (owned_of schedule)) runs.in_bounds.led.events x runs.in_bounds.led.reaches i old.device old.there b.says b.pages
        (subst (λ n. n ≤ b.says) (sym runs.in_bounds.led.spoken) runs.in_bounds.said) (runs.in_bounds.asked i old.device old.there) small.stanzas old.view old.sessions q s is).1;
  }

  -- the item that goes up on a connection of the device
  pub goes_up : (position : ℕ) (wire : ItemWire) (z : ItemOut) (items : List ItemOut) → slice_get w.wires position ≡ Some wire → wire.up.items ≡ z ∷ items → (i : ℕ) (o : Owned) (old : DeviceSimulates schedule w x i o) → wire.device ≡ i
      → ItemGoesUp (identity_at schedule i o) old.logins w old.view position wire z
  goes_up position wire z items there pipe i o old same =
      item_goes_up (identity_at schedule i o) old.logins w old.view position wire z items old.represents (reached i o old) there same pipe has_number (countable i o old)
