-- What is known of a world of the applications that stands beside a world of items.
use Rattle.std.proofs.Common.{◌≡◌, ℕ, zero, suc, ◌+◌, ◌<◌, ◌≤◌, ◌^◌, true, List, [], ◌∷◌, Some, length, refl, sym, subst, ◌∙◌, arith}
use Rattle.std.proofs.lemmas.Option.{same_Some, slice_get_within}
use Rattle.std.specs.List.{AllByRecursion, filter}
use Rattle.std.specs.Prelude.{slice_get}
use Rattle.sim_3_images.proofs.OwnedDevices.{declared}
use Rattle.sim_3_images.proofs.Starts.{named_among}
use Rattle.base_io.specs.Names.{is_among}
use Rattle.sim_3_items.specs.ItemWorlds.{ItemWorld}
use Rattle.sim_2_links.proofs.WithPremises.{prompt_runs}
use Rattle.sim_3_items.specs.Labels.{awaits}
use Rattle.sim_2_events.proofs.Counted.{epochs}
use Rattle.sim_3_items.specs.Items.{stanzas_read}
use Rattle.sim_7_schedules.proofs.TakeLines.{IsTellable}
use Rattle.cmd_schedule.specs.Contents.{Owned}
use Rattle.cmd_schedule.specs.Grammar.{is_name}
use Rattle.cmd_schedule.specs.Schedules.{WireView}
use Rattle.cmd_schedule.specs.LineLists.{IsLineList}
use Rattle.sim_1_applications.proofs.Said.{takes_few}
use Rattle.sim_1_applications.proofs.Taken.{of_all}
use Rattle.sim_1_applications.specs.Counts.{IsNumberedWithin}
use Rattle.sim_1_applications.proofs.Later.{later_along}
use Rattle.sim_1_applications.proofs.Lists.{all_weaker}
use Rattle.sim_1_applications.proofs.Runs.{taken_along, taken_beginning}
use Rattle.sim_1_applications.proofs.TileRuns.{read_along, read_beginning}
use Rattle.sim_1_applications.specs.Devices.{AppWorld, Device, Take, epoch_of}
use Rattle.sim_1_applications.specs.Histories.{spoken_in}
use Rattle.sim_1_applications.specs.Kept.{IsOfDevice, Read, Taken, is_of}
use Rattle.sim_1_applications.proofs.Ground.{by_device}
use Rattle.sim_1_applications.proofs.Owners.{name_is}
use Rattle.sim_1_applications.specs.Reported.{name_at}
use Rattle.sim_1_applications.specs.Runs.{begins, owned_of}
use Rattle.cmd_world.proofs.Declares.{are_accounts, are_names, some_kept}
use Rattle.cmd_world.proofs.Traces.{may_run_all}
use Rattle.sim_5_moves.specs.Running.{AreSmall, Bounds, WorldSimulates, keep_in, names_of}

-- ---- lists

pub some_at : {A : Type 0} (xs : List A) (i : ℕ) → i < length xs → (x : A) × (slice_get xs i ≡ Some x)
some_at [] i low = absurd (omega (arith, low))
some_at (x ∷ xs) zero low = (x, refl)
some_at (x ∷ xs) (suc i) low = some_at xs i (omega (arith, low))

all_three : {A : Type 0} (P Q R S : A → Type 0) → ((a : A) → P a → Q a → R a → S a) → (xs : List A) → AllByRecursion P xs → AllByRecursion Q xs → AllByRecursion R xs → AllByRecursion S xs
all_three P Q R S each [] p q r = tt
all_three P Q R S each (x ∷ xs) p q r = (each x p.0 q.0 r.0, all_three P Q R S each xs p.1 q.1 r.1)

-- ---- a world that stands

module _ (schedule : WireView) (right : IsLineList schedule) (b : Bounds) (says : ℕ) (v : ItemWorld) (x : AppWorld) (runs : WorldSimulates schedule b says v x) where
  taken : Taken x
  taken = taken_along runs.in_bounds.led.events (begins schedule) x runs.in_bounds.led.reaches (taken_beginning (keep_in schedule) (names_of schedule) _)

  pub read : Read x
  read =
      read_along runs.in_bounds.led.events (begins schedule) x runs.in_bounds.led.reaches (taken_beginning (keep_in schedule) (names_of schedule) _)
      (read_beginning (keep_in schedule) (some_kept schedule.version right.keeps) (names_of schedule) _)

  pub keeps : x.keep ≡ keep_in schedule
  keeps = (later_along runs.in_bounds.led.events (begins schedule) x runs.in_bounds.led.reaches).keep

  pub exist : x.accounts ≡ names_of schedule
  exist = (later_along runs.in_bounds.led.events (begins schedule) x runs.in_bounds.led.reaches).accounts

  -- each device is one of the schedule's
  pub owner_at : (i : ℕ) → i < length x.devices → (o : Owned) × (slice_get (owned_of schedule) i ≡ Some o)
  owner_at i low = (let many = runs.simulation.many_there in some_at (owned_of schedule) i (omega (arith, low, many)))

  epoch_low : (i : ℕ) (d : Device) → slice_get x.devices i ≡ Some d → epoch_of d.sessions ≤ b.dials + 1
  epoch_low i d at =
      let o = owner_at i (slice_get_within x.devices i d at) in
      let one = runs.simulation.devices i o.0 o.1 in
      let same = same_Some one.device d (sym one.there ∙ at) in
      let low = epochs stanzas_read one.view one.device one.sessions (prompt_runs awaits one.view one.prompt) in
      let free = one.represents.server.free in
      let few = runs.in_bounds.within.few in
      let dialled = runs.in_bounds.dialled in
      subst (λ (e : Device). epoch_of e.sessions ≤ b.dials + 1) same (omega (arith, low, free, few, dialled))

  pub few_takes : AreSmall b → length x.takes < 2 ^ 64
  few_takes small =
      let few = takes_few (keep_in schedule) (names_of schedule) _ runs.in_bounds.led.events x runs.in_bounds.led.reaches in
      let spoken = runs.in_bounds.led.spoken in
      let said = runs.in_bounds.said in
      let bounded = small.stanzas in
      omega (arith, few, spoken, said, bounded)

  record IsNamedTake (i : ℕ) (t : Take) : Type 0 where
    account : is_name t.account ≡ true
    device : is_name (name_at (owned_of schedule) i) ≡ true

  of_one : (i : ℕ) → i < length x.devices → AllByRecursion (IsNamedTake i) (filter (is_of i) x.takes)
  of_one i low =
      let o = owner_at i low in
      let one = runs.simulation.devices i o.0 o.1 in
      let known = declared schedule i o.0 right o.1 in
      let home = (taken.devices i one.device one.there).takes.home in
      all_weaker (λ t. t.account ≡ one.device.account) (IsNamedTake i) (filter (is_of i) x.takes)
      (λ t at. record {
        account = subst (λ name. is_name name ≡ true) (sym (at ∙ one.account)) known.account;
        device = subst (λ name. is_name name ≡ true) (sym (name_is (owned_of schedule) i o.0 o.1)) known.device;
      })
      home

  placed : AllByRecursion (λ t. t.device < length x.devices) x.takes
  placed = all_weaker (IsOfDevice x.accounts (length x.devices)) (λ t. t.device < length x.devices) x.takes (λ t is. is.device) taken.placed

  pub tellable : AreSmall b → AllByRecursion (IsTellable (owned_of schedule)) x.takes
  tellable small =
      let names = are_names (names_of schedule) (are_accounts schedule (may_run_all schedule right)) in
      let numbered = of_all (keep_in schedule) (names_of schedule) _ runs.in_bounds.led.events x (b.dials + 1) runs.in_bounds.led.reaches epoch_low in
      let dials = small.dials in
      let stanzas = small.stanzas in
      let said = runs.in_bounds.said in
      let spoken = runs.in_bounds.led.spoken in
      all_three (λ t. IsNamedTake t.device t) (IsOfDevice x.accounts (length x.devices)) (λ t. IsNumberedWithin (b.dials + 1) (length (spoken_in runs.in_bounds.led.events)) t.said) (IsTellable (owned_of schedule))
      (λ t named of within.
      let epoch = within.0 in
      let n = within.1 in
      record {
        account = named.account;
        device = named.device;
        to = named_among t.said.to (names_of schedule) names (subst (λ accounts. is_among t.said.to accounts ≡ true) exist of.exists);
        epoch = omega (arith, epoch, dials);
        n = omega (arith, n, spoken, said, stanzas);
      })
      x.takes (by_device IsNamedTake (length x.devices) x.takes of_one placed) taken.placed numbered
