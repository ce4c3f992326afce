-- The takes of a world with names are named takes.
use Rattle.std.proofs.Common.{◌≡◌, ℕ, zero, suc, ◌<◌, ◌≤◌, ◌^◌, Bool, true, false, ◌||◌, List, [], ◌∷◌, Some, length, filter, refl, sym, subst, ◌∙◌, arith}
use Rattle.std.proofs.lemmas.Bool.{false≢true}
use Rattle.std.proofs.lemmas.Option.{none-some, same_Some}
use Rattle.std.proofs.lemmas.Slice.Eq.{bytes_eq-Decides}
use Rattle.std.specs.List.{AllByRecursion, slice_get}
use Rattle.std.specs.Str.{bytes_eq}
use Rattle.mam_archive.proofs.NumberedEntries.{at_position}
use Rattle.law_payloads.specs.AsRead.{last_moment}
use Rattle.sim_5_devices.specs.Named.{AreNamed, IsNamed}
use Rattle.cmd_schedule.specs.Contents.{Owned}
use Rattle.cmd_schedule.specs.Grammar.{is_name}
use Rattle.sim_1_applications.proofs.Lists.{all_weaker}
use Rattle.sim_1_applications.specs.Devices.{AppWorld, Take}
use Rattle.sim_1_applications.specs.Events.{is_among}
use Rattle.sim_1_applications.specs.Kept.{AreMoments, IsOfDevice, Taken, is_of}
use Rattle.sim_1_applications.proofs.Ground.{by_device}
use Rattle.sim_1_applications.proofs.Owners.{name_is}
use Rattle.sim_1_applications.specs.Reported.{history_at, name_at}
use Rattle.sim_5_devices.proofs.LogsHistories.{history_plain}
use Rattle.sim_5_devices.specs.Plain.{IsNamedTake, IsPlain}

named_among : (name : List ℕ) (names : List (List ℕ)) → AllByRecursion (λ n. is_name n ≡ true) names → is_among name names ≡ true → is_name name ≡ true
named_among name [] all is = absurd (false≢true is)
named_among name (other ∷ names) all is = by (bytes_eq name other) refl (named_among name names all.1) is
  where
    by : (b : Bool) → bytes_eq name other ≡ b → (is_among name names ≡ true → is_name name ≡ true) → (b || is_among name names) ≡ true → is_name name ≡ true
    by true same later is = subst (λ n. is_name n ≡ true) (sym ((bytes_eq-Decides name other).0 same)) all.0
    by false differs later is = later is

pub named_at : (owned : List Owned) (i : ℕ) (o : Owned) → AllByRecursion IsNamed owned → slice_get owned i ≡ Some o → IsNamed o
named_at [] i o all there = absurd (none-some o there)
named_at (p ∷ owned) zero o all there = subst IsNamed (same_Some p o there) all.0
named_at (p ∷ owned) (suc i) o all there = named_at owned i o all.1 there

moments_below : (low now : ℕ) (takes : List Take) → AreMoments low now takes → (low ≤ now) × AllByRecursion (λ t. t.moment ≤ now) takes
moments_below low now [] known = (known, tt)
moments_below low now (t ∷ takes) known =
    let more = moments_below t.moment now takes known.1 in
    let here = known.0 in
    let below = more.0 in (omega (arith, here, below), (below, more.1))

module _ (owned : List Owned) (w : AppWorld) (taken : Taken w) (named : AreNamed owned w) where
  abbrev IsSentBy : ℕ → Take → Type 0
  IsSentBy i t = (is_name t.account ≡ true) × (is_name (name_at owned i) ≡ true)

  sent_by : (i : ℕ) → i < length w.devices → AllByRecursion (IsSentBy i) (filter (is_of i) w.takes)
  sent_by i within =
      let device = at_position i w.devices within in
      let home = named.homes i device.0 device.1 in
      let names = named_at owned i home.0 named.devices home.1 in
      all_weaker (λ (t : Take). t.account ≡ device.0.account) (IsSentBy i) (filter (is_of i) w.takes)
      (λ t is. (subst (λ n. is_name n ≡ true) (sym (is ∙ home.2)) names.account, subst (λ n. is_name n ≡ true) (sym (name_is owned i home.0 home.1)) names.device))
      (taken.devices i device.0 device.1).takes.home

  senders : AllByRecursion (λ (t : Take). IsSentBy t.device t) w.takes
  senders = by_device IsSentBy (length w.devices) w.takes sent_by (all_weaker _ (λ (t : Take). t.device < length w.devices) w.takes (λ t is. is.device) taken.placed)

  named_takes : w.clock ≤ last_moment → (takes : List Take) → AllByRecursion (λ t. IsSentBy t.device t) takes → AllByRecursion (IsOfDevice w.accounts (length w.devices)) takes
      → AllByRecursion (λ t. t.moment ≤ w.clock) takes → AllByRecursion (IsNamedTake owned) takes
  named_takes early [] sent placed moments = tt
  named_takes early (t ∷ takes) sent placed moments =
      let moment = moments.0 in (
        record { account = sent.0.0; device = sent.0.1; to = named_among t.said.to w.accounts named.accounts placed.0.exists; moment = omega (arith, moment, early) },
        named_takes early takes sent.1 placed.1 moments.1,
      )

  pub world_plain : w.clock ≤ last_moment → length w.takes < 2 ^ 64 → (account : List ℕ) → IsPlain (history_at owned w.takes account)
  world_plain early few account = history_plain owned w.takes account (named_takes early w.takes senders taken.placed (moments_below 0 w.clock w.takes taken.moments).1) few
