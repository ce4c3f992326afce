-- Counts that begin with none and end with many pass each number on the way.
use Rattle.std.proofs.Common.{◌≡◌, ℕ, zero, suc, ◌+◌, ◌<◌, ◌≤◌, ◌⊎◌, inl, inr, List, [], ◌∷◌, Some, length, refl, subst, arith}
use Rattle.std.specs.List.{AllByRecursion, slice_get}
use Rattle.base_lemmas.proofs.Lists.{AllByRecursion-weaker}
use Rattle.cmd_report.specs.Reports.{DeviceView, ReportView}
use Rattle.cmd_report.specs.Worlds.{ReportWorld}
use Rattle.cmd_schedule.specs.Schedules.{ScheduleView}
use Rattle.law_commands.specs.OfWorlds.{AreAskedFirst, ArePagesAsked, HasMove, IsFirst, IsLast, IsOfWorlds}

pub either : (k n : ℕ) → (n ≤ k) ⊎ (k < n)
either k zero = inl (omega arith)
either zero (suc n) = inr (omega arith)
either (suc k) (suc n) = elim (either k n) [ inl low ↦ inl (omega (arith, low)) | inr high ↦ inr (omega (arith, high)) ]

later_place : (n : ℕ) → suc (n + 1) ≡ suc n + 1
later_place n = omega arith

passed : (count : ReportWorld → ℕ) (k : ℕ) (w : ReportWorld) (ws : List ReportWorld) → count w ≤ k → IsLast (λ last. k < count last) (w ∷ ws) → HasMove (w ∷ ws) count k
passed count k w [] low high = absurd (omega (arith, low, high))
passed count k w (next ∷ ws) low high =
    elim (either k (count next)) [
      | inl still ↦ (
          let rest = passed count k next ws still high in
          record { i = suc rest.i; before = rest.before; after = rest.after; is_before = rest.is_before; is_after = later rest.i rest.after rest.is_after; passes = rest.passes })
      | inr over ↦ record { i = 0; before = w; after = next; is_before = refl; is_after = refl; passes = (low, over) }
    ]
  where
    later : (n : ℕ) (x : ReportWorld) → slice_get (next ∷ ws) (n + 1) ≡ Some x → slice_get (w ∷ next ∷ ws) (suc n + 1) ≡ Some x
    later n x at = subst (λ k. slice_get (w ∷ next ∷ ws) k ≡ Some x) (later_place n) at

pub last_weaker : (P Q : ReportWorld → Type 0) → ((w : ReportWorld) → P w → Q w) → (ws : List ReportWorld) → IsLast P ws → IsLast Q ws
last_weaker P Q each [] last = last
last_weaker P Q each (w ∷ []) last = each w last
last_weaker P Q each (w ∷ next ∷ ws) last = last_weaker P Q each (next ∷ ws) last

has_move : (count : ReportWorld → ℕ) (k : ℕ) (worlds : List ReportWorld) → IsFirst (λ w. count w ≤ k) worlds → IsLast (λ w. k < count w) worlds → HasMove worlds count k
has_move count k [] low high = absurd low
has_move count k (w ∷ ws) low high = passed count k w ws low high

first_of_two : (P : ReportWorld → Type 0) (Q R : ReportWorld → Type 0) → ((w : ReportWorld) → P w → Q w → R w) → (ws : List ReportWorld) → IsFirst P ws → AllByRecursion Q ws → IsFirst R ws
first_of_two P Q R each [] first all = absurd first
first_of_two P Q R each (w ∷ ws) first all = each w first all.0

device_moves : (worlds : List ReportWorld) (d : DeviceView) → ArePagesAsked worlds d → (k : ℕ) → k < length d.pages → HasMove worlds (λ w. w.asked d.name) k × HasMove worlds (λ w. length (w.pages d.name)) k
device_moves worlds d are k within =
    let pages = λ (w : ReportWorld). length (w.pages d.name) in (
      has_move (λ w. w.asked d.name) k worlds
          (first_of_two (λ w. w.asked d.name ≡ 0) (AreAskedFirst d) (λ w. w.asked d.name ≤ k) (λ w none first. omega (arith, none)) worlds are.begins are.each)
          (last_weaker (λ w. (pages w ≡ length d.pages) × (w.asked d.name ≡ length d.pages + length d.underway)) (λ w. k < w.asked d.name) (λ w is. let many = is.1 in omega (arith, many, within)) worlds are.ends),
      has_move pages k worlds
          (first_of_two (λ w. w.asked d.name ≡ 0) (AreAskedFirst d) (λ w. pages w ≤ k) (λ w none first. let low = first.asked in omega (arith, none, low)) worlds are.begins are.each)
          (last_weaker (λ w. (pages w ≡ length d.pages) × (w.asked d.name ≡ length d.pages + length d.underway)) (λ w. k < pages w) (λ w is. let many = is.0 in omega (arith, many, within)) worlds are.ends),
    )

pub moves : (worlds : List ReportWorld) (s : ScheduleView) (r : ReportView) → IsOfWorlds worlds s r
    → AllByRecursion (λ (d : DeviceView). (k : ℕ) → k < length d.pages → HasMove worlds (λ w. w.asked d.name) k × HasMove worlds (λ w. length (w.pages d.name)) k) r.devices
moves worlds s r are =
    AllByRecursion-weaker (ArePagesAsked worlds) (λ (d : DeviceView). (k : ℕ) → k < length d.pages → HasMove worlds (λ w. w.asked d.name) k × HasMove worlds (λ w. length (w.pages d.name)) k)
    (device_moves worlds) r.devices are.pages
