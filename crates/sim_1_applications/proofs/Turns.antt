-- At each turn the number of a device's last request rises by one at most.
use Rattle.std.proofs.Common.{◌≡◌, ℕ, ◌+◌, ◌≤◌, List, [], ◌∷◌, ◌++◌, Some, length, refl, sym, ap, ◌∙◌, subst, arith, inl, inr}
use Rattle.std.proofs.lemmas.Option.{same_Some}
use Rattle.std.specs.List.{AllByRecursion, flat_map, slice_get}
use Rattle.sim_1_applications.specs.Devices.{AppWorld, Device}
use Rattle.sim_1_applications.specs.Events as events
use Rattle.sim_1_applications.specs.Kept.{Read, Taken}
use Rattle.sim_1_applications.proofs.Runs.{taken_along, taken_moves}
use Rattle.sim_1_applications.proofs.TileRuns.{read_moves}
use Rattle.sim_1_applications.specs.Counts.{IsTurn, MayAsk}
use Rattle.sim_1_applications.proofs.Rises.{asked_moves, rises, there_after}
use Rattle.sim_1_applications.proofs.Unanswered.{once}
pub use Rattle.sim_1_applications.proofs.TileRuns.{read_along}

-- where no request may be put, none is
pub never_asks : (all : List events.AppEvent) (w last : AppWorld) (i : ℕ) (d e : Device) → AllByRecursion (λ event. MayAsk i event → ⊥) all → events.Reaches all w last →
    slice_get w.devices i ≡ Some d → slice_get last.devices i ≡ Some e → e.reading.asked ≡ d.reading.asked
never_asks [] w last i d e none led there here = ap (λ (x : Device). x.reading.asked) (same_Some e d (sym here ∙ ap (λ (v : AppWorld). slice_get v.devices i) led ∙ there))
never_asks (event ∷ all) w last i d e none led there here =
    let one = there_after event w led.0 i d led.1 there in
    never_asks all led.0 last i one.0 e none.1 led.2 one.1 here ∙ (asked_moves event w led.0 led.1 i d one.0 there one.1).1 none.0

pub turn : (all : List events.AppEvent) (w last : AppWorld) (i : ℕ) (d e : Device) → Taken w → Read w → IsTurn i all → events.Reaches all w last →
    slice_get w.devices i ≡ Some d → slice_get last.devices i ≡ Some e → e.reading.asked ≤ d.reading.asked + 1
turn [] w last i d e taken read is led there here = let same = never_asks [] w last i d e tt led there here in omega arith
turn (event ∷ all) w last i d e taken read (inl between) led there here = (once (event ∷ all) w last i d e taken read between led there here).0
turn (event ∷ all) w last i d e taken read (inr none) led there here =
    let one = there_after event w led.0 i d led.1 there in
    let first = rises d.reading.asked one.0.reading.asked (asked_moves event w led.0 led.1 i d one.0 there one.1).0 in
    let rest = never_asks all led.0 last i one.0 e none led.2 one.1 here in
    let high = first.1 in
    omega arith

-- events, and then others
pub reaches_both : (first second : List events.AppEvent) (w last : AppWorld) → events.Reaches (first ++ second) w last → (mid : AppWorld) × events.Reaches first w mid × events.Reaches second mid last
reaches_both [] second w last led = (w, refl, led)
reaches_both (event ∷ first) second w last led = let rest = reaches_both first second led.0 last led.2 in (rest.0, (led.0, led.1, rest.1), rest.2)

pub there_along : (all : List events.AppEvent) (w last : AppWorld) (i : ℕ) (d : Device) → events.Reaches all w last → slice_get w.devices i ≡ Some d → (e : Device) × (slice_get last.devices i ≡ Some e)
there_along [] w last i d led at = (d, ap (λ (v : AppWorld). slice_get v.devices i) led ∙ at)
there_along (event ∷ all) w last i d led at = let one = there_after event w led.0 i d led.1 at in there_along all led.0 last i one.0 led.2 one.1

pub turns : (all : List (List events.AppEvent)) (w last : AppWorld) (i : ℕ) (d e : Device) → Taken w → Read w → AllByRecursion (IsTurn i) all → events.Reaches (flat_map (λ one. one) all) w last →
    slice_get w.devices i ≡ Some d → slice_get last.devices i ≡ Some e → e.reading.asked ≤ d.reading.asked + length all
turns [] w last i d e taken read are led there here = let same = never_asks [] w last i d e tt led there here in omega arith
turns (one ∷ all) w last i d e taken read are led there here =
    let split = reaches_both one (flat_map (λ m. m) all) w last led in
    let mid = there_along one w split.0 i d split.1 there in
    let first = turn one w split.0 i d mid.0 taken read are.0 split.1 there mid.1 in
    let rest = turns all split.0 last i mid.0 e (taken_along one w split.0 split.1 taken) (read_along one w split.0 split.1 taken read) are.1 split.2 mid.1 here in
    omega arith
