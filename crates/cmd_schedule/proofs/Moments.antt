-- The clock of a schedule: by how much its steps move it on.
use Rattle.std.proofs.Common.{◌≡◌, ℕ, zero, suc, ◌+◌, ◌*◌, ◌<◌, ◌≤◌, ◌^◌, List, [], ◌∷◌, ◌++◌, Some, IsTrue, length, take, refl, arith}
use Rattle.std.proofs.lemmas.Bool.{leb-true}
use Rattle.std.specs.List.{slice_get}
use Rattle.cmd_schedule.specs.Contents.{moment_after, ticked}
use Rattle.cmd_schedule.specs.Grammar.{Declared, may_stand}
use Rattle.cmd_schedule.specs.Standing.{AreRight, declared_in}
use Rattle.cmd_schedule.specs.declared.schedule.Step.{Step}
use Rattle.cmd_schedule.specs.declared.schedule.Step.TheVariants.{Account, Device, Say, Private, Catchup, Tick}

pub moment_push : (before : List Step) (step : Step) → moment_after (before ++ step ∷ []) ≡ moment_after before + ticked step
moment_push [] step = omega arith
moment_push (first ∷ before) step = omega (arith, moment_push before step)

-- a step that may stand moves the clock on by no more than the bound
pub ticked_few : (above : Declared) (step : Step) → IsTrue (may_stand above step) → ticked step ≤ 1000000000
ticked_few above (Account name) may = omega arith
ticked_few above (Device name account) may = omega arith
ticked_few above (Say device to text) may = omega arith
ticked_few above (Private device to text) may = omega arith
ticked_few above (Catchup device most) may = omega arith
ticked_few above (Tick ms) may = leb-true ms 1000000000 may

abbrev AreFew : List Step → Type 0
AreFew steps = (i : ℕ) (step : Step) → slice_get steps i ≡ Some step → ticked step ≤ 1000000000

right_few : (steps : List Step) → AreRight steps → AreFew steps
right_few steps right i step is = ticked_few (declared_in (take i steps)) step (right.each i step is)

few_front : (steps : List Step) (i : ℕ) → AreFew steps → moment_after (take i steps) ≤ i * 1000000000
few_front steps zero few = omega arith
few_front [] (suc i) few = omega arith
few_front (step ∷ steps) (suc i) few = omega (arith, few 0 step refl, few_front steps i (λ j s is. few (suc j) s is))

few_whole : (steps : List Step) → AreFew steps → moment_after steps ≤ length steps * 1000000000
few_whole [] few = omega arith
few_whole (step ∷ steps) few = omega (arith, few 0 step refl, few_whole steps (λ j s is. few (suc j) s is))

-- the clock never goes back
pub moment_front : (steps : List Step) (i : ℕ) → moment_after (take i steps) ≤ moment_after steps
moment_front steps zero = omega arith
moment_front [] (suc i) = omega arith
moment_front (step ∷ steps) (suc i) = omega (arith, moment_front steps i)

-- the moment after so many steps
pub moment_few : (steps : List Step) (i : ℕ) → AreRight steps → moment_after (take i steps) ≤ i * 1000000000
moment_few steps i right = few_front steps i (right_few steps right)

-- each moment of a schedule is a number of 64 bits
pub moment_fits : (steps : List Step) (i : ℕ) → AreRight steps → moment_after (take i steps) < 2 ^ 64
moment_fits steps i right = omega (arith, moment_front steps i, few_whole steps (right_few steps right), right.few)

pub moment_whole : (steps : List Step) → AreRight steps → moment_after steps < 2 ^ 64
moment_whole steps right = omega (arith, few_whole steps (right_few steps right), right.few)
