-- Of a wire schedule, the steps that direct schedules have too stand where they may.
use Rattle.std.proofs.Common.{◌≡◌, ℕ, List, [], ◌∷◌, ◌++◌, IsTrue, refl, sym, ap, ◌∙◌, subst, arith}
use Rattle.std.proofs.lemmas.List.{append-nil}
use Rattle.std.specs.List.{flat_map}
use Rattle.cmd_schedule.proofs.Prefixes.{accounts_push, devices_push}
use Rattle.cmd_schedule.proofs.StandingSteps.{AreStanding, Stands, declared_of, steps_stand}
use Rattle.cmd_schedule.specs.Contents.{accounts_of, devices_of}
use Rattle.cmd_schedule.specs.Grammar.{Declared, declared_by, may_stand}
use Rattle.cmd_schedule.specs.Schedules.{common_at, steps_of}
use Rattle.cmd_schedule.specs.LineLists.{AreListed}
use Rattle.cmd_schedule.specs.WireGrammar.{WireAbove, above_by, may_run}
use Rattle.cmd_schedule.specs.declared.schedule.Line.{Line}
use Rattle.cmd_schedule.specs.declared.schedule.Step.{Step}
use Rattle.cmd_schedule.specs.declared.schedule.Step.TheVariants.{Account, Device, Say, Private, Catchup, Tick}
use Rattle.cmd_schedule.specs.declared.schedule.WireLine.{WireLine}
use Rattle.cmd_schedule.specs.declared.schedule.WireStep.{WireStep}
use Rattle.cmd_schedule.specs.declared.schedule.WireStep.TheVariants.{Common}

-- one step, as the only line
stands_one : (before : List Step) (step : Step) → IsTrue (may_stand (declared_of before) step) → Stands before step
stands_one before step may = (steps_stand before 2 (record { number = 2; step = step } ∷ []) (refl, omega arith, may, tt)).0

declared_more : (before : List Step) (step : Step) (accounts devices : List (List ℕ)) → accounts_of (before ++ step ∷ []) ≡ accounts → devices_of (before ++ step ∷ []) ≡ devices →
    (let d : Declared = record { accounts = accounts; devices = devices } in d ≡ declared_of (before ++ step ∷ []))
declared_more before step accounts devices first second =
    ap (λ a. (let d : Declared = record { accounts = a; devices = devices } in d)) (sym first) ∙ ap (λ b. (let d : Declared = record { accounts = accounts_of (before ++ step ∷ []); devices = b } in d)) (sym second)

declared_step : (before : List Step) (step : Step) → declared_by step (declared_of before) ≡ declared_of (before ++ step ∷ [])
declared_step before (Account name) =
    declared_more before (Account name) (accounts_of before ++ name ∷ []) (devices_of before) (accounts_push before (Account name)) (devices_push before (Account name) ∙ append-nil (devices_of before))
declared_step before (Device name account) =
    declared_more before (Device name account) (accounts_of before) (devices_of before ++ name ∷ []) (accounts_push before (Device name account) ∙ append-nil (accounts_of before)) (devices_push before (Device name account))
declared_step before (Say device to text) =
    declared_more before (Say device to text) (accounts_of before) (devices_of before) (accounts_push before (Say device to text) ∙ append-nil (accounts_of before)) (devices_push before (Say device to text) ∙ append-nil (devices_of before))
declared_step before (Private device to text) =
    declared_more before (Private device to text) (accounts_of before) (devices_of before) (accounts_push before (Private device to text) ∙ append-nil (accounts_of before))
    (devices_push before (Private device to text) ∙ append-nil (devices_of before))
declared_step before (Catchup device most) =
    declared_more before (Catchup device most) (accounts_of before) (devices_of before) (accounts_push before (Catchup device most) ∙ append-nil (accounts_of before))
    (devices_push before (Catchup device most) ∙ append-nil (devices_of before))
declared_step before (Tick ms) =
    declared_more before (Tick ms) (accounts_of before) (devices_of before) (accounts_push before (Tick ms) ∙ append-nil (accounts_of before)) (devices_push before (Tick ms) ∙ append-nil (devices_of before))

-- a line, and what stands behind it
step_stands : (before : List Step) (above : WireAbove) (step : WireStep) (number : ℕ) (later : List Line) → above.names ≡ declared_of before → IsTrue (may_run above step) →
    ((more : List Step) → (above_by step above).names ≡ declared_of (before ++ more) → AreStanding (before ++ more) (steps_of later)) → AreStanding before (steps_of (common_at number step ++ later))
step_stands before above (Common step) number later names may following =
    (stands_one before step (subst (λ d. IsTrue (may_stand d step)) names may), following (step ∷ []) (ap (declared_by step) names ∙ declared_step before step))
step_stands before above step number later names may following =
    subst (λ steps. AreStanding steps (steps_of later)) (append-nil before) (following [] (names ∙ ap declared_of (sym (append-nil before))))

pub wire_stand : (before : List Step) (above : WireAbove) (lines : List WireLine) → above.names ≡ declared_of before → AreListed above lines →
    AreStanding before (steps_of (flat_map (λ (line : WireLine). common_at line.number line.step) lines))
wire_stand before above [] names known = tt
wire_stand before above (line ∷ lines) names known =
    step_stands before above line.step line.number (flat_map (λ (l : WireLine). common_at l.number l.step) lines) names known.1
    (λ more next. wire_stand (before ++ more) (above_by line.step above) lines next known.3)
