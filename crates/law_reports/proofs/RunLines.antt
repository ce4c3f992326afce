-- What the lines of a wire schedule say, and what became of them in a run.
use Rattle.std.proofs.Common.{◌≡◌, ℕ, suc, ◌+◌, ◌<◌, ◌≤◌, ◌^◌, Bool, true, false, List, [], ◌∷◌, length, ◌⊎◌, inl, inr, IsTrue, sym, ap, subst, arith}
use Rattle.std.proofs.lemmas.Bool.{and_parts}
use Rattle.std.proofs.lemmas.List.{length-append}
use Rattle.std.specs.Bool.{MatchBool}
use Rattle.std.specs.List.{AllByRecursion, flat_map}
use Rattle.std.specs.Str.{bytes_eq}
use Rattle.base_lemmas.proofs.Lists.{AllByRecursion-weaker}
use Rattle.law_reports.proofs.Declared.{IsNamed, named_account, named_device}
use Rattle.cmd_report.specs.Lawful.{AreNumberedAfter, AreOutcomes, AreSubmissions, BeginsRefused, BeginsSaid, IsOutcome}
use Rattle.cmd_report.specs.declared.report.RefusedLine.{RefusedLine}
use Rattle.cmd_report.specs.declared.report.SaidLine.{SaidLine}
use Rattle.cmd_schedule.proofs.Lists.{all_append}
use Rattle.cmd_schedule.specs.Contents.{account_name, device_name}
use Rattle.cmd_schedule.specs.Grammar.{Declared, is_name, is_text, may_stand}
use Rattle.cmd_schedule.specs.Schedules.{common_at}
use Rattle.cmd_schedule.specs.LineLists.{AreListed}
use Rattle.cmd_schedule.specs.WireGrammar.{WireAbove, above_by, may_run}
use Rattle.cmd_schedule.specs.declared.schedule.Line.{Line}
use Rattle.cmd_schedule.specs.declared.schedule.Step.{Step}
use Rattle.cmd_schedule.specs.declared.schedule.Step.TheVariants.{Account, Device, Say, Private, Catchup, Tick}
use Rattle.cmd_schedule.specs.declared.schedule.WireLine.{WireLine}
use Rattle.cmd_schedule.specs.declared.schedule.WireStep.{WireStep}
use Rattle.cmd_schedule.specs.declared.schedule.WireStep.TheVariants.{Common}

-- ---- lines

-- a message is to a name, and has a schedule's text
abbrev pub IsTold : Step → Type 0
IsTold (Say device to text) = (is_name to ≡ true) × (is_text text ≡ true)
IsTold (Private device to text) = (is_name to ≡ true) × (is_text text ≡ true)
IsTold _ = Unit {0}

told_by : (above : Declared) (step : Step) → IsTrue (may_stand above step) → IsTold step
told_by above (Say device to text) may = let outer = and_parts _ _ may in ((and_parts _ _ outer.0).1, outer.1)
told_by above (Private device to text) may = let outer = and_parts _ _ may in ((and_parts _ _ outer.0).1, outer.1)
told_by above (Account name) may = tt
told_by above (Device name account) may = tt
told_by above (Catchup device most) may = tt
told_by above (Tick ms) may = tt

pub record IsLineRight (line : Line) : Type 0 where
  pub low : line.number < 2 ^ 32
  pub account : AllByRecursion IsNamed (account_name line.step)
  pub device : AllByRecursion IsNamed (device_name line.step)
  pub told : IsTold line.step

abbrev pub common_lines : List WireLine → List Line
common_lines lines = flat_map (λ (line : WireLine). common_at line.number line.step) lines

wire_line_right : (above : WireAbove) (n : ℕ) (step : WireStep) → n < 2 ^ 32 → IsTrue (may_run above step) → AllByRecursion IsLineRight (common_at n step)
wire_line_right above n (Common step) few may =
    (record { low = few; account = named_account above.names step may; device = named_device above.names step may; told = told_by above.names step may }, tt)
wire_line_right above n step few may = tt

pub wire_lines_right : (above : WireAbove) (lines : List WireLine) → AreListed above lines → AllByRecursion IsLineRight (common_lines lines)
wire_lines_right above [] are = tt
wire_lines_right above (line ∷ lines) are =
    all_append IsLineRight (common_at line.number line.step) (common_lines lines)
    (wire_line_right above line.number line.step are.0 are.1) (wire_lines_right (above_by line.step above) lines are.3)

common_few : (n : ℕ) (step : WireStep) → length (common_at n step) ≤ 1
common_few n (Common step) = omega arith
common_few n step = omega arith

pub wire_lines_few : (lines : List WireLine) → length (common_lines lines) ≤ length lines
wire_lines_few [] = omega arith
wire_lines_few (line ∷ lines) =
    let rest = wire_lines_few lines in
    omega (arith, rest, common_few line.number line.step, length-append (common_at line.number line.step) (common_lines lines))

-- ---- what became of them

-- a message of a schedule
abbrev pub IsSchedules : SaidLine → Type 0
IsSchedules said = (is_name said.to ≡ true) × (is_text said.text ≡ true)

pub record IsCome (many : ℕ) (said : List SaidLine) (refused : List RefusedLine) : Type 0 where
  pub each : AllByRecursion IsSchedules said
  pub numbers : AllByRecursion (λ (r : RefusedLine). r.line < 2 ^ 32) refused
  pub few : length said ≤ many

come_later : (many : ℕ) (said : List SaidLine) (refused : List RefusedLine) → IsCome many said refused → IsCome (suc many) said refused
come_later many said refused come = record { each = come.each; numbers = come.numbers; few = omega (arith, come.few) }

come_said : (to text : List ℕ) (Others : List SaidLine → Type 0) (many : ℕ) (said : List SaidLine) (refused : List RefusedLine) → is_name to ≡ true → is_text text ≡ true →
    BeginsSaid to text Others said → ((others : List SaidLine) → Others others → IsCome many others refused) → IsCome (suc many) said refused
come_said to text Others many [] refused named written begins following = absurd begins
come_said to text Others many (x ∷ others) refused named written begins following =
    let rest = following others begins.2 in
    record {
      each = ((subst (λ name. is_name name ≡ true) (sym begins.0) named, subst (λ t. is_text t ≡ true) (sym begins.1) written), rest.each);
      numbers = rest.numbers;
      few = omega (arith, rest.few);
    }

come_refused : (number : ℕ) (Others : List RefusedLine → Type 0) (many : ℕ) (said : List SaidLine) (refused : List RefusedLine) → number < 2 ^ 32 →
    BeginsRefused number Others refused → ((others : List RefusedLine) → Others others → IsCome many said others) → IsCome (suc many) said refused
come_refused number Others many said [] low begins following = absurd begins
come_refused number Others many said (x ∷ others) low begins following =
    let rest = following others begins.1 in
    record { each = rest.each; numbers = (omega (arith, begins.0, low), rest.numbers); few = omega (arith, rest.few) }

message_come : (hit : Bool) (number : ℕ) (to text : List ℕ) (Behind : List SaidLine → List RefusedLine → Type 0) (many : ℕ) (said : List SaidLine) (refused : List RefusedLine) →
    number < 2 ^ 32 → (is_name to ≡ true) × (is_text text ≡ true) →
    MatchBool hit (BeginsSaid to text (λ others. Behind others refused) said ⊎ BeginsRefused number (Behind said) refused) (Behind said refused) →
    ((ss : List SaidLine) (rs : List RefusedLine) → Behind ss rs → IsCome many ss rs) → IsCome (suc many) said refused
message_come true number to text Behind many said refused low told come following =
    elim come [
      | inl begins ↦ come_said to text (λ others. Behind others refused) many said refused told.0 told.1 begins (λ others is. following others refused is)
      | inr begins ↦ come_refused number (Behind said) many said refused low begins (λ others is. following said others is)
    ]
message_come false number to text Behind many said refused low told come following = come_later many said refused (following said refused come)

catchup_come : (hit : Bool) (number : ℕ) (Behind : List SaidLine → List RefusedLine → Type 0) (many : ℕ) (said : List SaidLine) (refused : List RefusedLine) → number < 2 ^ 32 →
    MatchBool hit (Behind said refused ⊎ BeginsRefused number (Behind said) refused) (Behind said refused) →
    ((ss : List SaidLine) (rs : List RefusedLine) → Behind ss rs → IsCome many ss rs) → IsCome (suc many) said refused
catchup_come true number Behind many said refused low come following =
    elim come [
      | inl is ↦ come_later many said refused (following said refused is)
      | inr begins ↦ come_refused number (Behind said) many said refused low begins (λ others is. following said others is)
    ]
catchup_come false number Behind many said refused low come following = come_later many said refused (following said refused come)

outcome_come : (device : List ℕ) (step : Step) (number : ℕ) (Behind : List SaidLine → List RefusedLine → Type 0) (many : ℕ) (said : List SaidLine) (refused : List RefusedLine) →
    number < 2 ^ 32 → IsTold step → IsOutcome device step number Behind said refused → ((ss : List SaidLine) (rs : List RefusedLine) → Behind ss rs → IsCome many ss rs) →
    IsCome (suc many) said refused
outcome_come device (Say name to text) number Behind many said refused low told come following = message_come (bytes_eq device name) number to text Behind many said refused low told come following
outcome_come device (Private name to text) number Behind many said refused low told come following = message_come (bytes_eq device name) number to text Behind many said refused low told come following
outcome_come device (Catchup name most) number Behind many said refused low told come following = catchup_come (bytes_eq device name) number Behind many said refused low come following
outcome_come device (Account name) number Behind many said refused low told come following = come_later many said refused (following said refused come)
outcome_come device (Device name account) number Behind many said refused low told come following = come_later many said refused (following said refused come)
outcome_come device (Tick ms) number Behind many said refused low told come following = come_later many said refused (following said refused come)

pub outcomes_come : (device : List ℕ) (lines : List Line) (said : List SaidLine) (refused : List RefusedLine) → AllByRecursion IsLineRight lines → AreOutcomes device lines said refused →
    IsCome (length lines) said refused
outcomes_come device [] said refused right are = record {
  each = subst (AllByRecursion IsSchedules) (sym are.0) tt;
  numbers = subst (AllByRecursion (λ (r : RefusedLine). r.line < 2 ^ 32)) (sym are.1) tt;
  few = omega (arith, ap length are.0);
}
outcomes_come device (line ∷ lines) said refused right are =
    outcome_come device line.step line.number (AreOutcomes device lines) (length lines) said refused right.0.low right.0.told are
    (λ ss rs is. outcomes_come device lines ss rs right.1 is)

-- ---- numbers of submissions

after_numbers : (before : SaidLine) (m : ℕ) (said : List SaidLine) → before.n ≤ m → AreNumberedAfter before said → AllByRecursion (λ (s : SaidLine). s.n ≤ m + length said) said
after_numbers before m [] low are = tt
after_numbers before m (s ∷ said) low are =
    let here : s.n ≤ m + 1 = (elim are.0 [
      | inl same ↦ omega (arith, same.1, low)
      | inr next ↦ omega (arith, next.1)
    ]) in (
      omega (arith, here),
      AllByRecursion-weaker (λ (x : SaidLine). x.n ≤ m + 1 + length said) (λ (x : SaidLine). x.n ≤ m + suc (length said)) (λ x is. omega (arith, is)) said (after_numbers s (m + 1) said here are.1),
    )

-- no number is above how many there are
pub numbers_few : (said : List SaidLine) → AreSubmissions said → AllByRecursion (λ (s : SaidLine). s.n ≤ length said) said
numbers_few [] are = tt
numbers_few (s ∷ said) are = (
  omega (arith, are.0),
  AllByRecursion-weaker (λ (x : SaidLine). x.n ≤ 1 + length said) (λ (x : SaidLine). x.n ≤ suc (length said)) (λ x is. omega (arith, is)) said (after_numbers s 1 said (omega (arith, are.0)) are.1),
)
