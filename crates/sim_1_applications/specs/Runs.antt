-- The runs of a schedule: what each line led to, in moves of the two applications.
use Rattle.std.specs.Prelude.{◌≡◌, ℕ, ◌≤◌, ◌⊎◌, Bool, true, false, List, [], ◌∷◌, Some, length, map, filter, slice_get}
use Rattle.std.specs.List.{AllByRecursion, flat_map}
use Rattle.std.specs.Str.{bytes_eq}
use Rattle.mam_archive.specs.declared.archive.TheConstants.{GREATEST_NUMBER}
use Rattle.cmd_report.specs.Lines.{take_line}
use Rattle.cmd_report.specs.Reports.{ReportView}
use Rattle.cmd_report.specs.Worlds.{ReportWorld}
use Rattle.cmd_report.specs.declared.report.RefusedLine.{RefusedLine}
use Rattle.cmd_report.specs.declared.report.RefusedWhy.{RefusedWhy}
use Rattle.cmd_schedule.specs.Contents.{Owned, accounts_of, owned_in}
use Rattle.cmd_schedule.specs.Schedules.{WireView, keep_of, seen_of, steps_of}
use Rattle.cmd_schedule.specs.LineLists.{IsLineList}
use Rattle.cmd_schedule.specs.declared.schedule.Step.{Step}
use Rattle.cmd_schedule.specs.declared.schedule.Step.TheVariants.{Say, Private, Catchup}
use Rattle.cmd_schedule.specs.declared.schedule.WireLine.{WireLine}
use Rattle.cmd_schedule.specs.declared.schedule.WireStep.{WireStep}
use Rattle.cmd_schedule.specs.declared.schedule.WireStep.TheVariants.{Common}
use Rattle.sim_1_applications.specs.Devices as sessions
use Rattle.sim_1_applications.specs.Events.{AppEvent, Reaches, beginning}
use Rattle.sim_1_applications.specs.Histories.{Spoken, spoken_in, states_of}
use Rattle.sim_1_applications.specs.Reported.{AreDeviceLines, AreRepresented, account_line, history_at, take_of}

-- a line that a device refused
pub record Refusal : Type 0 where
  pub device : List ℕ
  pub line : RefusedLine

-- a line of the schedule, the moves that it led to, and the refusal, if it was refused
pub record LineRun : Type 0 where
  pub line : WireLine
  pub moves : List (List AppEvent)
  pub refused : List Refusal

abbrev pub IsRefused : List ℕ → ℕ → List Refusal → Type 0
IsRefused name number refused =
    (why : RefusedWhy) × (refused ≡ record { device = name; line = record { line = number; why = why } } ∷ [])

-- the device with the name sends the message, or refuses the line
abbrev pub IsSaid : List Owned → List ℕ → List ℕ → List ℕ → Bool → ℕ → List Spoken → List Refusal → Type 0
IsSaid owned name to text private number spoken refused =
    ((i : ℕ) × (o : Owned) × (slice_get owned i ≡ Some o) × (o.device ≡ name)
    × (spoken ≡ record { device = i; to = to; text = text; private = private } ∷ []) × (refused ≡ []))
    ⊎ ((spoken ≡ []) × IsRefused name number refused)

-- what a step leads to: no device sends a message but the one that the step asks to
abbrev pub IsStepDone : List Owned → Step → ℕ → List Spoken → List Refusal → Type 0
IsStepDone owned (Say name to text) number spoken refused = IsSaid owned name to text false number spoken refused
IsStepDone owned (Private name to text) number spoken refused = IsSaid owned name to text true number spoken refused
IsStepDone owned (Catchup name most) number spoken refused = (spoken ≡ []) × ((refused ≡ []) ⊎ IsRefused name number refused)
IsStepDone owned _ number spoken refused = (spoken ≡ []) × (refused ≡ [])

abbrev pub IsDone : List Owned → WireStep → ℕ → List Spoken → List Refusal → Type 0
IsDone owned (Common step) number spoken refused = IsStepDone owned step number spoken refused
IsDone owned _ number spoken refused = (spoken ≡ []) × (refused ≡ [])

abbrev pub events_in : LineRun → List AppEvent
events_in r = flat_map (λ move. move) r.moves

abbrev pub IsLineDone : List Owned → LineRun → Type 0
IsLineDone owned r = IsDone owned r.line.step r.line.number (spoken_in (events_in r)) r.refused

abbrev pub moves_of : List LineRun → List (List AppEvent)
moves_of runs = flat_map (λ r. r.moves) runs

abbrev pub refused_by : List ℕ → List LineRun → List RefusedLine
refused_by name runs = map (λ (refusal : Refusal). refusal.line) (filter (λ refusal. bytes_eq name refusal.device) (flat_map (λ (r : LineRun). r.refused) runs))

abbrev pub steps_in : WireView → List Step
steps_in schedule = steps_of (seen_of schedule).lines

abbrev pub owned_of : WireView → List Owned
owned_of schedule = owned_in (steps_in schedule)

-- the state before the first line
abbrev pub begins : WireView → sessions.AppWorld
begins schedule =
    beginning (keep_of schedule.version) (accounts_of (steps_in schedule)) (map (λ (o : Owned). o.account) (owned_of schedule))

-- the report of the last state
pub record IsReportOf (schedule : WireView) (runs : List LineRun) (last : sessions.AppWorld) (report : ReportView) : Type 0 where
  pub version : report.version ≡ schedule.version
  pub wire : report.wire ≡ true
  pub takes : report.takes ≡ map (take_line schedule.version) (map (take_of (owned_of schedule)) last.takes)
  pub accounts : report.accounts
      ≡ map (λ name. account_line (keep_of schedule.version) (history_at (owned_of schedule) last.takes name) name) (accounts_of (steps_in schedule))
  pub devices : AreDeviceLines (keep_of schedule.version) (history_at (owned_of schedule) last.takes) (owned_of schedule) last.devices report.devices
  pub refused : AllByRecursion (λ d. d.refused ≡ refused_by d.name runs) report.devices

-- The report is that of a run of the list of lines over sessions that may stop at any time; and these were the worlds
-- before the first move and after each move.
pub record IsRunOf (schedule : WireView) (worlds : List ReportWorld) (report : ReportView) : Type 0 where
  pub right : IsLineList schedule
  pub runs : List LineRun
  pub of_lines : map (λ (r : LineRun). r.line) runs ≡ schedule.lines
  pub done : AllByRecursion (IsLineDone (owned_of schedule)) runs
  pub last : sessions.AppWorld
  pub reaches : Reaches (flat_map (λ move. move) (moves_of runs)) (begins schedule) last
  -- an archive gives no number above its greatest
  pub few : length last.takes ≤ GREATEST_NUMBER
  pub shown : AreRepresented (owned_of schedule) (states_of (begins schedule) (moves_of runs)) worlds
  pub reported : IsReportOf schedule runs last report
