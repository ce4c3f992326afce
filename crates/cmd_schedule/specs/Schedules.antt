-- What clauses see of a schedule.
use Rattle.std.specs.Prelude.{ℕ, Bool, true, List, [], ◌∷◌, map}
use Rattle.std.specs.List.{flat_map}
use Rattle.cmd_schedule.specs.declared.schedule.Line.{Line}
use Rattle.cmd_schedule.specs.declared.schedule.Step.{Step}
use Rattle.cmd_schedule.specs.declared.schedule.TheConstants.{MOST_KEPT}
use Rattle.cmd_schedule.specs.declared.schedule.Version.{Version}
use Rattle.cmd_schedule.specs.declared.schedule.Version.TheVariants.{One, Two}
use Rattle.cmd_schedule.specs.declared.schedule.WireLine.{WireLine}
use Rattle.cmd_schedule.specs.declared.schedule.WireStep.{WireStep}
use Rattle.cmd_schedule.specs.declared.schedule.WireStep.TheVariants.{Common}

-- what laws see of a schedule of either kind: its version, whether it is a wire schedule, and its lines behind the first,
-- of a wire schedule those that direct schedules have too
pub record ScheduleView : Type 0 where
  pub version : Version
  pub wire : Bool
  pub lines : List Line

-- how many entries each archive keeps, which are its newest: in version 1 as many as can come
abbrev pub keep_of : Version → ℕ
keep_of One = MOST_KEPT
keep_of (Two keep) = keep

abbrev pub steps_of : List Line → List Step
steps_of lines = map (λ line. line.step) lines

-- a wire schedule: its version, and its lines behind the first
pub record WireView : Type 0 where
  pub version : Version
  pub lines : List WireLine

-- the line of a direct schedule that this line is
abbrev pub common_at : ℕ → WireStep → List Line
common_at n (Common step) = record { number = n; step = step } ∷ []
common_at n _ = []

-- what laws see of a wire schedule
abbrev pub seen_of : WireView → ScheduleView
seen_of schedule = record { version = schedule.version; wire = true; lines = flat_map (λ line. common_at line.number line.step) schedule.lines }

abbrev pub wire_steps_of : List WireLine → List WireStep
wire_steps_of lines = map (λ line. line.step) lines
