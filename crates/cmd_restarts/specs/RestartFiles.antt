-- What a file of restarts is.
use Rattle.std.specs.Prelude.{◌≡◌, ℕ, ◌==◌, Bool, true, false, List, [], ◌∷◌}
use Rattle.cmd_restarts.specs.Files.{FileView}
use Rattle.cmd_schedule.specs.WireGrammar.{IsWireSchedule}
use Rattle.cmd_schedule.specs.declared.schedule.Step.TheVariants.{Tick}
use Rattle.cmd_schedule.specs.declared.schedule.WireLine.{WireLine}
use Rattle.cmd_schedule.specs.declared.schedule.WireStep.{WireStep}
use Rattle.cmd_schedule.specs.declared.schedule.WireStep.TheVariants.{Common}

-- ---- which lines are restarts: those with these numbers, ascending

-- the next restart is the line of this number
abbrev pub is_next : ℕ → List ℕ → Bool
is_next number [] = false
is_next number (n ∷ restarts) = n == number

abbrev pub without_next : Bool → List ℕ → List ℕ
without_next true (n ∷ restarts) = restarts
without_next _ restarts = restarts

-- ---- a file

-- at a restart there passes as much time as a session can be resumed (XEP-0198, section 5)
abbrev pub IsPause : Bool → WireStep → Type 0
IsPause true step = step ≡ Common (Tick 300000)
IsPause false step = Unit {0}

-- each of these numbers is that of a line, and at each of these lines that time passes
abbrev pub ArePauses : List ℕ → List WireLine → Type 0
ArePauses restarts [] = restarts ≡ []
ArePauses restarts (line ∷ lines) = IsPause (is_next line.number restarts) line.step × ArePauses (without_next (is_next line.number restarts) restarts) lines

pub record IsRestartFile (file : FileView) : Type 0 where
  pub schedule : IsWireSchedule file.schedule
  pub restarts : ArePauses file.restarts file.schedule.lines
