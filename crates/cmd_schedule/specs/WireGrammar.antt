-- The grammar of wire schedules, as a relation between a schedule and its text.
use Rattle.std.specs.Prelude.{◌≡◌, ℕ, ◌+◌, ◌≤◌, nat_lt, nat_le, Bool, true, ◌&&◌, List, [], ◌∷◌, ◌++◌, IsTrue, codes}
use Rattle.std.specs.Fmt.{decimal}
use Rattle.std.specs.List.{flat_map}
use Rattle.base_io.specs.Names.{is_among}
use Rattle.cmd_schedule.specs.Grammar.{Declared, declared_by, header_text, may_keep, may_stand, nothing_declared, step_text}
use Rattle.cmd_schedule.specs.Schedules.{WireView}
use Rattle.cmd_schedule.specs.declared.schedule.Count.{Count}
use Rattle.cmd_schedule.specs.declared.schedule.Count.TheVariants.{Number, All}
use Rattle.cmd_schedule.specs.declared.schedule.TheConstants.{MOST_DIALS, MOST_NUMBER, MOST_TIMES, MOST_TIMES_TOGETHER}
use Rattle.cmd_schedule.specs.declared.schedule.WireLine.{WireLine}
use Rattle.cmd_schedule.specs.declared.schedule.WireStep.{WireStep}
use Rattle.cmd_schedule.specs.declared.schedule.WireStep.TheVariants.{Common, Dial, Forget, Close, Up, Down, Cut, Pass, Run}

-- what stands above a line: the names, how many connections are made, and the times of the pass and run lines together
pub record WireAbove : Type 0 where
  pub names : Declared
  pub dials : ℕ
  pub times : ℕ

abbrev pub nothing_above : WireAbove
nothing_above = record { names = nothing_declared; dials = 0; times = 0 }

-- with what a line declares, makes or repeats
abbrev pub above_by : WireStep → WireAbove → WireAbove
above_by (Common step) above = record above { names = declared_by step above.names }
above_by (Dial device) above = record above { dials = above.dials + 1 }
above_by (Pass conn times) above = record above { times = above.times + times }
above_by (Run times) above = record above { times = above.times + times }
above_by _ above = above

-- the connection was made above
abbrev pub is_made : WireAbove → ℕ → Bool
is_made above conn = nat_le 1 conn && nat_le conn above.dials

abbrev pub is_count : Count → Bool
is_count (Number n) = nat_le n MOST_NUMBER
is_count All = true

abbrev pub are_times : ℕ → Bool
are_times times = nat_le 1 times && nat_le times MOST_TIMES

-- what a line may say below what stands above, but for the bounds on how many there may be
abbrev pub may_run : WireAbove → WireStep → Bool
may_run above (Common step) = may_stand above.names step
may_run above (Dial device) = is_among device above.names.devices
may_run above (Forget device) = is_among device above.names.devices
may_run above (Close device) = is_among device above.names.devices
may_run above (Up conn count) = is_made above conn && is_count count
may_run above (Down conn count) = is_made above conn && is_count count
may_run above (Cut conn up down) = is_made above conn && nat_le up MOST_NUMBER && nat_le down MOST_NUMBER
may_run above (Pass conn times) = is_made above conn && are_times times
may_run above (Run times) = are_times times

-- the bounds on how many dial lines there may be, and how many times of pass and run lines
abbrev pub are_few : WireAbove → WireStep → Bool
are_few above (Dial device) = nat_lt above.dials MOST_DIALS
are_few above (Pass conn times) = nat_le (above.times + times) MOST_TIMES_TOGETHER
are_few above (Run times) = nat_le (above.times + times) MOST_TIMES_TOGETHER
are_few above _ = true

-- the lines are numbered from n, each may stand where it stands, and none is behind line 100,000
abbrev pub AreWireLines : WireAbove → ℕ → List WireLine → Type 0
AreWireLines above n [] = Unit {0}
AreWireLines above n (line ∷ lines) =
    (line.number ≡ n) × (n ≤ 100000) × IsTrue (may_run above line.step) × IsTrue (are_few above line.step)
    × AreWireLines (above_by line.step above) (n + 1) lines

pub record IsWireSchedule (schedule : WireView) : Type 0 where
  pub keeps : IsTrue (may_keep schedule.version)
  pub lines : AreWireLines nothing_above 2 schedule.lines

-- each line may stand where it stands, however many there are
abbrev pub AreRunnable : WireAbove → List WireStep → Type 0
AreRunnable above [] = Unit {0}
AreRunnable above (step ∷ steps) = IsTrue (may_run above step) × AreRunnable (above_by step above) steps

abbrev pub count_text : Count → List ℕ
count_text (Number n) = decimal n
count_text All = codes "all"

abbrev pub wire_step_text : WireStep → List ℕ
wire_step_text (Common step) = step_text step
wire_step_text (Dial device) = codes "dial " ++ device
wire_step_text (Forget device) = codes "forget " ++ device
wire_step_text (Close device) = codes "close " ++ device
wire_step_text (Up conn count) = codes "up " ++ decimal conn ++ 32 ∷ count_text count
wire_step_text (Down conn count) = codes "down " ++ decimal conn ++ 32 ∷ count_text count
wire_step_text (Cut conn up down) = codes "cut " ++ decimal conn ++ 32 ∷ decimal up ++ 32 ∷ decimal down
wire_step_text (Pass conn times) = codes "pass " ++ decimal conn ++ 32 ∷ decimal times
wire_step_text (Run times) = codes "run " ++ decimal times

-- the text of a wire schedule: each line is ended by LF
abbrev pub wire_text : WireView → List ℕ
wire_text schedule = header_text schedule.version true ++ 10 ∷ flat_map (λ line. wire_step_text line.step ++ 10 ∷ []) schedule.lines
