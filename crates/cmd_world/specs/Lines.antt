-- A line of a wire schedule as moves.
use Rattle.std.specs.Prelude.{ℕ, zero, suc, ◌+◌, true, false, List, [], ◌∷◌, ◌++◌, Option, Some, None, length}
use Rattle.base_io.specs.Names.{position_of}
use Rattle.cmd_schedule.specs.declared.schedule.Count.TheVariants.{All}
use Rattle.cmd_schedule.specs.declared.schedule.Step.{Step}
use Rattle.cmd_schedule.specs.declared.schedule.Step.TheVariants as step
use Rattle.cmd_schedule.specs.declared.schedule.WireLine.{WireLine}
use Rattle.cmd_schedule.specs.declared.schedule.WireStep.{WireStep}
use Rattle.cmd_schedule.specs.declared.schedule.WireStep.TheVariants as wire
use Rattle.cmd_network.specs.Positions.{position_under}
use Rattle.cmd_world.specs.Moves.{Move, CatchUp, Close, Cut, Dial, Down, Forget, Say, Tick, Up, all_moved}
use Rattle.cmd_world.specs.Worlds.{ByteWorld}

-- the move of what is there
abbrev pub move_of : (ℕ → Move) → Option ℕ → List Move
move_of move None = []
move_of move (Some position) = move position ∷ []

-- ---- turns

-- all bytes to the server, and then all to the device
abbrev pub pass_of : ℕ → List Move
pass_of position = Up position All ∷ Down position All ∷ []

-- of one connection, so many times
abbrev pub passes_of : ℕ → ℕ → List Move
passes_of zero position = []
passes_of (suc times) position = pass_of position ++ passes_of times position

-- of so many connections from a place on, each once, in ascending order
abbrev pub round_from : ℕ → ℕ → List Move
round_from position zero = []
round_from position (suc count) = pass_of position ++ round_from (position + 1) count

-- of all of them, so many times
abbrev pub rounds_of : ℕ → ℕ → List Move
rounds_of zero count = []
rounds_of (suc times) count = round_from 0 count ++ rounds_of times count

abbrev pub passes_where : ℕ → Option ℕ → List Move
passes_where times None = []
passes_where times (Some position) = passes_of times position

-- ---- a line

-- Names are those of the devices, in declared order. What a line declares is there from the start.
abbrev pub common_moves : List (List ℕ) → ℕ → Step → List Move
common_moves names line (step.Account name) = []
common_moves names line (step.Device name account) = []
common_moves names line (step.Say device to text) = move_of (λ position. Say position line to text false) (position_of device names)
common_moves names line (step.Private device to text) = move_of (λ position. Say position line to text true) (position_of device names)
common_moves names line (step.Catchup device most) = move_of (λ position. CatchUp position line most) (position_of device names)
common_moves names line (step.Tick milliseconds) = Tick milliseconds ∷ []

-- so many connections are there
abbrev pub step_moves : List (List ℕ) → ℕ → ℕ → WireStep → List Move
step_moves names count line (wire.Common step) = common_moves names line step
step_moves names count line (wire.Dial device) = move_of Dial (position_of device names)
step_moves names count line (wire.Forget device) = move_of Forget (position_of device names)
step_moves names count line (wire.Close device) = move_of Close (position_of device names)
step_moves names count line (wire.Up k bytes) = move_of (λ position. Up position bytes) (position_under k)
step_moves names count line (wire.Down k bytes) = move_of (λ position. Down position bytes) (position_under k)
step_moves names count line (wire.Cut k up down) = move_of (λ position. Cut position up down) (position_under k)
step_moves names count line (wire.Pass k times) = passes_where times (position_under k)
step_moves names count line (wire.Run times) = rounds_of times count

abbrev pub moves_of : WireLine → ByteWorld → List Move
moves_of line w = step_moves w.names (length w.wires) line.number line.step

-- the world behind a line, and behind lines one after another
abbrev pub stepped : WireLine → ByteWorld → ByteWorld
stepped line w = all_moved (moves_of line w) w

abbrev pub all_stepped : List WireLine → ByteWorld → ByteWorld
all_stepped [] w = w
all_stepped (line ∷ lines) w = all_stepped lines (stepped line w)
