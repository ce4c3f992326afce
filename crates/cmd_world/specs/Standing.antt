-- What is asked of a world, and of a line that it takes.
use Rattle.std.specs.Prelude.{ℕ, ◌+◌, ◌<◌, ◌≤◌, ◌^◌, List, [], ◌∷◌, IsTrue, length}
use Rattle.cmd_schedule.specs.Grammar.{is_name}
use Rattle.cmd_schedule.specs.declared.schedule.Step.{Step}
use Rattle.cmd_schedule.specs.declared.schedule.Step.TheVariants as step
use Rattle.cmd_schedule.specs.declared.schedule.WireLine.{WireLine}
use Rattle.cmd_schedule.specs.declared.schedule.WireStep.{WireStep}
use Rattle.cmd_schedule.specs.declared.schedule.WireStep.TheVariants as wire
use Rattle.cmd_world.specs.Lines.{stepped}
use Rattle.cmd_world.specs.Worlds.{ByteWorld}

-- no number is above the last
abbrev pub Below : {X : Type 0} → ℕ → List (ℕ × X) → Type 0
Below last [] = Unit {0}
Below last (e ∷ es) = (e.0 ≤ last) × Below last es

-- the server knows of no connection that wasn't dialed
abbrev pub IsNumbered : ByteWorld → Type 0
IsNumbered w = Below (length w.wires) w.server.server_state.conns × Below (length w.wires) w.server.framers

-- the account of a message is a name, a page has 1 to 100 results, and the moment has 64 bits
abbrev pub MayAsk : Step → ByteWorld → Type 0
MayAsk (step.Say device to text) w = IsTrue (is_name to)
MayAsk (step.Private device to text) w = IsTrue (is_name to)
MayAsk (step.Catchup device most) w = (1 ≤ most) × (most ≤ 100)
MayAsk (step.Tick milliseconds) w = w.moment + milliseconds < 2 ^ 64
MayAsk (step.Account name) w = Unit {0}
MayAsk (step.Device name account) w = Unit {0}

abbrev pub MayStep : WireStep → ByteWorld → Type 0
MayStep (wire.Common step) w = MayAsk step w
MayStep _ w = Unit {0}

-- the same of lines one after another
abbrev pub MayAllStep : List WireLine → ByteWorld → Type 0
MayAllStep [] w = Unit {0}
MayAllStep (line ∷ lines) w = MayStep line.step w × MayAllStep lines (stepped line w)
