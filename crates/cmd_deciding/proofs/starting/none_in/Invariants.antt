-- Those of the lines so far.
use Rattle.std.proofs.Common.{◌≡◌, map, take}
use Rattle.cl_intents.specs.Intents.{without_rooms}
use Rattle.cmd_deciding.specs.Starts.{none_in}
use Rattle.cmd_deciding.proofs.starting.none_in.Given as goal

abbrev pub invariant-loop-line : goal.invariant-loop-line
invariant-loop-line l = map without_rooms l.intents.items ≡ none_in (take l.line-index l.lines)
