-- The connections that are left lead where all of them do.
use Rattle.std.proofs.Common.{◌≡◌, ◌-◌}
use Rattle.cmd_world.specs.Lines.{round_from}
use Rattle.cmd_world.specs.Moves.{all_moved}
use Rattle.cmd_world.proofs.world.World.round.Given as goal

abbrev pub invariant-loop-position : goal.invariant-loop-position
invariant-loop-position l = all_moved (round_from l.position (l.count - l.position)) l.self ≡ all_moved (round_from 0 l.count) l.initial.self
