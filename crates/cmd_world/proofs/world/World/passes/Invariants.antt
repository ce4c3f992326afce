-- The turns that are left lead where all of them do.
use Rattle.std.proofs.Common.{◌≡◌, ◌-◌}
use Rattle.cmd_world.specs.Lines.{passes_of}
use Rattle.cmd_world.specs.Moves.{all_moved}
use Rattle.cmd_world.proofs.world.World.passes.Given as goal

abbrev pub invariant-loop-i : goal.invariant-loop-i
invariant-loop-i l = all_moved (passes_of (l.times - l.i) l.position) l.self ≡ all_moved (passes_of l.times l.position) l.initial.self
