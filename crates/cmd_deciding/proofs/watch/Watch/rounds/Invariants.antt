-- The turns that are left lead where all of them do.
use Rattle.std.proofs.Common.{◌≡◌, ◌-◌}
use Rattle.cmd_world.specs.Lines.{rounds_of}
use Rattle.cmd_resolving.specs.Expansion.{watched}
use Rattle.cmd_deciding.specs.Looks.{HasLooked}
use Rattle.cmd_deciding.proofs.watch.Watch.rounds.Given as goal

abbrev pub invariant-loop-i : goal.invariant-loop-i
invariant-loop-i l = record {
  looked : HasLooked l.self;
  whole : watched (rounds_of (l.times - l.i) l.count) l.self ≡ watched (rounds_of l.times l.count) l.initial.self;
}
