-- The turns that are left lead where all of them do.
use Rattle.std.proofs.Common.{◌≡◌, ◌-◌}
use Rattle.cmd_world.specs.Lines.{passes_of}
use Rattle.cmd_resolving.specs.Expansion.{watched}
use Rattle.cmd_deciding.specs.Looks.{HasLooked}
use Rattle.cmd_deciding.proofs.watch.Watch.passes.Given as goal

abbrev pub invariant-loop-i : goal.invariant-loop-i
invariant-loop-i l = record {
  looked : HasLooked l.self;
  whole : watched (passes_of (l.times - l.i) l.position) l.self ≡ watched (passes_of l.times l.position) l.initial.self;
}
