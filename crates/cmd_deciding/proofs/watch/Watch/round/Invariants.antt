-- The connections that are left lead where all of them do.
use Rattle.std.proofs.Common.{◌≡◌, ◌-◌}
use Rattle.cmd_world.specs.Lines.{round_from}
use Rattle.cmd_resolving.specs.Expansion.{watched}
use Rattle.cmd_deciding.specs.Looks.{HasLooked}
use Rattle.cmd_deciding.proofs.watch.Watch.round.Given as goal

abbrev pub invariant-loop-position : goal.invariant-loop-position
invariant-loop-position l = record {
  looked : HasLooked l.self;
  whole : watched (round_from l.position (l.count - l.position)) l.self ≡ watched (round_from 0 l.count) l.initial.self;
}
