-- The turns that are left lead where all of them do.
use Rattle.std.proofs.Common.{◌≡◌, ◌-◌}
use Rattle.cmd_deciding.specs.Looks.{EachNamed}
use Rattle.cmd_deciding.specs.Turns.{turns}
use Rattle.cmd_deciding.proofs.watch.Watch.turns.Given as goal

abbrev pub invariant-loop-i : goal.invariant-loop-i
invariant-loop-i l = record {
  named : EachNamed l.self.intents;
  whole : turns (l.left - l.i) l.number l.index l.most l.self ≡ turns l.left l.number l.index l.most l.initial.self;
}
