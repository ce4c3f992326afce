use Rattle.std.proofs.Common.{◌≡◌, ◌-◌, ◌≤◌, drop, length}
use Rattle.xml_framer.specs.Machine.{IsFrontOf, run}
use Rattle.xml_framer.specs.States.{turn}
use Rattle.xml_framer.proofs.framer.Framer.take_all.Given as goal

abbrev pub invariant-loop-done : goal.invariant-loop-done
invariant-loop-done l = record {
  bound : l.done ≤ length l.piece;
  left : run (turn l.self l.items.items) (drop l.done l.piece) ≡ run (turn l.initial.self l.initial.items.items) l.piece;
  kept : IsFrontOf l.initial.items.items l.items.items;
}

abbrev pub decreases-loop-done : goal.decreases-loop-done
decreases-loop-done l = length l.piece - l.done
