use Rattle.std.proofs.Common.{◌≡◌, None, length}
use Rattle.xml_check.specs.Checked.{told_after}
use Rattle.xml_check.specs.Pieces.{told_from}
use Rattle.xml_check.proofs.checking.tell_pieces.Given as goal

-- what was told, and the bytes ahead
abbrev pub invariant-loop-rest : goal.invariant-loop-rest
invariant-loop-rest l = record {
  sound : l.framer.fault ≡ None;
  told : told_after l.initial.text.items (told_from l.initial.framer l.input) ≡ told_after l.text.items (told_from l.framer l.rest);
}

abbrev pub decreases-loop-rest : goal.decreases-loop-rest
decreases-loop-rest l = length l.rest
