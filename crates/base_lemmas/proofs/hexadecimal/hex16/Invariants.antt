use Rattle.std.proofs.Common.{◌≡◌, ◌≤◌, ◌++◌, drop, length}
use Rattle.base_lemmas.specs.Hexadecimal.{hex_digits, hex16_of}
use Rattle.base_lemmas.proofs.hexadecimal.hex16.Given as goal

-- the digits that are left, before those that are written
abbrev pub invariant-loop-at : goal.invariant-loop-at
invariant-loop-at l = record {
  within : l.at ≤ 16;
  size : length l.text ≡ 16;
  split : hex_digits l.at l.rest ++ drop l.at l.text ≡ hex16_of l.number;
}

abbrev pub decreases-loop-at : goal.decreases-loop-at
decreases-loop-at l = l.at
