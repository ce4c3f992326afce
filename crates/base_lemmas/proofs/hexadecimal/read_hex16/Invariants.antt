use Rattle.std.proofs.Common.{◌≡◌, ◌^◌, ◌<◌, length, take}
use Rattle.base_lemmas.specs.Hexadecimal.{hex_digits}
use Rattle.base_lemmas.proofs.hexadecimal.read_hex16.Given as goal

-- the digits that are read are those of the number
abbrev pub invariant-loop-digit : goal.invariant-loop-digit
invariant-loop-digit l = record {
  size : length l.text ≡ 16;
  read : take l.digit-index l.text ≡ hex_digits l.digit-index l.number;
  low : l.number < 16 ^ l.digit-index;
}
