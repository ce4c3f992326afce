use Rattle.std.proofs.Common.{◌≡◌, ◌+◌, ◌-◌, ◌^◌, ◌≤◌, min, length}
use Rattle.xml_tokens.specs.Spelling.{written}
use Rattle.xml_tokens.proofs.spelling.written_len.Given as goal

-- what was counted and what is left are the whole
abbrev pub invariant-loop-rest : goal.invariant-loop-rest
invariant-loop-rest l =
    record {
      counted : min (l.len + length (written l.form l.rest)) (2 ^ 64 - 1) ≡ min (length (written l.form l.bytes)) (2 ^ 64 - 1);
      bound : l.len ≤ 2 ^ 64 - 1;
    }

abbrev pub decreases-loop-rest : goal.decreases-loop-rest
decreases-loop-rest l = length l.rest
