use Rattle.std.proofs.Common.{◌≡◌, ◌+◌, ◌≤◌, ◌++◌, length}
use Rattle.xml_tokens.specs.Spelling.{written}
use Rattle.xml_tokens.proofs.spelling.append_written.Given as goal

-- what was written and what is left to write are the whole
abbrev pub invariant-loop-rest : goal.invariant-loop-rest
invariant-loop-rest l =
    record {
      items : l.out.items ++ written l.form l.rest ≡ l.fn.out.items ++ written l.form l.bytes;
      spare : l.fn.out.spare + length (written l.form l.rest) ≤ l.out.spare + length (written l.form l.bytes);
      room : length (written l.form l.rest) ≤ l.out.spare;
    }

abbrev pub decreases-loop-rest : goal.decreases-loop-rest
decreases-loop-rest l = length l.rest
