use Rattle.std.proofs.Common.{◌≡◌, ◌++◌, drop}
use Rattle.auth_scram.specs.Values.{name_of, unescaped}
use Rattle.auth_scram.proofs.contents.unescaped.Given as goal

-- what was decoded, and what the rest decodes to, is the name
abbrev pub invariant-loop-byte : goal.invariant-loop-byte
invariant-loop-byte l = l.name.items ++ unescaped l.left (drop l.byte-index l.spelled) ≡ name_of l.spelled
