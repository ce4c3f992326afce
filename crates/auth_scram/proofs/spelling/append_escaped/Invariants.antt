use Rattle.std.proofs.Common.{◌≡◌, ◌++◌, take}
use Rattle.auth_scram.specs.Grammar.{escaped}
use Rattle.auth_scram.proofs.spelling.append_escaped.Given as goal

-- the name so far has been added
abbrev pub invariant-loop-byte : goal.invariant-loop-byte
invariant-loop-byte l = l.message.items ≡ l.fn.message.items ++ escaped (take l.byte-index l.name)
