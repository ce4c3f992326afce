use Rattle.std.proofs.Common.{◌≡◌, ◌-◌, ◌++◌, take, replicate}
use Rattle.auth_primitives.proofs.keyed_hash.filled.Given as goal

-- the text so far, and zeros
abbrev pub invariant-loop-i : goal.invariant-loop-i
invariant-loop-i l = l.block ≡ take l.i l.text ++ replicate (64 - l.i) 0
