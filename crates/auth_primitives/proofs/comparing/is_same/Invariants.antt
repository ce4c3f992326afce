use Rattle.std.proofs.Common.{◌≡◌, take, nat_eq}
use Rattle.std.specs.Str.{bytes_eq}
use Rattle.auth_primitives.proofs.comparing.is_same.Given as goal

-- no difference was found where the bytes so far are the same
abbrev pub invariant-loop-i : goal.invariant-loop-i
invariant-loop-i l = nat_eq l.difference 0 ≡ bytes_eq (take l.i l.a) (take l.i l.b)
