use Rattle.std.proofs.Common.{◌≡◌, min, take}
use Rattle.auth_scram.specs.Values.{most_told, value_of}
use Rattle.auth_scram.proofs.contents.count_of.Given as goal

abbrev pub invariant-loop-digit : goal.invariant-loop-digit
invariant-loop-digit l = l.count ≡ min (value_of (take l.digit-index l.digits)) most_told
