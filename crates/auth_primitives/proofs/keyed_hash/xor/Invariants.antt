use Rattle.std.proofs.Common.{◌≡◌, length, take}
use Rattle.auth_primitives.specs.Hashes.{xor_bytes}
use Rattle.auth_primitives.proofs.keyed_hash.xor.Given as goal

-- the exclusive or of the bytes so far
abbrev pub invariant-loop-i : goal.invariant-loop-i
invariant-loop-i l = record {
  whole : length l.out ≡ 32;
  so_far : take l.i l.out ≡ xor_bytes (take l.i l.a) (take l.i l.b);
}
