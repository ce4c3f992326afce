use Rattle.std.proofs.Common.{◌≡◌, length, take}
use Rattle.auth_primitives.specs.Hashes.{masked}
use Rattle.auth_primitives.proofs.keyed_hash.masked.Given as goal

-- the masked bytes so far
abbrev pub invariant-loop-i : goal.invariant-loop-i
invariant-loop-i l = record {
  whole : length l.out ≡ 64;
  so_far : take l.i l.out ≡ masked l.mask (take l.i l.block);
}
