use Rattle.std.proofs.Common.{◌≡◌}
use Rattle.auth_primitives.specs.Hashes.{u_of, xor_to}
use Rattle.auth_primitives.proofs.keyed_hash.hi.Given as goal

-- U(k + 1), and the exclusive or of all up to it
abbrev pub invariant-rounds : goal.invariant-rounds
invariant-rounds l = record {
  last : l.u ≡ u_of l.password l.salt l.k;
  all : l.all ≡ xor_to l.password l.salt l.k;
}
