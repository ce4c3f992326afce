use Rattle.std.proofs.Common.{◌∙◌, arith}
use Rattle.auth_primitives.specs.Hashes.{u_of, xor_to}
use Rattle.auth_primitives.proofs.Iterating.{hi_of-all, u_of-next, xor_to-next}
use Rattle.auth_primitives.proofs.keyed_hash.hi.Goals as goal

pub rounds-init : goal.rounds-init
unfolding u_of xor_to
rounds-init c = let e = c.of_two-u.ensures _ c.new-keyed.ensures in record { last = e; all = e }

pub rounds-preserved : goal.rounds-preserved
rounds-preserved c =
    let next = u_of-next c.args.password.now c.args.salt.now c.rounds.u c.of-u.result c.rounds.k c.rounds.invariant.last (c.of-u.ensures _ c.new-keyed.ensures) in
    record {
      last = next;
      all = c.xor-all.ensures ∙ xor_to-next c.args.password.now c.args.salt.now c.rounds.all c.of-u.result c.rounds.k c.rounds.invariant.all next;
    }

pub returns : goal.returns
returns c =
    hi_of-all c.args.password.now c.args.salt.now c.rounds.all c.args.i c.rounds.k (omega (arith, c.rounds.auto.k-end, c.rounds-test.false)) c.rounds.invariant.all
