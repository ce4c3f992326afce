use Rattle.std.proofs.Common.{◌<◌, arith}
use Rattle.std.proofs.Math.ListN.{length-set}
use Rattle.auth_primitives.proofs.Xors.{xor_bytes-take_more}
use Rattle.auth_primitives.proofs.keyed_hash.xor.Goals as goal

pub loop-i-preserved : goal.loop-i-preserved
loop-i-preserved c =
    let below : c.loop-i.i < 32 = omega (arith, c.loop-i-test.true) in
    record {
      whole = simp length-set c.loop-i.invariant.whole;
      so_far = xor_bytes-take_more c.loop-i.out c.args.a.now c.args.b.now c.loop-i.i
          (omega (arith, c.loop-i.invariant.whole)) (omega (arith, c.told-a)) (omega (arith, c.told-b)) c.loop-i.invariant.so_far;
    }
