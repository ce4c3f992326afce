use Rattle.std.proofs.Common.{◌<◌, arith}
use Rattle.auth_primitives.proofs.SameBytes.{bytes_eq-take_more}
use Rattle.auth_primitives.proofs.comparing.is_same.Goals as goal

pub loop-i-preserved : goal.loop-i-preserved
loop-i-preserved c =
    let below : c.loop-i.i < 32 = omega (arith, c.loop-i-test.true) in
    bytes_eq-take_more c.loop-i.difference c.args.a.now c.args.b.now c.loop-i.i
    (omega (arith, c.told-a)) (omega (arith, c.told-b)) c.loop-i.invariant
