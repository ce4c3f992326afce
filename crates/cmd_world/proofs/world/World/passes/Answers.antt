use Rattle.std.proofs.Common.{◌≡◌, ◌-◌, ◌+◌, suc, arith}
use Rattle.cmd_world.proofs.TurnsLeft.{passes_more}
use Rattle.cmd_world.specs.Lines.{passes_of}
use Rattle.cmd_world.specs.Moves.{all_moved}
use Rattle.cmd_world.proofs.world.World.passes.Goals as goal

pub loop-i-preserved : goal.loop-i-preserved
loop-i-preserved c =
    let left : c.args.times - c.loop-i.i ≡ suc (c.args.times - (c.loop-i.i + 1)) = omega arith in
    let was : all_moved (passes_of (suc (c.args.times - (c.loop-i.i + 1))) c.args.position) c.loop-i.self ≡ all_moved (passes_of c.args.times c.args.position) c.args.self.now = rw left at c.loop-i.invariant in
    passes_more (c.args.times - (c.loop-i.i + 1)) c.args.position c.loop-i.self _ _ c.in_ok-pass.ensures was
