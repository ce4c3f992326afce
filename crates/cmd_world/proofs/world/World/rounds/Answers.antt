use Rattle.std.proofs.Common.{◌≡◌, ◌-◌, ◌+◌, suc, arith}
use Rattle.cmd_world.proofs.TurnsLeft.{rounds_more}
use Rattle.cmd_world.specs.Lines.{rounds_of}
use Rattle.cmd_world.specs.Moves.{all_moved}
use Rattle.cmd_world.proofs.world.World.rounds.Goals as goal

pub loop-i-preserved : goal.loop-i-preserved
loop-i-preserved c =
    let left : c.args.times - c.loop-i.i ≡ suc (c.args.times - (c.loop-i.i + 1)) = omega arith in
    let was : all_moved (rounds_of (suc (c.args.times - (c.loop-i.i + 1))) c.args.count) c.loop-i.self ≡ all_moved (rounds_of c.args.times c.args.count) c.args.self.now = rw left at c.loop-i.invariant in
    rounds_more (c.args.times - (c.loop-i.i + 1)) c.args.count c.loop-i.self _ _ c.in_ok-round.ensures was
