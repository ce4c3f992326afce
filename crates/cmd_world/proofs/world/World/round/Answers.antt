use Rattle.std.proofs.Common.{◌≡◌, ◌-◌, ◌+◌, suc, arith}
use Rattle.cmd_world.proofs.TurnsLeft.{round_more}
use Rattle.cmd_world.specs.Lines.{round_from}
use Rattle.cmd_world.specs.Moves.{all_moved}
use Rattle.cmd_world.proofs.world.World.round.Goals as goal

pub loop-position-preserved : goal.loop-position-preserved
loop-position-preserved c =
    let at = c.loop-position.position in
    let left : c.args.count - at ≡ suc (c.args.count - (at + 1)) = omega arith in
    let was : all_moved (round_from at (suc (c.args.count - (at + 1)))) c.loop-position.self ≡ all_moved (round_from 0 c.args.count) c.args.self.now = rw left at c.loop-position.invariant in
    round_more (c.args.count - (at + 1)) at c.loop-position.self _ _ c.in_ok-pass.ensures was
