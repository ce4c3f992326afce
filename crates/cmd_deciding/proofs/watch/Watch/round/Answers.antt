use Rattle.std.proofs.Common.{◌≡◌, ◌-◌, ◌+◌, suc, subst, sym, arith}
use Rattle.cmd_world.specs.Lines.{pass_of, round_from}
use Rattle.cmd_resolving.specs.Expansion.{watched}
use Rattle.cmd_deciding.specs.Looks.{HasLooked}
use Rattle.cmd_deciding.proofs.Watched.{round_more, watched_looked}
use Rattle.cmd_deciding.proofs.watch.Watch.round.Goals as goal

pub loop-position-preserved : goal.loop-position-preserved
loop-position-preserved c =
    let at = c.loop-position.position in
    let left : c.args.count - at ≡ suc (c.args.count - (at + 1)) = omega arith in
    let was : watched (round_from at (suc (c.args.count - (at + 1)))) c.loop-position.self ≡ watched (round_from 0 c.args.count) c.args.self.now = rw left at c.loop-position.invariant.whole in
    record {
      looked = subst HasLooked (sym c.in_ok-pass.ensures) (watched_looked (pass_of at) c.loop-position.self c.loop-position.invariant.looked);
      whole = round_more (c.args.count - (at + 1)) at c.loop-position.self _ _ c.in_ok-pass.ensures was;
    }
