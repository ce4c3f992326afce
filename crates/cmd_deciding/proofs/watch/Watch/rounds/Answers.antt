use Rattle.std.proofs.Common.{◌≡◌, ◌-◌, ◌+◌, suc, subst, sym, arith}
use Rattle.cmd_world.specs.Lines.{round_from, rounds_of}
use Rattle.cmd_resolving.specs.Expansion.{watched}
use Rattle.cmd_deciding.specs.Looks.{HasLooked}
use Rattle.cmd_deciding.proofs.Watched.{rounds_more, watched_looked}
use Rattle.cmd_deciding.proofs.watch.Watch.rounds.Goals as goal

pub loop-i-preserved : goal.loop-i-preserved
loop-i-preserved c =
    let left : c.args.times - c.loop-i.i ≡ suc (c.args.times - (c.loop-i.i + 1)) = omega arith in
    let was : watched (rounds_of (suc (c.args.times - (c.loop-i.i + 1))) c.args.count) c.loop-i.self ≡ watched (rounds_of c.args.times c.args.count) c.args.self.now = rw left at c.loop-i.invariant.whole in
    record {
      looked = subst HasLooked (sym c.in_ok-round.ensures) (watched_looked (round_from 0 c.args.count) c.loop-i.self c.loop-i.invariant.looked);
      whole = rounds_more (c.args.times - (c.loop-i.i + 1)) c.args.count c.loop-i.self _ _ c.in_ok-round.ensures was;
    }
