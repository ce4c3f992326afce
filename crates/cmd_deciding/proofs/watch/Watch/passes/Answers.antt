use Rattle.std.proofs.Common.{◌≡◌, ◌-◌, ◌+◌, suc, subst, sym, arith}
use Rattle.cmd_world.specs.Lines.{pass_of, passes_of}
use Rattle.cmd_resolving.specs.Expansion.{watched}
use Rattle.cmd_deciding.specs.Looks.{HasLooked}
use Rattle.cmd_deciding.proofs.Watched.{passes_more, watched_looked}
use Rattle.cmd_deciding.proofs.watch.Watch.passes.Goals as goal

pub loop-i-preserved : goal.loop-i-preserved
loop-i-preserved c =
    let left : c.args.times - c.loop-i.i ≡ suc (c.args.times - (c.loop-i.i + 1)) = omega arith in
    let was : watched (passes_of (suc (c.args.times - (c.loop-i.i + 1))) c.args.position) c.loop-i.self ≡ watched (passes_of c.args.times c.args.position) c.args.self.now = rw left at c.loop-i.invariant.whole in
    record {
      looked = subst HasLooked (sym c.in_ok-pass.ensures) (watched_looked (pass_of c.args.position) c.loop-i.self c.loop-i.invariant.looked);
      whole = passes_more (c.args.times - (c.loop-i.i + 1)) c.args.position c.loop-i.self _ _ c.in_ok-pass.ensures was;
    }
