use Rattle.std.proofs.Common.{◌≡◌, ◌-◌, ◌+◌, suc, subst, sym, ◌∙◌, arith}
use Rattle.cmd_resolving.specs.Expansion.{Watching}
use Rattle.cmd_deciding.specs.Looks.{EachNamed}
use Rattle.cmd_deciding.specs.Turns.{turns}
use Rattle.cmd_deciding.proofs.Named.{turned_named}
use Rattle.cmd_deciding.proofs.Turned.{turn_more}
use Rattle.cmd_deciding.proofs.watch.Watch.turns.Goals as goal

pub loop-i-preserved : goal.loop-i-preserved
loop-i-preserved c =
    let left : c.args.left - c.loop-i.i ≡ suc (c.args.left - (c.loop-i.i + 1)) = omega arith in
    let was : turns (suc (c.args.left - (c.loop-i.i + 1))) c.args.number c.args.index c.args.most c.loop-i.self ≡ turns c.args.left c.args.number c.args.index c.args.most c.args.self.now = rw left at c.loop-i.invariant.whole in
    record {
      named = subst (λ (s : Watching). EachNamed s.intents) (sym c.in_ok-turn.ensures.state) (turned_named c.args.number c.args.index c.args.most c.loop-i.self c.loop-i.invariant.named);
      whole = turn_more (c.args.left - (c.loop-i.i + 1)) c.args.number c.args.index c.args.most c.loop-i.self c.turn.new.self _ (sym c.in_ok-turn.ensures.more ∙ c.if-not-branch.false) c.in_ok-turn.ensures.state was;
    }
